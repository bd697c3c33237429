-- One table taken away: what is left of the part, and that the notes, in reverse, build the part again.
--
--   part_after_is     what is left, in one: u and its joins are replaced by the join of f and a, whatever was removed before
--   taken_is, taken_in_use, taken_joins   the same for the function
--   taken_step, noted_step   what one turn takes and notes, as its parts
--   remaining_none, remaining_more, notes_none, notes_more   the functions, one turn at a time
--   reversed_notes    the notes in reverse
--   undo_away         they build the part again, where u's neighbours f and a differ
use Rattle.std.proofs.Common.{◌≡◌, ℕ, Bool, true, false, cond, not, ◌&&◌, eqb, ◌⊎◌, List, [], ◌∷◌, ◌++◌, sym, refl, ap, ◌∙◌, subst, inl, inr, ⊎_elim, arith}
use Rattle.std.proofs.lemmas.Bool.{cases_eq, cases_Bool}
use Rattle.std.proofs.lemmas.Bool.Decides.{nat_tests}
use Rattle.theory.specs.Build.{Part, with_join, without_join, Builds, done}
use Rattle.theory.specs.declared.step.Step.{Step}
use Rattle.disassembly.specs.Walks.{without}
use Rattle.disassembly.specs.Search.{has}
use Rattle.disassembly.specs.Disassembly.{edge, node, unjoin, stripped, spliced, edges, reversed, other, notes_of, part_after, RisingList, passing, nearest_of, taken, noted, remaining, all_notes}
use Rattle.disassembly.proofs.Undo.{builds_more, part_path, SimplePart, apart, reversed_append, unjoin_simple, stripped_simple, stripped_in_use, stripped_joins, undo_edge, undo_stripped, undo_node}
use Rattle.disassembly.proofs.Members.{absent}
use Rattle.disassembly.proofs.Passing.{rising_distinct}

-- ---- what is left

-- the joins of u go in any case, and the join of f and a is there in any case
after_joins : (u f a : ℕ) (vs : List ℕ) (p : Part) (x y : ℕ) → (part_after u f a vs p).joins x y ≡ (spliced u f a p).joins x y
after_joins u f a vs p x y = let e = stripped_joins u vs p x y in grind (arith, nat_tests)

pub part_after_is : (u f a : ℕ) (vs : List ℕ) (p : Part) → part_after u f a vs p ≡ spliced u f a p
part_after_is u f a vs p = part_path (part_after u f a vs p) (spliced u f a p) (λ x. ap (λ U. without u U x) (stripped_in_use u vs p)) (after_joins u f a vs p)

pub taken_is : (parent rank : ℕ → ℕ) (u : ℕ) (p : Part) → taken parent rank u p ≡ spliced u (parent u) (nearest_of parent rank u p) p
unfolding taken
taken_is parent rank u p = part_after_is u (parent u) (nearest_of parent rank u p) (passing (other u (parent u) (nearest_of parent rank u p) p)) p

pub taken_in_use : (parent rank : ℕ → ℕ) (u : ℕ) (p : Part) → (taken parent rank u p).in_use ≡ without u p.in_use
taken_in_use parent rank u p = ap (λ q. q.in_use) (taken_is parent rank u p)

pub taken_joins : (parent rank : ℕ → ℕ) (u : ℕ) (p : Part) (x y : ℕ)
    → (taken parent rank u p).joins x y ≡ with_join (parent u) (nearest_of parent rank u p) (λ x y. (not (eqb u x) && not (eqb u y)) && p.joins x y) x y
taken_joins parent rank u p x y = ap (λ q. q.joins x y) (taken_is parent rank u p)

-- ---- one turn

pub taken_step : (parent rank : ℕ → ℕ) (u : ℕ) (p : Part)
    → taken parent rank u p ≡ part_after u (parent u) (nearest_of parent rank u p) (passing (other u (parent u) (nearest_of parent rank u p) p)) p
unfolding taken
taken_step parent rank u p = refl

pub noted_step : (parent rank : ℕ → ℕ) (u : ℕ) (p : Part)
    → noted parent rank u p ≡ notes_of u (parent u) (nearest_of parent rank u p) (passing (other u (parent u) (nearest_of parent rank u p) p)) p
unfolding noted
noted_step parent rank u p = refl

pub remaining_none : (parent rank : ℕ → ℕ) (p : Part) → remaining parent rank [] p ≡ p
unfolding remaining
remaining_none parent rank p = refl

pub remaining_more : (parent rank : ℕ → ℕ) (u : ℕ) (us : List ℕ) (p : Part) → remaining parent rank (u ∷ us) p ≡ remaining parent rank us (taken parent rank u p)
unfolding remaining
remaining_more parent rank u us p = refl

pub notes_none : (parent rank : ℕ → ℕ) (p : Part) → all_notes parent rank [] p ≡ []
unfolding all_notes
notes_none parent rank p = refl

pub notes_more : (parent rank : ℕ → ℕ) (u : ℕ) (us : List ℕ) (p : Part)
    → all_notes parent rank (u ∷ us) p ≡ noted parent rank u p ++ all_notes parent rank us (taken parent rank u p)
unfolding all_notes
notes_more parent rank u us p = refl

-- ---- the notes in reverse

-- one step or none is its own reverse
reversed_one : (b : Bool) (s : Step) → reversed (cond b (s ∷ []) []) ≡ cond b (s ∷ []) []
reversed_one true s = refl
reversed_one false s = refl

pub reversed_notes : (u f a : ℕ) (vs : List ℕ) (p : Part)
    → reversed (notes_of u f a vs p) ≡ ((node u f a ∷ []) ++ cond (p.joins f a) (edge f a ∷ []) []) ++ reversed (edges u vs)
reversed_notes u f a vs p =
    reversed_append (edges u vs) (cond (p.joins f a) (edge f a ∷ []) [] ++ (node u f a ∷ []))
    ∙ ap (λ l. l ++ reversed (edges u vs))
    (reversed_append (cond (p.joins f a) (edge f a ∷ []) []) (node u f a ∷ []) ∙ ap (λ l. (node u f a ∷ []) ++ l) (reversed_one (p.joins f a) (edge f a)))

-- u's neighbours are f, a and others, the tables of vs
module _ (u f a : ℕ) (vs : List ℕ) (p : Part) (s : SimplePart p) (uf : p.joins u f ≡ true) (ua : p.joins u a ≡ true) (fa : f ≡ a → ⊥)
    (rising : RisingList (other u f a p) vs) where
  is_other : (x : ℕ) → has vs x ≡ true → (p.joins u x ≡ true) × (x ≡ f → ⊥) × (x ≡ a → ⊥)
  is_other x h = let e : other u f a p x ≡ true = sym (rising.only x) ∙ h in grind (arith, nat_tests)

  in_others : (x : ℕ) → p.joins u x ≡ true → (x ≡ f → ⊥) → (x ≡ a → ⊥) → has vs x ≡ true
  in_others x j nf na = rising.only x ∙ grind (arith, nat_tests)

  -- without the joins of u with the others
  abbrev q : Part
  q = stripped u vs p

  pub undo_away : Builds (part_after u f a vs p) (reversed (notes_of u f a vs p)) p
  undo_away =
      subst (λ l. Builds (part_after u f a vs p) l p) (sym (reversed_notes u f a vs p))
      (builds_more
      (builds_more (undo_node u f a (unjoin f a q) (unjoin_simple f a q sq) uf₂ ua₂ fa nfa only) middle)
      (undo_stripped u vs p s (rising_distinct (other u f a p) vs rising) (λ x h. (is_other x h).0)))
    where
      sq : SimplePart q
      sq = stripped_simple u vs p s

      nf : has vs f ≡ false
      nf = absent vs f (λ h. (is_other f h).1 refl)

      na : has vs a ≡ false
      na = absent vs a (λ h. (is_other a h).2 refl)

      unf : u ≡ f → ⊥
      unf = apart p s u f uf

      una : u ≡ a → ⊥
      una = apart p s u a ua

      uf₁ : q.joins u f ≡ true
      uf₁ = stripped_joins u vs p u f ∙ grind (arith, nat_tests, nf, na, unf, una)

      ua₁ : q.joins u a ≡ true
      ua₁ = stripped_joins u vs p u a ∙ grind (arith, nat_tests, nf, na, unf, una)

      fa₁ : q.joins f a ≡ p.joins f a
      fa₁ = stripped_joins u vs p f a ∙ grind (arith, nat_tests, nf, na, unf, una)

      uf₂ : without_join f a q.joins u f ≡ true
      uf₂ = grind (arith, nat_tests, nf, na, unf, una, uf₁, ua₁)

      ua₂ : without_join f a q.joins u a ≡ true
      ua₂ = grind (arith, nat_tests, nf, na, unf, una, uf₁, ua₁)

      nfa : without_join f a q.joins f a ≡ false
      nfa = grind (arith, nat_tests, nf, na, unf, una)

      only : (x : ℕ) → without_join f a q.joins u x ≡ true → (x ≡ f) ⊎ (x ≡ a)
      only x h =
          ⊎_elim
          inl
          (λ (n1 : x ≡ f → ⊥). ⊎_elim
          inr
          (λ (n2 : x ≡ a → ⊥).
          let j₁ : q.joins u x ≡ true = grind (arith, nat_tests, nf, na, unf, una) in
          let e = stripped_joins u vs p u x in
          let k : has vs x ≡ true = in_others x (grind (arith, nat_tests, nf, na, unf, una)) n1 n2 in
          absurd (grind (arith, nat_tests, nf, na, unf, una)))
          (cases_eq x a))
          (cases_eq x f)

      same_off : p.joins f a ≡ false → (x y : ℕ) → without_join f a q.joins x y ≡ q.joins x y
      same_off e x y =
          let e₁ : q.joins f a ≡ false = fa₁ ∙ e in
          let e₂ : q.joins a f ≡ false = sq.symmetric a f ∙ e₁ in
          grind (arith, nat_tests, nf, na, unf, una)

      middle : Builds (unjoin f a q) (cond (p.joins f a) (edge f a ∷ []) []) q
      middle =
          ⊎_elim
          (λ (e : p.joins f a ≡ true). rw e (undo_edge f a q sq (fa₁ ∙ e)))
          (λ (e : p.joins f a ≡ false). rw e (subst (λ k. Builds (unjoin f a q) [] k) (part_path (unjoin f a q) q (λ x. refl) (same_off e)) done))
          (cases_Bool (p.joins f a))
