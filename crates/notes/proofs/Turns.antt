-- One table taken away, and the next: what rows and masks mean then.
--
--   notes_in J u f a         the notes of taking u away where f and a are the two ends that stay; the tables in use play no part
--   joins_after J u f a      the joins then
--   joins_then               they are, once the joins of u are out and that of f and a is in
--   symmetric_then           and they go both ways
--   any_noted                a note where there is one
--   noted_in, taken_in       the notes and the part after one table, by rows and sets
use Rattle.std.proofs.Common.{◌≡◌, ℕ, ◌<◌, Bool, true, false, cond, not, ◌&&◌, ◌||◌, eqb, ltb, Option, List, [], ◌∷◌, get_or, sym, refl, ap, ◌∙◌, arith}
use Rattle.std.proofs.lemmas.Bool.Decides.{nat_tests}
use Rattle.theory.specs.Graph.{same_pair}
use Rattle.theory.specs.Build.{with_join}
use Rattle.theory.specs.declared.step.Step.{Step}
use Rattle.sets.specs.Set.{bit}
use Rattle.std.specs.Bool.{then_some}
use Rattle.disassembly.specs.Walks.{without}
use Rattle.disassembly.specs.Disassembly.{spliced, nearest, nearest_of, taken, noted, part_of, notes_of}
use Rattle.disassembly.proofs.Undo.{part_path}
use Rattle.disassembly.proofs.Away.{taken_is}
use Rattle.sets.specs.Set.{tables_of}
use Rattle.sets.specs.Rows.{in_row}
use Rattle.notes.specs.Notes.{part_in, Symmetric, others, any}
use Rattle.notes.proofs.Strip.{symmetric_out}

-- ---- one table

abbrev pub notes_in : (ℕ → ℕ → Bool) → ℕ → ℕ → ℕ → List Step
notes_in J u f a = notes_of u f a (others J u f a) (part_of (λ _. false) J)

abbrev pub joins_after : (ℕ → ℕ → Bool) → ℕ → ℕ → ℕ → ℕ → ℕ → Bool
joins_after J u f a = with_join f a (λ x y. (not (eqb u x) && not (eqb u y)) && J x y)

module _ (J K L : ℕ → ℕ → Bool) (u f a : ℕ) (lf : f < 64) (la : a < 64)
    (out : (x y : ℕ) → K x y ≡ ((not (eqb u x) && not (eqb u y)) && J x y))
    (put : (x y : ℕ) → L x y ≡ (((ltb f 64 && ltb a 64) && same_pair f a x y) || K x y)) where
  put_in : (x y : ℕ) → L x y ≡ with_join f a K x y
  put_in x y = put x y ∙ ap (λ c. (c && same_pair f a x y) || K x y) span
    where
      span : (ltb f 64 && ltb a 64) ≡ true
      span = grind (arith, nat_tests)

  pub joins_then : (x y : ℕ) → L x y ≡ joins_after J u f a x y
  joins_then x y = put_in x y ∙ ap (λ k. same_pair f a x y || k) (out x y)

  pub symmetric_then : Symmetric J → Symmetric L
  symmetric_then s x y = put_in x y ∙ turned ∙ sym (put_in y x)
    where
      turned : with_join f a K x y ≡ with_join f a K y x
      turned = let e : K x y ≡ K y x = symmetric_out J K u s out x y in grind (arith, nat_tests)

pub any_noted : (o : Option Step) (b : Bool) (s : Step) → o ≡ then_some b s → any o ≡ cond b (s ∷ []) []
any_noted o true s e = ap any e
any_noted o false s e = ap any e

pub noted_in : (parent rank : ℕ → ℕ) (u tables : ℕ) (rows : List ℕ)
    → noted parent rank u (part_in tables rows) ≡ notes_in (in_row rows) u (parent u) (nearest rank (parent u) (tables_of (get_or rows u 0)))
unfolding noted nearest_of others tables_of
noted_in parent rank u tables rows = refl

nearest_in : (parent rank : ℕ → ℕ) (u tables : ℕ) (rows : List ℕ) → nearest_of parent rank u (part_in tables rows) ≡ nearest rank (parent u) (tables_of (get_or rows u 0))
unfolding nearest_of tables_of
nearest_in parent rank u tables rows = refl

pub taken_in : (parent rank : ℕ → ℕ) (u tables tables' : ℕ) (rows rows' : List ℕ) → ((x : ℕ) → bit tables' x ≡ (not (eqb x u) && bit tables x))
    → ((x y : ℕ) → in_row rows' x y ≡ joins_after (in_row rows) u (parent u) (nearest rank (parent u) (tables_of (get_or rows u 0))) x y)
    → taken parent rank u (part_in tables rows) ≡ part_in tables' rows'
taken_in parent rank u tables tables' rows rows' used joins =
    taken_is parent rank u (part_in tables rows)
    ∙ ap (λ a. spliced u (parent u) a (part_in tables rows)) (nearest_in parent rank u tables rows)
    ∙ part_path (spliced u (parent u) (nearest rank (parent u) (tables_of (get_or rows u 0))) (part_in tables rows)) (part_in tables' rows')
    (λ x. sym (used x ∙ turned x)) (λ x y. sym (joins x y))
  where
    turned : (x : ℕ) → (not (eqb x u) && bit tables x) ≡ without u (bit tables) x
    turned x = let e : eqb x u ≡ eqb u x = grind (arith, nat_tests) in rw e refl
