-- The first condition of a list that holds.
--
--   first_off     a condition that does not hold is passed
--   first_ok      nothing is refused: the first condition does not hold, nor one of the rest
--   first_err     something is refused: by the first condition, or, where that does not hold, by the rest
--   joins_ok      a store takes a pair of two tables that is not joined
use Rattle.std.proofs.Common.{◌≡◌, ℕ, ◌+◌, ◌<◌, ◌≤◌, Bool, true, false, not, eqb, leb, nat_lt, ◌⊎◌, List, [], ◌∷◌, Ok, Err, sym, ◌∙◌, inl, inr, ⊎_elim, arith}
use Rattle.std.proofs.lemmas.Bool.{cases_Bool, cond-true, cond-false}
use Rattle.std.proofs.lemmas.Bool.Decides.{nat_tests}
use Rattle.theory.specs.Graph.{Graph, Simple, joined, is_table, table_count, joining, size}
use Rattle.theory.proofs.Sizes.{joining_size, size_most}
use Rattle.graph.specs.First.{refused_first}
use Rattle.graph.specs.Store.{join_answer}
use Rattle.graph.specs.declared.fault.StoreFault.{StoreFault}
use Rattle.graph.specs.declared.fault.StoreFault.TheVariants.{UnknownTable, SameTable, AlreadyJoined, Full}

pub first_off : {F : Type 0} (p : Bool) (f : F) (rest : List (Bool × F)) → p ≡ false → refused_first ((p, f) ∷ rest) ≡ refused_first rest
first_off p f rest e = cond-false p (Err f) (refused_first rest) e

pub first_ok : {F : Type 0} (p : Bool) (f : F) (rest : List (Bool × F)) → refused_first ((p, f) ∷ rest) ≡ Ok tt → (p ≡ false) × (refused_first rest ≡ Ok tt)
first_ok p f rest e = ⊎_elim
    (λ (t : p ≡ true). absurd (let z : Err f ≡ Ok tt = sym (cond-true p (Err f) (refused_first rest) t) ∙ e in cc))
    (λ (t : p ≡ false). (t, sym (first_off p f rest t) ∙ e))
    (cases_Bool p)

pub first_err : {F : Type 0} (p : Bool) (f : F) (rest : List (Bool × F)) (g : F) → refused_first ((p, f) ∷ rest) ≡ Err g
    → ((p ≡ true) × (f ≡ g)) ⊎ ((p ≡ false) × (refused_first rest ≡ Err g))
first_err p f rest g e = ⊎_elim
    (λ (t : p ≡ true). inl (t, (let z : Err f ≡ Err g = sym (cond-true p (Err f) (refused_first rest) t) ∙ e in cc)))
    (λ (t : p ≡ false). inr (t, sym (first_off p f rest t) ∙ e))
    (cases_Bool p)

-- ---- a store with room for all pairs

in_order : (n a b : ℕ) → a < n → b < n → (a ≡ b → ⊥) → (not (nat_lt a n) ≡ false) × (not (nat_lt b n) ≡ false) × (eqb a b ≡ false)
in_order n a b an bn ne = (grind (arith, nat_tests), grind (arith, nat_tests), grind (arith, nat_tests))

some_room : (k : ℕ) → k + 1 ≤ 2016 → leb 2016 k ≡ false
some_room k h = grind (arith, nat_tests)

module _ (m : Graph) (a b : ℕ) where
  abbrev Cases : Type 0
  Cases = List (Bool × StoreFault)

  abbrev full : Cases
  full = (leb 2016 (size m), Full 2016) ∷ []

  abbrev again : Cases
  again = (joined m a b, AlreadyJoined a b) ∷ full

  abbrev same : Cases
  same = (eqb a b, SameTable a) ∷ again

  abbrev other : Cases
  other = (not (is_table m b), UnknownTable b) ∷ same

  pub joins_ok : Simple m → a < table_count m → b < table_count m → (a ≡ b → ⊥) → joined m a b ≡ false → join_answer m 2016 a b ≡ Ok tt
  joins_ok s an bn ne off =
      let order = in_order (table_count m) a b an bn ne in
      let more : size (joining m a b) ≡ size m + 1 = joining_size m a b an bn ne s off in
      let most : size (joining m a b) ≤ 2016 = size_most (joining m a b) s.few in
      let room : leb 2016 (size m) ≡ false = some_room (size m) (omega arith) in
      first_off (not (is_table m a)) (UnknownTable a) other order.0
      ∙ (first_off (not (is_table m b)) (UnknownTable b) same order.1
      ∙ (first_off (eqb a b) (SameTable a) again order.2
      ∙ (first_off (joined m a b) (AlreadyJoined a b) full off
      ∙ first_off (leb 2016 (size m)) (Full 2016) [] room)))
