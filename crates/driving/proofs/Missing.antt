-- Marks that are no joins of the graph.
--
--   missing_is, missing_not, missing_root, missing_beyond
--                     when the mark of a table is missing
--   missing_tells     what that tells
--   lowest_here       the lowest missing mark
--   none_missing      none is missing
--   lowest_tells, none_tells, lowest_either
--                     what the lowest tells, or that there is none
use Rattle.std.proofs.Common.{◌≡◌, ℕ, ◌<◌, ◌≤◌, Bool, true, false, not, ◌&&◌, eqb, ltb, ◌⊎◌, Some, None, ⊎_elim, arith}
use Rattle.std.proofs.lemmas.Bool.{cases_lt}
use Rattle.std.proofs.lemmas.Bool.Decides.{nat_tests}
use Rattle.theory.specs.Graph.{Graph, joined, table_count}
use Rattle.disassembly.proofs.Members.{lowest_cases, lowest_some, lowest_is, lowest_none, none_is}
use Rattle.spanning.specs.Laws.{parent_in}
use Rattle.driving.specs.Drive.{missing, lowest_missing}

test_true : (n x : ℕ) (j : Bool) → x < n → (x ≡ 0 → ⊥) → j ≡ false → ((ltb x n && not (eqb x 0)) && not j) ≡ true
test_true n x j l n0 e = grind (arith, nat_tests)

test_joined : (n x : ℕ) (j : Bool) → j ≡ true → ((ltb x n && not (eqb x 0)) && not j) ≡ false
test_joined n x j e = grind (arith, nat_tests)

test_root : (n x : ℕ) (j : Bool) → x ≡ 0 → ((ltb x n && not (eqb x 0)) && not j) ≡ false
test_root n x j e = grind (arith, nat_tests)

test_beyond : (n x : ℕ) (j : Bool) → n ≤ x → ((ltb x n && not (eqb x 0)) && not j) ≡ false
test_beyond n x j l = grind (arith, nat_tests)

test_tells : (n x : ℕ) (j : Bool) → ((ltb x n && not (eqb x 0)) && not j) ≡ true → (x < n) × (x ≡ 0 → ⊥) × (j ≡ false)
test_tells n x j e = (grind (arith, nat_tests), (λ z. absurd (grind (arith, nat_tests))), grind (arith, nat_tests))

module _ (m t : Graph) where
  pub missing_is : (x : ℕ) → x < table_count t → (x ≡ 0 → ⊥) → joined m x (parent_in t x) ≡ false → missing m t x ≡ true
  unfolding missing
  missing_is x l n0 e = test_true (table_count t) x (joined m x (parent_in t x)) l n0 e

  pub missing_not : (x : ℕ) → joined m x (parent_in t x) ≡ true → missing m t x ≡ false
  unfolding missing
  missing_not x e = test_joined (table_count t) x (joined m x (parent_in t x)) e

  pub missing_root : (x : ℕ) → x ≡ 0 → missing m t x ≡ false
  unfolding missing
  missing_root x e = test_root (table_count t) x (joined m x (parent_in t x)) e

  pub missing_beyond : (x : ℕ) → table_count t ≤ x → missing m t x ≡ false
  unfolding missing
  missing_beyond x l = test_beyond (table_count t) x (joined m x (parent_in t x)) l

  pub missing_tells : (x : ℕ) → missing m t x ≡ true → (x < table_count t) × (x ≡ 0 → ⊥) × (joined m x (parent_in t x) ≡ false)
  unfolding missing
  missing_tells x e = test_tells (table_count t) x (joined m x (parent_in t x)) e

  pub lowest_here : (x : ℕ) → x < 64 → missing m t x ≡ true → ((y : ℕ) → y < x → missing m t y ≡ false) → lowest_missing m t ≡ Some x
  unfolding lowest_missing
  lowest_here x l e none = lowest_is 0 64 (missing m t) x (record { holds = e; above = omega arith; none = λ y _ k. none y k }) (omega arith)

  pub none_missing : (n : ℕ) → table_count t ≤ n → ((y : ℕ) → y < n → missing m t y ≡ false) → lowest_missing m t ≡ None
  unfolding lowest_missing
  none_missing n l none = none_is 0 64 (missing m t)
      (λ x _ _. ⊎_elim (λ k. none x k) (λ (k : n ≤ x). missing_beyond x (omega arith)) (cases_lt x n))

  pub lowest_tells : (x : ℕ) → lowest_missing m t ≡ Some x → (missing m t x ≡ true) × ((y : ℕ) → y < x → missing m t y ≡ false)
  unfolding lowest_missing
  lowest_tells x e = let low = (lowest_some 0 64 (missing m t) x e).0 in (low.holds, λ y k. low.none y (omega arith) k)

  pub none_tells : table_count t ≤ 64 → lowest_missing m t ≡ None → (y : ℕ) → missing m t y ≡ false
  unfolding lowest_missing
  none_tells few e y = ⊎_elim (λ k. lowest_none 0 64 (missing m t) e y (omega arith) (omega arith)) (λ (k : 64 ≤ y). missing_beyond y (omega arith)) (cases_lt y 64)

  pub lowest_either : ((x : ℕ) × (lowest_missing m t ≡ Some x)) ⊎ (lowest_missing m t ≡ None)
  unfolding lowest_missing
  lowest_either = lowest_cases 0 64 (missing m t)
