-- What rows mean once a pair is put in or taken out, and what a table owes of its rows and its count.
--
--   simple_of                 a table's graph is simple: its ghost fields say so
--   outside                   what is no table has no joins
--   join_means, unjoin_means  each put into the other's row, that joins a and b; taken out, it takes the join out
--   empty_means               rows of zeros have no joins
--   Owed, owed                the ghost fields of a table whose rows mean m
use Rattle.std.proofs.Common.{◌≡◌, ℕ, zero, suc, ◌<◌, ◌≤◌, true, false, not, ◌&&◌, ◌||◌, ltb, ◌⊎◌, List, get_or, replicate, sym, refl, ap, ◌∙◌, subst, ⊎_elim, arith}
use Rattle.std.proofs.lemmas.Bool.Decides.{nat_tests}
use Rattle.std.proofs.lemmas.Bool.{cases_Bool}
use Rattle.theory.specs.Graph.{Graph, Simple, same_pair, joining, unjoining, no_joins, size}
use Rattle.theory.proofs.Sizes.{alike, size_most}
use Rattle.sets.specs.Set.{bit}
use Rattle.sets.specs.Rows.{in_row}
use Rattle.bits.specs.Rows.{rows_graph}
use Rattle.bits.specs.declared.table.BitTable.{BitTable}
use Rattle.sets.proofs.Bit.{zero_bit}

pub simple_of : (t : BitTable) → Simple (rows_graph t.count t.rows)
simple_of t = record { some = t.some; few = t.few; symmetric = t.symmetric; loopless = t.loopless; within = t.within }

pub outside : (m : Graph) (a b : ℕ) → Simple m → (m.tables ≤ a) ⊎ (m.tables ≤ b) → m.adj a b ≡ false
outside m a b s out =
    ⊎_elim
    (λ (e : m.adj a b ≡ true).
    let ha : a < m.tables = s.within a b e in
    let hb : b < m.tables = s.within b a (s.symmetric b a ∙ e) in
    absurd (omega arith))
    (λ e. e)
    (cases_Bool (m.adj a b))

-- ---- two rows rewritten

module _ (n : ℕ) (rows rows' : List ℕ) (a b : ℕ) (s : Simple (rows_graph n rows)) (ha : a < n) (hb : b < n) where
  span : (ltb a 64 && ltb b 64) ≡ true
  span = let few = s.few in grind (arith, nat_tests)

  pub join_means : ((x y : ℕ) → in_row rows' x y ≡ (((ltb a 64 && ltb b 64) && same_pair a b x y) || in_row rows x y))
      → rows_graph n rows' ≡ joining (rows_graph n rows) a b
  join_means both = alike n (in_row rows') (λ x y. same_pair a b x y || in_row rows x y)
      (λ x y. both x y ∙ ap (λ c. (c && same_pair a b x y) || in_row rows x y) span)

  pub unjoin_means : ((x y : ℕ) → in_row rows' x y ≡ (not ((ltb a 64 && ltb b 64) && same_pair a b x y) && in_row rows x y))
      → rows_graph n rows' ≡ unjoining (rows_graph n rows) a b
  unjoin_means both = alike n (in_row rows') (λ x y. not (same_pair a b x y) && in_row rows x y)
      (λ x y. both x y ∙ ap (λ c. not (c && same_pair a b x y) && in_row rows x y) span)

-- ---- a new table

-- an array of zeros
get_or_zeros : (n k : ℕ) → get_or {A = ℕ} (replicate n 0) k 0 ≡ 0
get_or_zeros zero k = refl
get_or_zeros (suc n) zero = refl
get_or_zeros (suc n) (suc k) = get_or_zeros n k

pub empty_means : (n : ℕ) → rows_graph n (replicate 64 0) ≡ no_joins n
empty_means n = alike n (in_row (replicate 64 0)) (λ _ _. false) (λ a b. ap (λ v. bit v b) (get_or_zeros 64 a) ∙ zero_bit b)

-- ---- the ghost fields

pub record Owed (n : ℕ) (rows : List ℕ) (joins : ℕ) : Type 0 where
  pub some : 1 ≤ n
  pub few : n ≤ 64
  pub symmetric : (a b : ℕ) → (rows_graph n rows).adj a b ≡ (rows_graph n rows).adj b a
  pub loopless : (a : ℕ) → (rows_graph n rows).adj a a ≡ false
  pub within : (a b : ℕ) → (rows_graph n rows).adj a b ≡ true → a < n
  pub counted : joins ≡ size (rows_graph n rows)
  pub fits : joins ≤ 2016

pub owed : (n : ℕ) (rows : List ℕ) (joins : ℕ) (m : Graph) → rows_graph n rows ≡ m → Simple m → joins ≡ size m → Owed n rows joins
owed n rows joins m means simple counted =
    let s : Simple (rows_graph n rows) = subst Simple (sym means) simple in
    let k : joins ≡ size (rows_graph n rows) = counted ∙ ap size (sym means) in
    let most : size (rows_graph n rows) ≤ 2016 = size_most (rows_graph n rows) s.few in
    record { some = s.some; few = s.few; symmetric = s.symmetric; loopless = s.loopless; within = s.within; counted = k; fits = omega arith }
