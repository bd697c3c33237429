-- What a join graph means: how many tables it has, and which pairs of them are joined. Nothing is assumed of a store.
--
--   Graph              a meaning: the number of tables, and a test on two numbers
--   joined m a b       tables a and b are joined
--   table_count m      the number of tables
--   is_table m a       a is the number of a table
--   same_pair          two pairs are the same unordered pair
--   joining m a b      m with the pair a, b put in
--   unjoining m a b    m with the pair a, b taken out
--   no_joins n         n tables and no join
--   count p n          how many numbers below n pass the test p
--   pairs p n          how many pairs x < y below n pass the test p
--   size m             the number of joins
--   some_join m        whether there is any join
--   Simple m           what holds of every meaning: 1 to 64 tables, joins between two different tables of it
--   Lowest, Next       the lowest number, not below a bound, that passes a test, or none
--   clamped n          the number of tables that a new graph gets where n are asked for
use Rattle.std.specs.Prelude.{◌≡◌, ℕ, zero, suc, ◌+◌, ◌<◌, ◌≤◌, Bool, true, false, cond, not, ◌&&◌, ◌||◌, Some, None, Option, ◌==◌, nat_lt}

-- two meanings that agree on every pair are equal
pub record Graph : Type 0 where
  pub tables : ℕ
  pub adj : ℕ → ℕ → Bool

abbrev pub joined : Graph → ℕ → ℕ → Bool
joined m a b = m.adj a b

abbrev pub table_count : Graph → ℕ
table_count m = m.tables

abbrev pub is_table : Graph → ℕ → Bool
is_table m a = nat_lt a m.tables

abbrev pub same_pair : ℕ → ℕ → ℕ → ℕ → Bool
same_pair a b x y = (a == x && b == y) || (a == y && b == x)

abbrev pub joining : Graph → ℕ → ℕ → Graph
joining m a b = record { tables = m.tables; adj = λ x y. same_pair a b x y || m.adj x y }

abbrev pub unjoining : Graph → ℕ → ℕ → Graph
unjoining m a b = record { tables = m.tables; adj = λ x y. not (same_pair a b x y) && m.adj x y }

abbrev pub no_joins : ℕ → Graph
no_joins n = record { tables = n; adj = λ _ _. false }

abbrev pub count : (ℕ → Bool) → ℕ → ℕ
count p zero = 0
count p (suc k) = count p k + cond (p k) 1 0

abbrev pub pairs : (ℕ → ℕ → Bool) → ℕ → ℕ
pairs p zero = 0
pairs p (suc y) = pairs p y + count (λ x. p x y) y

abbrev pub size : Graph → ℕ
size m = pairs m.adj m.tables

abbrev pub some_join : Graph → Bool
some_join m = not (size m == 0)

pub record Simple (m : Graph) : Type 0 where
  pub some : 1 ≤ m.tables
  pub few : m.tables ≤ 64
  pub symmetric : (a b : ℕ) → m.adj a b ≡ m.adj b a
  pub loopless : (a : ℕ) → m.adj a a ≡ false
  pub within : (a b : ℕ) → m.adj a b ≡ true → a < m.tables

pub record Lowest (p : ℕ → Bool) (bound k : ℕ) : Type 0 where
  pub holds : p k ≡ true
  pub above : bound ≤ k
  pub none : (j : ℕ) → bound ≤ j → j < k → p j ≡ false

abbrev pub Next : (ℕ → Bool) → ℕ → Option ℕ → Type 0
Next p bound (Some k) = Lowest p bound k
Next p bound None = (j : ℕ) → bound ≤ j → p j ≡ false

abbrev pub clamped : ℕ → ℕ
clamped n = cond (n == 0) 1 (cond (nat_lt 64 n) 64 n)
