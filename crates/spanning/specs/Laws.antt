-- What is proved of spanning trees, for every graph m and every spanning tree t of as many tables whose marks are joins of m.
--
--   MarksOf m t          t is a spanning tree of as many tables as m, and its marks are joins of m
--   OnPathExactly        the test finds exactly the tables on the marked path
--   DrivesExactly        a table drives exactly when its cross count is zero
--   Under t s x          x is s, or lies beyond s as seen from table 0
--   unmarked m t a b     a and b are joined, and the join is not marked
--   CountAtZero          a cross join for table 0 is an unmarked one between two tables of which neither is under the other
--   parent_in t x        the parent of x in the tree as seen from table 0
--   TellsUnder t under   the test `under` tells which tables are under which
--   CountAlong           from a table's parent to the table, the cross count grows by the unmarked joins of the parent with tables
--                        under the table, and falls by the table's unmarked joins with tables not under it
--   Acyclic t            no mark of t lies on a ring of marks
--   ClosesNothing        a mark between two tables that the marks do not connect closes no ring
--   EnoughMarks          marks without a ring, one fewer than tables, connect all of them
use Rattle.std.specs.Prelude.{◌≡◌, ℕ, ◌+◌, ◌<◌, Bool, true, not, ◌&&◌, ◌↔◌}
use Rattle.theory.specs.Build.{without_join}
use Rattle.theory.specs.Graph.{Graph, Simple, joined, joining, is_table, table_count, size, count, pairs}
use Rattle.disassembly.specs.Search.{searched}
use Rattle.disassembly.specs.Tree.{Over}
use Rattle.disassembly.specs.Walks.{Reaches, Connected}
use Rattle.spanning.specs.Spanning.{Spanning}
use Rattle.spanning.specs.Crossing.{OnPath, on_path, cross_count}
use Rattle.spanning.specs.Driving.{Drives}

pub record MarksOf (m t : Graph) : Type 0 where
  pub simple : Simple m
  pub spanning : Spanning t
  pub same : table_count t ≡ table_count m
  pub within : (a b : ℕ) → joined t a b ≡ true → joined m a b ≡ true

abbrev pub OnPathExactly : Type 0
OnPathExactly = (t : Graph) → Simple t → (r a b : ℕ) → r < table_count t → (on_path t r a b ≡ true) ↔ OnPath t r a b

abbrev pub DrivesExactly : Type 0
DrivesExactly = (m t : Graph) → MarksOf m t → (r : ℕ) → r < table_count m → Drives m t r ↔ (cross_count m t r ≡ 0)

-- the tree as seen from table 0: the parents that the search of its marks from there finds
abbrev pub parent_in : Graph → ℕ → ℕ
parent_in t = (searched (is_table t) (joined t) 0).parent

abbrev pub Under : Graph → ℕ → ℕ → Type 0
Under t s x = Over (parent_in t) 0 s x

abbrev pub unmarked : Graph → Graph → ℕ → ℕ → Bool
unmarked m t a b = joined m a b && not (joined t a b)

-- `under` is any test that tells which tables are under which
abbrev pub TellsUnder : Graph → (ℕ → ℕ → Bool) → Type 0
TellsUnder t under = (s x : ℕ) → s < table_count t → x < table_count t → (under s x ≡ true) ↔ Under t s x

abbrev pub CountAtZero : Type 0
CountAtZero = (m t : Graph) → MarksOf m t → (under : ℕ → ℕ → Bool) → TellsUnder t under
    → cross_count m t 0 ≡ pairs (λ a b. unmarked m t a b && (not (under a b) && not (under b a))) (table_count m)

abbrev pub CountAlong : Type 0
CountAlong = (m t : Graph) → MarksOf m t → (under : ℕ → ℕ → Bool) → TellsUnder t under → (s : ℕ) → 0 < s → s < table_count m
    → cross_count m t s + count (λ x. unmarked m t s x && not (under s x)) (table_count m)
    ≡ cross_count m t (parent_in t s) + count (λ x. unmarked m t (parent_in t s) x && under s x) (table_count m)

abbrev pub Acyclic : Graph → Type 0
Acyclic t = (a b : ℕ) → joined t a b ≡ true → Reaches (is_table t) (without_join a b (joined t)) a b → ⊥

abbrev pub ClosesNothing : Type 0
ClosesNothing = (t : Graph) → Simple t → Acyclic t → (a b : ℕ) → a < table_count t → b < table_count t
    → (Reaches (is_table t) (joined t) a b → ⊥) → Acyclic (joining t a b)

abbrev pub EnoughMarks : Type 0
EnoughMarks = (t : Graph) → Simple t → Acyclic t → size t + 1 ≡ table_count t → Connected (is_table t) (joined t)
