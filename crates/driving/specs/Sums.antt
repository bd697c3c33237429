-- Counts that are summed along the tree of marks.
--
--   Sums t s at_zero l counts
--                            s tells the search of the spanning tree t from table 0; `counts` begins with `at_zero` at table 0 and moves
--                            along each mark by its counter in l
--   SomeSums s at_zero l     there are such a tree and such counts
use Rattle.std.specs.Prelude.{◌≡◌, ℕ, ◌<◌, ◌≤◌, List, ℤ, pos, ◌+ℤ◌, slice_index_or}
use Rattle.theory.specs.Graph.{Graph, table_count}
use Rattle.spanning.specs.Spanning.{Spanning}
use Rattle.spanning.specs.Laws.{parent_in}
use Rattle.traversal.specs.Survey.{Searches}
use Rattle.traversal.specs.declared.survey.Survey.{Survey}

pub record Sums (t : Graph) (s : Survey) (at_zero : ℕ) (l : List ℤ) (counts : ℕ → ℕ) : Type 0 where
  pub spanning : Spanning t
  pub search : Searches t 0 s
  pub root : counts 0 ≡ at_zero
  pub moves : (x : ℕ) → x < table_count t → pos (counts (parent_in t x)) +ℤ slice_index_or l x (pos 0) ≡ pos (counts x)
  -- no count is larger than the pairs of 64 tables
  pub fits : (x : ℕ) → counts x ≤ 2016

abbrev pub SomeSums : Survey → ℕ → List ℤ → Type 0
SomeSums s at_zero l = (t : Graph) × (counts : ℕ → ℕ) × Sums t s at_zero l counts
