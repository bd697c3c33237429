-- A graph with a spanning tree, as rows and the survey of a search.
--
--   Marked m t joins marks s   t is a spanning tree of m; the rows `joins` keep the joins of m, the rows `marks` the marks, and s tells
--                              the search of the marks from table 0
use Rattle.std.specs.Prelude.{◌≡◌, ℕ, List}
use Rattle.theory.specs.Graph.{Graph, joined}
use Rattle.spanning.specs.Laws.{MarksOf}
use Rattle.sets.specs.Rows.{in_row}
use Rattle.traversal.specs.Survey.{Searches}
use Rattle.traversal.specs.declared.survey.Survey.{Survey}

pub record Marked (m t : Graph) (joins marks : List ℕ) (s : Survey) : Type 0 where
  pub tree : MarksOf m t
  pub joins_of : (a b : ℕ) → in_row joins a b ≡ joined m a b
  pub marks_of : (a b : ℕ) → in_row marks a b ≡ joined t a b
  pub search : Searches t 0 s
