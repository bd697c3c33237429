-- Marks put into a graph, on the way to a tree.
--
--   with_marks t l   t with the marks l put in
use Rattle.std.specs.Prelude.{List, ◌||◌}
use Rattle.theory.specs.Graph.{Graph}
use Rattle.theory.specs.declared.mark.Mark.{Mark}
use Rattle.trees.specs.Tree.{has_mark}

abbrev pub with_marks : Graph → List Mark → Graph
with_marks t l = record { tables = t.tables; adj = λ a b. has_mark l a b || t.adj a b }
