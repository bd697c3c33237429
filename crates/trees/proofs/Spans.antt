-- What the ghost fields of a tree amount to.
--
--   tree_spans     a tree's marks connect all of its tables without a ring
--   forest_spans   so do the marks of a forest that has one fewer than tables
use Rattle.std.proofs.Common.{◌≡◌, ◌+◌}
use Rattle.theory.specs.Graph.{table_count, size}
use Rattle.bits.specs.Table.{graph_of}
use Rattle.bits.proofs.Edits.{simple_of}
use Rattle.spanning.specs.Spanning.{Spanning}
use Rattle.spanning.proofs.Enough.{forest_spanning}
use Rattle.trees.specs.declared.forest.Forest.{Forest}
use Rattle.trees.specs.declared.tree.SpanningTree.{SpanningTree}
use Rattle.trees.specs.Spanner.{tree_of}

pub tree_spans : (t : SpanningTree) → Spanning (tree_of t)
tree_spans t = forest_spanning (graph_of t.marks) (record { simple = simple_of t.marks; acyclic = t.acyclic }) t.fewer

pub forest_spans : (f : Forest) → size (graph_of f.marks) + 1 ≡ table_count (graph_of f.marks) → Spanning (graph_of f.marks)
forest_spans f fewer = forest_spanning (graph_of f.marks) (record { simple = simple_of f.marks; acyclic = f.acyclic }) fewer
