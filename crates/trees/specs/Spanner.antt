-- What a spanning tree means, with its fields unseen.
--
--   tree_of t   the graph whose tables are those of the tree, and whose joins are its marks
use Rattle.theory.specs.Graph.{Graph}
use Rattle.bits.specs.Table.{graph_of}
use Rattle.trees.specs.declared.tree.SpanningTree.{SpanningTree}

abbrev pub tree_of : SpanningTree → Graph
tree_of t = graph_of t.marks
