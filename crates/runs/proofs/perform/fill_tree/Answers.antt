-- The tree at its place, after the filling.
use Rattle.std.proofs.Common.{map, ap, ◌∙◌}
use Rattle.theory.specs.Graph.{table_count}
use Rattle.trees.specs.Spanner.{tree_of}
use Rattle.trees.specs.Tree.{marked}
use Rattle.ledger.specs.Run.{planted}
use Rattle.runs.proofs.Laying.{planted_is}
use Rattle.runs.proofs.perform.fill_tree.Goals as goal

pub returns-then-tree-trees-clause-trees : goal.returns-then-tree-trees-clause-trees
returns-then-tree-trees-clause-trees g c =
    let t = marked (table_count (g.G.ReadableGraph.meaning c.args.graph.now)) c.args.marks.now in
    planted_is c.args.trees.now c.args.tree c.fill.result c.index-trees-tree.result c.fill.new.self t c.fill.ensures.filled
    ∙ ap (λ r. planted r t c.args.tree (map tree_of c.args.trees.now)) c.fill.ensures.answer
