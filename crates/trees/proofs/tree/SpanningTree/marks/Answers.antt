use Rattle.trees.proofs.Spans.{tree_spans}
use Rattle.trees.proofs.tree.SpanningTree.marks.Goals as goal

pub returns-clause-spanning : goal.returns-clause-spanning
returns-clause-spanning c = tree_spans c.args.self.now
