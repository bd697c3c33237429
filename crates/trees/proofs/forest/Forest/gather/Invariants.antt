-- What is left of the marks gives the whole.
use Rattle.std.proofs.Common.{◌≡◌, drop}
use Rattle.theory.specs.Graph.{table_count}
use Rattle.bits.specs.Table.{graph_of}
use Rattle.trees.specs.Tree.{marks_judged}
use Rattle.trees.specs.Forest.{with_marks}
use Rattle.trees.proofs.forest.Forest.gather.Given as goal

abbrev pub invariant-loop-i : goal.invariant-loop-i
invariant-loop-i g l =
    let m = g.G.ReadableGraph.meaning l.graph in
    record {
      tables : table_count (graph_of l.self.marks) ≡ table_count m;
      judged : marks_judged m (graph_of l.initial.self.marks) 0 l.marks ≡ marks_judged m (graph_of l.self.marks) l.i (drop l.i l.marks);
      gathered : with_marks (graph_of l.initial.self.marks) l.marks ≡ with_marks (graph_of l.self.marks) (drop l.i l.marks);
    }
