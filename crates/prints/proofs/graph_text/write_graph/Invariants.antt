-- The lines of the rows that are left, laid from here on, give the lines of all joins.
use Rattle.std.proofs.Common.{◌≡◌, ◌+◌, ◌*◌, length}
use Rattle.writer.specs.Laid.{laid}
use Rattle.theory.specs.Graph.{size}
use Rattle.prints.specs.GraphText.{join_lines}
use Rattle.prints.proofs.Rows.{rest_rows}
use Rattle.prints.proofs.graph_text.write_graph.Given as goal

abbrev pub invariant-loop-v : goal.invariant-loop-v
invariant-loop-v g l =
    (laid l.out l.at (join_lines (rest_rows (g.G.ReadableGraph.meaning l.graph) l.v))
    ≡ laid l.initial.out 17 (join_lines (rest_rows (g.G.ReadableGraph.meaning l.graph) 0)))
    × (l.at + 17 * length (rest_rows (g.G.ReadableGraph.meaning l.graph) l.v) ≡ 17 + 17 * size (g.G.ReadableGraph.meaning l.graph))
