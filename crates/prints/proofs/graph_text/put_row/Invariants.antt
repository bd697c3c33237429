-- The lines of what is left of the row, laid from here on, give the lines of the whole row.
use Rattle.std.proofs.Common.{◌≡◌, ℕ, ◌+◌, ◌*◌, length}
use Rattle.graph.specs.Neighbours.{neighbours_from}
use Rattle.writer.specs.Laid.{laid}
use Rattle.prints.specs.GraphText.{join_lines}
use Rattle.prints.proofs.Rows.{rest}
use Rattle.prints.proofs.graph_text.put_row.Given as goal

abbrev pub invariant-loop-w : goal.invariant-loop-w
invariant-loop-w g l =
    let m = g.G.ReadableGraph.meaning in
    let it = l.w-iterator in
    (b : ℕ)
    × (neighbours_from (m it.graph.now) it.table it.bound ≡ neighbours_from (m l.graph) l.v b)
    × (laid l.out l.at (join_lines (rest (m l.graph) l.v b)) ≡ laid l.initial.out l.initial.at (join_lines (rest (m l.graph) l.v (l.v + 1))))
    × (l.at + 17 * length (rest (m l.graph) l.v b) ≡ l.initial.at + 17 * length (rest (m l.graph) l.v (l.v + 1)))
