-- The joins of the row below a bound are in, and what is still to come are the tables from there on.
use Rattle.std.proofs.Common.{◌≡◌, ℕ, ◌+◌, ◌≤◌}
use Rattle.bits.specs.Rows.{rows_graph}
use Rattle.bits.specs.Copy.{copied}
use Rattle.graph.specs.Neighbours.{neighbours_from}
use Rattle.bits.proofs.table.copy.copy_row.Given as goal

abbrev pub invariant-loop-w : goal.invariant-loop-w
invariant-loop-w g l =
    let m = g.G.ReadableGraph.meaning in
    let it = l.w-iterator in
    (b : ℕ) × (l.v + 1 ≤ b)
    × (rows_graph l.copy.count l.copy.rows ≡ copied (m l.graph) l.v b)
    × (neighbours_from (m it.graph.now) it.table it.bound ≡ neighbours_from (m l.graph) l.v b)
