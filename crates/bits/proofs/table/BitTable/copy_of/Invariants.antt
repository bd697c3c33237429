-- The rows below the next are in.
use Rattle.std.proofs.Common.{◌≡◌, ◌+◌}
use Rattle.bits.specs.Rows.{rows_graph}
use Rattle.bits.specs.Copy.{copied}
use Rattle.bits.proofs.table.BitTable.copy_of.Given as goal

abbrev pub invariant-loop-v : goal.invariant-loop-v
invariant-loop-v g l = rows_graph l.copy.count l.copy.rows ≡ copied (g.G.ReadableGraph.meaning l.graph) l.v (l.v + 1)
