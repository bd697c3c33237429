-- No mark is missing of a table passed.
use Rattle.std.proofs.Common.{◌≡◌, ℕ, ◌<◌, false}
use Rattle.theory.specs.Graph.{Graph, table_count}
use Rattle.bits.specs.Table.{graph_of}
use Rattle.traversal.specs.Survey.{Searches}
use Rattle.driving.specs.Drive.{missing}
use Rattle.driving.proofs.judge.lowest_missing.Given as goal

abbrev pub invariant-loop-x : goal.invariant-loop-x
invariant-loop-x l = (t : Graph) → Searches t 0 l.survey → table_count t ≡ table_count (graph_of l.graph) → (y : ℕ) → y < l.x → missing (graph_of l.graph) t y ≡ false
