-- From a search at its start on: it stands at the place after so many moves, and those still to come are within what it may take.
use Rattle.std.proofs.Common.{ℕ, ◌+◌, ◌<◌, Bool}
use Rattle.disassembly.specs.Search.{moves, at_start}
use Rattle.sets.specs.Rows.{in_row}
use Rattle.traversal.specs.Standing.{work, Standing, Below64}
use Rattle.traversal.proofs.walk.Walk.run.Given as goal

abbrev pub invariant-loop-table : goal.invariant-loop-table
invariant-loop-table l = (U : ℕ → Bool) (r : ℕ) → Below64 U → Standing U (at_start r) l.fn.self
    → (k : ℕ) × (k + work l.self < 128) × Standing U (moves k U (in_row l.rows) (at_start r)) l.self

abbrev pub decreases-loop-table : goal.decreases-loop-table
decreases-loop-table l = work l.self
