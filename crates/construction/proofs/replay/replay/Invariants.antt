-- The invariant of the steps.
use Rattle.std.proofs.Common.{◌≡◌, ◌+◌, drop}
use Rattle.construction.specs.Replay.{steps_from}
use Rattle.construction.specs.Inner.{under_way}
use Rattle.construction.proofs.Going.{Going}
use Rattle.construction.proofs.replay.replay.Given as goal

-- what is left of the list gives the whole
abbrev pub invariant-loop-i : goal.invariant-loop-i
invariant-loop-i g l =
    let m = g.G.ReadableGraph.meaning in
    let n = g.G.EditableGraph.limit in
    (n l.graph ≡ n l.initial.graph)
    × (steps_from (n l.initial.graph) 1 (under_way (m l.initial.graph) l.initial.used) l.steps
    ≡ steps_from (n l.initial.graph) (l.i + 1) (under_way (m l.graph) l.used) (drop l.i l.steps))
    × Going (under_way (m l.graph) l.used)
