-- The invariant of the calls: what is left of them gives the whole.
use Rattle.std.proofs.Common.{◌≡◌, ◌≤◌, length}
use Rattle.runs.specs.Session.{state_of, began, Left}
use Rattle.runs.proofs.Going.{Going}
use Rattle.runs.proofs.run.run.Given as goal

abbrev pub invariant-loop-i : goal.invariant-loop-i
invariant-loop-i g l =
    let m = g.G.ReadableGraph.meaning in
    let n = g.G.EditableGraph.limit in
    record {
      same : n l.graph ≡ n l.initial.graph;
      left : Left l.initial.session l.session;
      steps : l.filled.steps ≤ length l.session.steps.now;
      reports : l.filled.reports ≤ length l.session.reports.now;
      going : Going (n l.initial.graph) l.initial.session.marks.now (began (m l.initial.graph) l.initial.session) l.initial.session.turns.now l.i
          (state_of (m l.graph) l.session l.filled.steps l.filled.reports) l.session.turns.now;
    }
