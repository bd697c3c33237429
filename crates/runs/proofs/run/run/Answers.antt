-- One call more, and the end of the calls.
use Rattle.std.proofs.Common.{◌<◌, ◌≤◌, length, ap, ◌∙◌, arith}
use Rattle.ledger.specs.Run.{State}
use Rattle.runs.specs.Session.{state_of, began, Ran}
use Rattle.runs.proofs.Going.{performed, ends}
use Rattle.runs.proofs.Laws.{left_on, foretold, keys}
use Rattle.runs.proofs.run.run.Goals as goal

pub loop-i-preserved : goal.loop-i-preserved
loop-i-preserved g c =
    let m = g.G.ReadableGraph.meaning in
    let n = g.G.EditableGraph.limit in
    let p = c.perform-answer.ensures in
    let was = c.loop-i.invariant in
    let q = left_on c.args.session.now c.loop-i.session c.perform-answer.new.session was.left p.left in
    let inside : c.loop-i.i < length c.loop-i.session.turns.now = omega (arith, c.loop-i-test.true, was.going.as_many) in
    record {
      same = p.same ∙ was.same;
      left = record { marks = q.marks; turns_lent = q.turns_lent; steps_lent = q.steps_lent; reports_lent = q.reports_lent; trees_lent = q.trees_lent };
      steps = p.steps;
      reports = p.reports;
      going = performed (n c.args.graph.now) c.args.session.now.marks.now (began (m c.args.graph.now) c.args.session.now)
          c.args.session.now.turns.now c.loop-i.i
          (state_of (m c.loop-i.graph) c.loop-i.session c.loop-i.filled.steps c.loop-i.filled.reports) c.loop-i.session.turns.now
          was.going (n c.loop-i.graph) c.loop-i.session.marks.now
          (state_of (m c.perform-answer.new.graph) c.perform-answer.new.session c.perform-answer.new.filled.steps c.perform-answer.new.filled.reports)
          c.perform-answer.new.session.turns.now c.put_answer.new.turns c.perform-answer.result inside was.same was.left.marks p.turns p.meant p.answer c.put_answer.ensures;
    }

pub returns : goal.returns
returns g c =
    let m = g.G.ReadableGraph.meaning in
    let n = g.G.EditableGraph.limit in
    let was = c.loop-i.invariant in
    let l = c.loop-i.session.turns.now in
    let past : length l ≤ c.loop-i.i = omega (arith, c.loop-i-test.false, was.going.as_many) in
    let s = state_of (m c.loop-i.graph) c.loop-i.session c.loop-i.filled.steps c.loop-i.filled.reports in
    let at = ends (n c.args.graph.now) c.args.session.now.marks.now (began (m c.args.graph.now) c.args.session.now) c.args.session.now.turns.now c.loop-i.i s l was.going past in
    let ran : Ran (n c.args.graph.now) (m c.args.graph.now) (m c.loop-i.graph) c.args.session.now c.loop-i.session = record {
      answers = at.1;
      steps = ap (λ (x : State). x.steps) at.0;
      reports = ap (λ (x : State). x.reports) at.0;
      trees = ap (λ (x : State). x.trees) at.0;
      meant = ap (λ (x : State). x.graph) at.0;
      left = was.left;
    } in
    let simple = g.met.G.ReadableGraph.simple c.args.graph.now in
    record {
      ran = ran;
      same = was.same;
      foretold = λ e. foretold (n c.args.graph.now) (m c.args.graph.now) (m c.loop-i.graph) c.args.session.now c.loop-i.session simple e ran;
      keys = λ e. keys (n c.args.graph.now) (m c.args.graph.now) (m c.loop-i.graph) c.args.session.now c.loop-i.session simple e ran;
    }
