-- The whole replay: the three ways out, each with what is told and left, and the laws of that.
use Rattle.std.proofs.Common.{◌+◌, sym, refl, ap, ◌∙◌}
use Rattle.std.proofs.lemmas.Result.{err_from_is_err_and}
use Rattle.theory.specs.declared.step.Step.TheVariants.{Edge}
use Rattle.sets.specs.Set.{bit}
use Rattle.construction.specs.Replay.{Played, steps_from}
use Rattle.construction.specs.Inner.{under_way}
use Rattle.construction.proofs.Plays.{start_off, entered, entered_going, step_on, step_off, still_going, ends}
use Rattle.construction.proofs.Laws.{told_laws}
use Rattle.construction.proofs.replay.replay.Goals as goal

-- the triangle is refused
pub returns-in_err-start : goal.returns-in_err-start
returns-in_err-start g c =
    let m = g.G.ReadableGraph.meaning in
    let n = g.G.EditableGraph.limit in
    let p = err_from_is_err_and c.from_residual.result c.from_residual.ensures.1 in
    let s = g.met.G.ReadableGraph.simple c.args.graph.now in
    let both = start_off (n c.args.graph.now) (m c.args.graph.now) c.args.triangle c.args.steps.now
    (m c.start.new.graph) c.start.result c.in_err-start.field-0.0 p.0 c.from_residual.result
    c.start.ensures.answer c.start.ensures.meant c.in_err-start.was p.1 p.2 in
    let laws = told_laws (n c.args.graph.now) (m c.args.graph.now) c.args.triangle c.args.steps.now s c.from_residual.result (m c.start.new.graph) both.0 both.1 in
    record {
      answer = laws.answer;
      meant = laws.meant;
      same = c.start.ensures.same;
      accepted = laws.accepted;
      room = laws.room;
      refused = laws.refused;
      unused = laws.unused;
      start = laws.start;
    }

pub loop-i-init : goal.loop-i-init
loop-i-init g c =
    let m = g.G.ReadableGraph.meaning in
    let n = g.G.EditableGraph.limit in
    let going = entered_going (n c.args.graph.now) (m c.args.graph.now) c.args.triangle c.args.steps.now
    (m c.start.new.graph) (bit c.seated-used.result) c.start.result c.start.ensures.answer c.start.ensures.meant c.in_ok-start.was
    c.seated-used.ensures (g.met.G.ReadableGraph.simple c.args.graph.now) in
    (refl, refl, going)

pub loop-i-preserved : goal.loop-i-preserved
loop-i-preserved g c =
    let m = g.G.ReadableGraph.meaning in
    let n = g.G.EditableGraph.limit in
    let did = c.take_step.ensures in
    let whole = steps_from (n c.start.new.graph) 1 (under_way (m c.start.new.graph) c.seated-used.result) c.args.steps.now in
    let on = step_on whole (n c.start.new.graph) (n c.loop-i.graph) (under_way (m c.loop-i.graph) c.loop-i.used)
    (under_way (m c.take_step.new.graph) c.take_step.new.used) c.args.steps.now c.loop-i.i (Edge 0 0) c.take_step.result
    c.loop-i-test.true c.loop-i.invariant.0 c.loop-i.invariant.1 did.answer did.meant c.in_ok-take_step.was in
    let going = still_going whole (n c.start.new.graph) (n c.loop-i.graph) (under_way (m c.loop-i.graph) c.loop-i.used)
    (under_way (m c.take_step.new.graph) c.take_step.new.used) c.args.steps.now c.loop-i.i (Edge 0 0) c.take_step.result
    c.loop-i-test.true c.loop-i.invariant.0 c.loop-i.invariant.1 did.answer did.meant c.loop-i.invariant.2 c.in_ok-take_step.was in
    (did.same ∙ c.loop-i.invariant.0, on, going)

-- a step is refused
pub returns-in_err-take_step : goal.returns-in_err-take_step
returns-in_err-take_step g c =
    let m = g.G.ReadableGraph.meaning in
    let n = g.G.EditableGraph.limit in
    let did = c.take_step.ensures in
    let s = g.met.G.ReadableGraph.simple c.args.graph.now in
    let p = err_from_is_err_and c.from_residual-in_err-take_step.result c.from_residual-in_err-take_step.ensures.1 in
    let both = step_off (steps_from (n c.start.new.graph) 1 (under_way (m c.start.new.graph) c.seated-used.result) c.args.steps.now)
    (n c.start.new.graph) (n c.loop-i.graph) (under_way (m c.loop-i.graph) c.loop-i.used) (under_way (m c.take_step.new.graph) c.take_step.new.used)
    c.args.steps.now c.loop-i.i (Edge 0 0) c.take_step.result c.loop-i-test.true c.loop-i.invariant.0 c.loop-i.invariant.1 did.answer did.meant
    c.in_err-take_step.field-0.0 p.0 c.from_residual-in_err-take_step.result c.in_err-take_step.was p.1 p.2 in
    let e = entered (n c.args.graph.now) (m c.args.graph.now) c.args.triangle c.args.steps.now
    (m c.start.new.graph) (bit c.seated-used.result) c.start.result c.start.ensures.answer c.start.ensures.meant c.in_ok-start.was
    c.seated-used.ensures (n c.start.new.graph) c.start.ensures.same in
    let told = both.0 ∙ sym (ap (λ (p : Played). p.told) e) in
    let left = both.1 ∙ sym (ap (λ (p : Played). p.graph) e) in
    let laws = told_laws (n c.args.graph.now) (m c.args.graph.now) c.args.triangle c.args.steps.now s c.from_residual-in_err-take_step.result (m c.take_step.new.graph) told left in
    record {
      answer = laws.answer;
      meant = laws.meant;
      same = did.same ∙ c.loop-i.invariant.0 ∙ c.start.ensures.same;
      accepted = laws.accepted;
      room = laws.room;
      refused = laws.refused;
      unused = laws.unused;
      start = laws.start;
    }

-- all steps are taken, and the close answers
pub returns : goal.returns
returns g c =
    let m = g.G.ReadableGraph.meaning in
    let n = g.G.EditableGraph.limit in
    let s = g.met.G.ReadableGraph.simple c.args.graph.now in
    let e = entered (n c.args.graph.now) (m c.args.graph.now) c.args.triangle c.args.steps.now
    (m c.start.new.graph) (bit c.seated-used.result) c.start.result c.start.ensures.answer c.start.ensures.meant c.in_ok-start.was
    c.seated-used.ensures (n c.start.new.graph) c.start.ensures.same in
    let f = e ∙ c.loop-i.invariant.1
    ∙ ends (n c.start.new.graph) (c.loop-i.i + 1) (under_way (m c.loop-i.graph) c.loop-i.used) c.args.steps.now c.loop-i.i c.loop-i-test.false in
    let told = c.close.ensures ∙ sym (ap (λ (p : Played). p.told) f) in
    let left = sym (ap (λ (p : Played). p.graph) f) in
    let laws = told_laws (n c.args.graph.now) (m c.args.graph.now) c.args.triangle c.args.steps.now s c.close.result (m c.loop-i.graph) told left in
    record {
      answer = laws.answer;
      meant = laws.meant;
      same = c.loop-i.invariant.0 ∙ c.start.ensures.same;
      accepted = laws.accepted;
      room = laws.room;
      refused = laws.refused;
      unused = laws.unused;
      start = laws.start;
    }
