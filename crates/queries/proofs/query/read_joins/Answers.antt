use Rattle.std.proofs.Common.{ap₂, ◌∙◌, sym, rules}
use Rattle.texts.specs.declared.reader.Reader.{Reader}
use Rattle.texts.proofs.Refusals.{passed_on}
use Rattle.queries.specs.QueryRead.{join_at, join_step, joins_read}
use Rattle.queries.proofs.Steps.{lines_on, lines_off, lines_end}
use Rattle.queries.proofs.query.read_joins.Goals as goal

pub loop-preserved : goal.loop-preserved
loop-preserved g c =
    let m = g.G.ReadableGraph.meaning in
    let r = c.args.reader.now in
    let cap = g.G.EditableGraph.limit c.args.graph.now in
    let whole = joins_read cap r.text.now r.at c.args.count (m c.args.graph.now) in
    let s = m c.loop.graph in
    let here = ap₂ (λ k (r : Reader). join_at k r.text.now r.at s) c.loop.invariant.0 c.loop.invariant.2 in
    let onward = c.in_ok-read_join.ensures.onward in (
      c.read_join.ensures.same ∙ c.loop.invariant.0,
      lines_on (join_step cap r.text.now r.at) whole c.args.count c.loop.counter s c.loop.invariant.1 c.loop-test.true c.read_join.result (m c.read_join.new.graph)
          (sym here ∙ c.read_join.ensures.effect) c.in_ok-read_join.was,
      search rules,
    )

pub returns-in_err-read_join-clause-effect : goal.returns-in_err-read_join-clause-effect
returns-in_err-read_join-clause-effect g c =
    let m = g.G.ReadableGraph.meaning in
    let r = c.args.reader.now in
    let cap = g.G.EditableGraph.limit c.args.graph.now in
    let whole = joins_read cap r.text.now r.at c.args.count (m c.args.graph.now) in
    let s = m c.loop.graph in
    let f = c.in_err-read_join.field-0.0 in
    let here = ap₂ (λ k (r : Reader). join_at k r.text.now r.at s) c.loop.invariant.0 c.loop.invariant.2 in
    lines_off (join_step cap r.text.now r.at) whole c.args.count c.loop.counter s c.loop.invariant.1 c.loop-test.true c.read_join.result (m c.read_join.new.graph)
    (sym here ∙ c.read_join.ensures.effect) f c.in_err-read_join.was c.from_residual.result (passed_on c.from_residual.result f c.from_residual.ensures.1)

pub returns-clause-effect : goal.returns-clause-effect
returns-clause-effect g c =
    let m = g.G.ReadableGraph.meaning in
    let r = c.args.reader.now in
    let cap = g.G.EditableGraph.limit c.args.graph.now in
    let whole = joins_read cap r.text.now r.at c.args.count (m c.args.graph.now) in
    lines_end (join_step cap r.text.now r.at) whole c.args.count c.loop.counter (m c.loop.graph) c.loop.invariant.1 c.loop-test.false
