-- Each turn lays the line of the first join of what is left of the row.
use Rattle.std.proofs.Common.{◌+◌, ◌≤◌, length, ap, ◌∙◌, sym, arith}
use Rattle.writer.specs.Laid.{laid}
use Rattle.graph.specs.Neighbours.{neighbours_from}
use Rattle.prints.specs.GraphText.{join_lines}
use Rattle.prints.proofs.Rows.{rest, row_turn, row_over, row_on}
use Rattle.prints.proofs.graph_text.put_row.Goals as goal

pub overflow_add-at : goal.overflow_add-at
overflow_add-at g c =
    let m = g.G.ReadableGraph.meaning in
    let s = g.met.G.ReadableGraph.simple c.args.graph.now in
    let next = c.next.new.self in
    let turn = row_turn (m c.args.graph.now) s c.args.v c.loop-w.invariant.0 c.in-Some.w _ (neighbours_from (m next.graph.now) next.table next.bound) c.loop-w.invariant.1 c.in-Some.ensures.steps in
    omega (arith, c.loop-w.invariant.3, ap length turn.2)

pub loop-w-preserved : goal.loop-w-preserved
loop-w-preserved g c =
    let m = g.G.ReadableGraph.meaning in
    let s = g.met.G.ReadableGraph.simple c.args.graph.now in
    let v = c.args.v in
    let b = c.loop-w.invariant.0 in
    let w = c.in-Some.w in
    let next = c.next.new.self in
    let turn = row_turn (m c.args.graph.now) s v b w _ (neighbours_from (m next.graph.now) next.table next.bound) c.loop-w.invariant.1 c.in-Some.ensures.steps in
    let whole = laid c.args.out.now c.args.at (join_lines (rest (m c.args.graph.now) v (v + 1))) in
    let room : c.loop-w.at + 17 ≤ length c.loop-w.out = omega (arith, c.loop-w.invariant.3, ap length turn.2) in (
      w + 1,
      turn.1,
      row_on (m c.args.graph.now) s v b w turn.0 c.loop-w.out c.put_line.new.out whole c.loop-w.at room c.put_line.ensures c.loop-w.invariant.2,
      omega (arith, c.loop-w.invariant.3, ap length turn.2),
    )

pub returns : goal.returns
returns g c =
    let m = g.G.ReadableGraph.meaning c.args.graph.now in
    let s = g.met.G.ReadableGraph.simple c.args.graph.now in
    let over = row_over m s c.args.v c.loop-w.invariant.0 _ c.loop-w.invariant.1 c.in-None.ensures.steps.0 in
    record {
      next = omega (arith, c.loop-w.invariant.3, ap length over);
      written = ap (λ l. laid c.loop-w.out c.loop-w.at (join_lines l)) (sym over) ∙ c.loop-w.invariant.2;
    }
