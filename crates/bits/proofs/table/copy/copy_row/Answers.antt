-- Each turn puts in the lowest join from the bound on.
use Rattle.std.proofs.Common.{◌≡◌, ◌+◌, ◌<◌, ◌≤◌, sym, ap, ◌∙◌, arith}
use Rattle.theory.specs.Graph.{Graph, table_count}
use Rattle.bits.specs.Rows.{rows_graph}
use Rattle.graph.specs.Neighbours.{neighbours_from}
use Rattle.graph.proofs.Rows.{first_next, none_next}
use Rattle.bits.proofs.Copies.{other_small, join_next, copied_row, copied_apart}
use Rattle.bits.proofs.table.copy.copy_row.Goals as goal

pub put-requires : goal.put-requires
put-requires g c =
    let m = g.G.ReadableGraph.meaning c.args.graph.now in
    let s = g.met.G.ReadableGraph.simple c.args.graph.now in
    let b = c.loop-w.invariant.0 in
    let next = c.next.new.self in
    let low = (first_next m c.args.v b c.in-Some.w (neighbours_from (g.G.ReadableGraph.meaning next.graph.now) next.table next.bound)
    (sym c.loop-w.invariant.3 ∙ c.in-Some.ensures.steps)).0 in
    let small : c.in-Some.w < table_count m = other_small m s c.args.v c.in-Some.w low.holds in
    let same : c.loop-w.copy.count ≡ table_count m = ap (λ (k : Graph). k.tables) c.loop-w.invariant.2 in
    let from : c.args.v + 1 ≤ b = c.loop-w.invariant.1 in
    let above : b ≤ c.in-Some.w = low.above in (
      omega arith,
      (
        omega arith,
        (
          (λ e. omega arith),
          ap (λ (k : Graph). k.adj c.args.v c.in-Some.w) c.loop-w.invariant.2 ∙ copied_apart m s c.args.v b from c.in-Some.w low,
        ),
      ),
    )

pub loop-w-preserved : goal.loop-w-preserved
loop-w-preserved g c =
    let m = g.G.ReadableGraph.meaning c.args.graph.now in
    let s = g.met.G.ReadableGraph.simple c.args.graph.now in
    let b = c.loop-w.invariant.0 in
    let next = c.next.new.self in
    let first = first_next m c.args.v b c.in-Some.w (neighbours_from (g.G.ReadableGraph.meaning next.graph.now) next.table next.bound)
    (sym c.loop-w.invariant.3 ∙ c.in-Some.ensures.steps) in
    let from : c.args.v + 1 ≤ b = c.loop-w.invariant.1 in
    let above : b ≤ c.in-Some.w = first.0.above in (
      c.in-Some.w + 1,
      omega arith,
      join_next m s c.args.v b from c.in-Some.w first.0
          (rows_graph c.loop-w.copy.count c.loop-w.copy.rows) (rows_graph c.put.new.self.count c.put.new.self.rows) c.loop-w.invariant.2 c.put.ensures,
      first.1,
    )

pub returns : goal.returns
returns g c =
    let m = g.G.ReadableGraph.meaning c.args.graph.now in
    let s = g.met.G.ReadableGraph.simple c.args.graph.now in
    let b = c.loop-w.invariant.0 in
    c.loop-w.invariant.2
    ∙ copied_row m s c.args.v b c.loop-w.invariant.1 (none_next m s c.args.v b (sym c.loop-w.invariant.3 ∙ c.in-None.ensures.steps.0))
