use Rattle.std.proofs.Common.{sym, arith}
use Rattle.theory.specs.Graph.{unjoining}
use Rattle.theory.proofs.Sizes.{unjoining_simple, unjoining_size}
use Rattle.bits.specs.Rows.{rows_graph}
use Rattle.bits.proofs.Edits.{simple_of, unjoin_means, owed}
use Rattle.bits.proofs.table.BitTableEditableGraph.unjoin.Goals as goal

-- what is joined is counted
pub overflow_sub-self : goal.overflow_sub-self
overflow_sub-self c =
    let t = c.args.self.now in
    let two = c.judge_pair.ensures.two c.in_ok-judge_pair.was in
    let fewer = unjoining_size (rows_graph t.count t.rows) c.args.a c.args.b two.0 two.1.0 two.1.1 (simple_of t) (sym c.if-not-joined.ensures) in
    omega (arith, t.counted)

-- the rows mean the graph without the pair, which is simple and has one join less
pub invariant_of-self : goal.invariant_of-self
invariant_of-self c =
    let t = c.args.self.now in
    let m = rows_graph t.count t.rows in
    let two = c.judge_pair.ensures.two c.in_ok-judge_pair.was in
    let fewer = unjoining_size m c.args.a c.args.b two.0 two.1.0 two.1.1 (simple_of t) (sym c.if-not-joined.ensures) in
    let o = owed t.count _ _ (unjoining m c.args.a c.args.b)
    (unjoin_means t.count t.rows _ c.args.a c.args.b (simple_of t) two.0 two.1.0 c.unjoin.ensures)
    (unjoining_simple m c.args.a c.args.b (simple_of t))
    (omega (arith, t.counted)) in
    record { some = o.some; few = o.few; symmetric = o.symmetric; loopless = o.loopless; within = o.within; counted = o.counted; fits = o.fits }

pub returns-clause-meant : goal.returns-clause-meant
returns-clause-meant c =
    let t = c.args.self.now in
    let two = c.judge_pair.ensures.two c.in_ok-judge_pair.was in
    unjoin_means t.count t.rows _ c.args.a c.args.b (simple_of t) two.0 two.1.0 c.unjoin.ensures
