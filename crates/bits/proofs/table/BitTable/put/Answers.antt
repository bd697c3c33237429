use Rattle.std.proofs.Common.{arith}
use Rattle.theory.specs.Graph.{joining}
use Rattle.theory.proofs.Sizes.{joining_simple, joining_size}
use Rattle.bits.specs.Rows.{rows_graph}
use Rattle.bits.proofs.Edits.{simple_of, join_means, owed}
use Rattle.bits.proofs.table.BitTable.put.Goals as goal

-- the rows mean the graph with the pair, which is simple and has one join more
pub invariant_of-self : goal.invariant_of-self
invariant_of-self c =
    let t = c.args.self.now in
    let m = rows_graph t.count t.rows in
    let more = joining_size m c.args.a c.args.b c.requires.0 c.requires.1.0 c.requires.1.1.0 (simple_of t) c.requires.1.1.1 in
    let o = owed t.count _ _ (joining m c.args.a c.args.b)
    (join_means t.count t.rows _ c.args.a c.args.b (simple_of t) c.requires.0 c.requires.1.0 c.join.ensures)
    (joining_simple m c.args.a c.args.b c.requires.0 c.requires.1.0 c.requires.1.1.0 (simple_of t))
    (omega (arith, t.counted)) in
    record { some = o.some; few = o.few; symmetric = o.symmetric; loopless = o.loopless; within = o.within; counted = o.counted; fits = o.fits }

pub returns : goal.returns
returns c =
    let t = c.args.self.now in
    join_means t.count t.rows _ c.args.a c.args.b (simple_of t) c.requires.0 c.requires.1.0 c.join.ensures
