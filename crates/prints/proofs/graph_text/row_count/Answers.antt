use Rattle.std.proofs.Common.{◌+◌, length, ap, inl, arith}
use Rattle.prints.proofs.Rows.{neighbours_few}
use Rattle.prints.proofs.graph_text.row_count.Goals as goal

pub count-requires-clause-fits : goal.count-requires-clause-fits
count-requires-clause-fits g c =
    let m = g.G.ReadableGraph.meaning c.args.graph.now in
    let s = g.met.G.ReadableGraph.simple c.args.graph.now in
    inl (omega (arith, ap length c.neighbours_of.ensures, neighbours_few m s c.args.v (c.args.v + 1)))
