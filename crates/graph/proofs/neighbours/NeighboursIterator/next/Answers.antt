-- The list begins with what the graph answers.
use Rattle.std.proofs.Common.{◌≡◌, ◌+◌, suc, length, ap, rules, arith}
use Rattle.std.proofs.lemmas.Grind.{common_steps}
use Rattle.graph.specs.Neighbours.{neighbours_from}
use Rattle.graph.proofs.Rows.{next_first, next_none}
use Rattle.graph.proofs.neighbours.NeighboursIterator.next.Goals as goal

pub returns-in_err-table-clause-steps : goal.returns-in_err-table-clause-steps
returns-in_err-table-clause-steps g c =
    let s = c.args.self.now in
    let e = next_none (g.G.ReadableGraph.meaning s.graph.now) s.table s.bound c.in_err-table.ensures in
    grind (arith, common_steps, e)

pub returns-clause-steps : goal.returns-clause-steps
returns-clause-steps g c =
    let s = c.args.self.now in
    next_first (g.G.ReadableGraph.meaning s.graph.now) (g.met.G.ReadableGraph.simple s.graph.now) s.table s.bound c.in_ok-table.table c.in_ok-table.ensures

pub returns-clause-goes : goal.returns-clause-goes
returns-clause-goes g c =
    let s = c.args.self.now in
    let e = next_first (g.G.ReadableGraph.meaning s.graph.now) (g.met.G.ReadableGraph.simple s.graph.now) s.table s.bound c.in_ok-table.table c.in_ok-table.ensures in
    let fewer : length (neighbours_from (g.G.ReadableGraph.meaning s.graph.now) s.table s.bound)
    ≡ suc (length (neighbours_from (g.G.ReadableGraph.meaning s.graph.now) s.table (c.in_ok-table.table + 1))) = ap length e in
    search (rules, fewer)
