-- The neighbour that is told is the lowest one.
use Rattle.std.proofs.Common.{sym, ap, ◌∙◌}
use Rattle.ledger.specs.Run.{answer_to}
use Rattle.ledger.specs.declared.call.Answer.TheVariants as answers
use Rattle.ledger.proofs.Requests.{neighbour_is}
use Rattle.runs.specs.Session.{state_of}
use Rattle.runs.proofs.perform.perform.Goals as goal

pub returns-in-NextNeighbour-clause-answer : goal.returns-in-NextNeighbour-clause-answer
returns-in-NextNeighbour-clause-answer g c =
    let m = g.G.ReadableGraph.meaning c.args.graph.now in
    ap answers.Neighbour (neighbour_is m (g.met.G.ReadableGraph.simple c.args.graph.now) c.in-NextNeighbour.table c.in-NextNeighbour.bound c.next_neighbour.result c.next_neighbour.ensures)
    ∙ ap (answer_to (g.G.EditableGraph.limit c.args.graph.now) c.args.session.now.marks.now (state_of m c.args.session.now c.args.filled.now.steps c.args.filled.now.reports))
    (sym c.in-NextNeighbour.is)
