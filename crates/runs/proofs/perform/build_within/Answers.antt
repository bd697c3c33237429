-- No more records are filled than were lent.
use Rattle.runs.proofs.Laying.{steps_fit}
use Rattle.runs.proofs.perform.build_within.Goals as goal

pub returns-clause-within : goal.returns-clause-within
returns-clause-within g c =
    steps_fit (g.G.ReadableGraph.meaning c.args.graph.now) (g.met.G.ReadableGraph.simple c.args.graph.now) c.args.records.now c.build.result c.build.ensures.answer
