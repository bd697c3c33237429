-- The close: the lowest of the tables not in use, if there are any.
use Rattle.std.proofs.Common.{arith}
use Rattle.sets.specs.Set.{bit}
use Rattle.construction.proofs.Inner.{close_some, close_none}
use Rattle.construction.proofs.replay.close.Goals as goal

pub returns-in-Some : goal.returns-in-Some
returns-in-Some g c =
    let few = (g.met.G.ReadableGraph.simple c.args.graph.now).few in
    rw (← c.tables.ensures)
    (close_some c.tables.result (bit c.args.used) (bit c.below.result) (bit c.difference-unused.result) (omega arith) c.below.ensures c.difference-unused.ensures
    c.in-Some.table c.in-Some.ensures.lowest)

pub returns-in-None : goal.returns-in-None
returns-in-None g c =
    let few = (g.met.G.ReadableGraph.simple c.args.graph.now).few in
    rw (← c.tables.ensures)
    (close_none c.tables.result (bit c.args.used) (bit c.below.result) (bit c.difference-unused.result) (omega arith) c.below.ensures c.difference-unused.ensures
    c.in-None.ensures.lowest)
