-- An edge step: refused for the tables in use, refused by the store, or taken.
use Rattle.std.proofs.lemmas.Result.{err_from_is_err_and}
use Rattle.sets.specs.Set.{bit}
use Rattle.construction.proofs.Inner.{passed, passed_on, edge_judged, edge_refused, edge_taken}
use Rattle.construction.proofs.replay.take_edge.Goals as goal

pub returns-in_err-judge_edge-clause-answer : goal.returns-in_err-judge_edge-clause-answer
returns-in_err-judge_edge-clause-answer g c =
    let m = g.G.ReadableGraph.meaning c.args.graph.now in
    let p = err_from_is_err_and c.from_residual.result c.from_residual.ensures.1 in
    edge_judged (g.G.EditableGraph.limit c.args.graph.now) c.args.ends.step m (bit c.args.used) c.args.ends.v c.args.ends.w c.judge_edge.result
    c.judge_edge.ensures c.in_err-judge_edge.field-0.0 p.0 c.from_residual.result c.in_err-judge_edge.was p.1 p.2

pub returns-in_err-at_place-clause-answer : goal.returns-in_err-at_place-clause-answer
returns-in_err-at_place-clause-answer g c =
    let m = g.G.ReadableGraph.meaning c.args.graph.now in
    let k = c.args.ends.step in
    let p = err_from_is_err_and c.from_residual-in_err-at_place.result c.from_residual-in_err-at_place.ensures.1 in
    edge_refused (g.G.EditableGraph.limit c.args.graph.now) k m (bit c.args.used) c.args.ends.v c.args.ends.w c.judge_edge.result
    c.judge_edge.ensures c.in_ok-judge_edge.was c.join.result c.from_residual-in_err-at_place.result c.join.ensures.answer
    (passed_on k c.join.result c.at_place.result c.at_place.ensures c.in_err-at_place.field-0.0 p.0 c.from_residual-in_err-at_place.result
    c.in_err-at_place.was p.1 p.2)

pub returns : goal.returns
returns g c =
    let m = g.G.ReadableGraph.meaning c.args.graph.now in
    let k = c.args.ends.step in
    let both = edge_taken (g.G.EditableGraph.limit c.args.graph.now) k m (bit c.args.used) c.args.ends.v c.args.ends.w c.judge_edge.result
    c.judge_edge.ensures c.in_ok-judge_edge.was (g.G.ReadableGraph.meaning c.join.new.self) c.join.result c.join.ensures.answer c.join.ensures.meant
    (passed k c.join.result c.at_place.result c.at_place.ensures c.in_ok-at_place.field-0 c.in_ok-at_place.was) in
    record { answer = both.0; meant = both.1; same = c.join.ensures.same }
