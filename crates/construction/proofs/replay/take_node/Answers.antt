-- A node step: refused for its tables, refused for its joins, or taken.
use Rattle.std.proofs.lemmas.Result.{err_from_is_err_and}
use Rattle.sets.specs.Set.{bit}
use Rattle.construction.proofs.Inner.{node_refused, node_full, node_taken}
use Rattle.construction.proofs.replay.take_node.Goals as goal

pub returns-in_err-judge_node-clause-answer : goal.returns-in_err-judge_node-clause-answer
returns-in_err-judge_node-clause-answer g c =
    let m = g.G.ReadableGraph.meaning c.args.graph.now in
    let p = err_from_is_err_and c.from_residual.result c.from_residual.ensures.1 in
    node_refused (g.G.EditableGraph.limit c.args.graph.now) c.args.node.ends.step m (bit c.args.used.now) c.args.node.u c.args.node.ends.v c.args.node.ends.w
    c.judge_node.result c.judge_node.ensures c.in_err-judge_node.field-0.0 p.0 c.from_residual.result c.in_err-judge_node.was p.1 p.2

pub returns-in_err-splice-clause-answer : goal.returns-in_err-splice-clause-answer
returns-in_err-splice-clause-answer g c =
    let m = g.G.ReadableGraph.meaning c.args.graph.now in
    let p = err_from_is_err_and c.from_residual-in_err-splice.result c.from_residual-in_err-splice.ensures.1 in
    node_full (g.G.EditableGraph.limit c.args.graph.now) c.args.node.ends.step m (bit c.args.used.now) c.args.node.u c.args.node.ends.v c.args.node.ends.w
    c.judge_node.result c.judge_node.ensures c.in_ok-judge_node.was c.splice.result c.in_err-splice.field-0.0 p.0 c.from_residual-in_err-splice.result
    c.splice.ensures.answer c.in_err-splice.was p.1 p.2

pub returns : goal.returns
returns g c =
    let m = g.G.ReadableGraph.meaning c.args.graph.now in
    let both = node_taken (g.G.EditableGraph.limit c.args.graph.now) c.args.node.ends.step m (bit c.args.used.now) c.args.node.u c.args.node.ends.v c.args.node.ends.w
    c.judge_node.result c.judge_node.ensures c.in_ok-judge_node.was (g.G.ReadableGraph.meaning c.splice.new.graph) (bit c.with.result)
    c.splice.result c.splice.ensures.answer c.splice.ensures.meant c.in_ok-splice.was (g.met.G.ReadableGraph.simple c.args.graph.now).few c.with.ensures in
    record { answer = both.0; meant = both.1; same = c.splice.ensures.same }
