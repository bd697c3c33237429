use Rattle.std.proofs.lemmas.Result.{err_from_is_err_and}
use Rattle.bits.specs.Table.{graph_of}
use Rattle.programs.proofs.Told.{play_near}
use Rattle.programs.proofs.replay.play.Goals as goal

pub returns-in_err-replay-clause-near : goal.returns-in_err-replay-clause-near
returns-in_err-replay-clause-near c =
    let p = err_from_is_err_and c.from_residual.result c.from_residual.ensures.1 in
    play_near (graph_of c.new-graph.result) c.args.list.tables c.args.list.triangle c.args.list.steps.now c.replay.result c.in_err-replay.field-0.0 p.0 c.from_residual.result
    c.new-graph.ensures c.replay.ensures.answer c.in_err-replay.was p.1 p.2
