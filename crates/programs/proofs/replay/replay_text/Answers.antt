use Rattle.std.proofs.Common.{◌≤◌, length, Ok, Err, Result, refl, ap, ◌∙◌, arith}
use Rattle.bits.proofs.Edits.{simple_of}
use Rattle.writer.specs.Laid.{laid}
use Rattle.texts.specs.ListRead.{list_read}
use Rattle.theory.specs.Graph.{Graph}
use Rattle.bits.specs.Table.{graph_of}
use Rattle.programs.specs.Replay.{replay_told}
use Rattle.outcomes.specs.declared.fault.ProgramFault.{ProgramFault}
use Rattle.programs.proofs.Prints.{refusal_near}
use Rattle.programs.proofs.Whole.{done_built, done_refused}
use Rattle.programs.proofs.replay.replay_text.Goals as goal

pub returns-in-Ok : goal.returns-in-Ok
returns-in-Ok c =
    let text = c.args.text.now in
    let steps = c.args.steps.now in
    let b = c.in-Ok.graph in
    let told : Result Graph ProgramFault = Ok (graph_of b) in
    let part = c.part_read.ensures.part in
    done_built text c.args.len steps c.lay_graph.result c.lay_graph.new.text c.build.new.steps told
    (c.in-Ok.ensures.answer ∙ ap (λ p. replay_told p steps) part) (c.build.ensures.filled ∙ ap (λ p. (list_read p 0 steps).records) part)
    c.lay_graph.ensures.count c.lay_graph.ensures.laid (graph_of b) refl (simple_of b)

pub returns-in-Err : goal.returns-in-Err
returns-in-Err c =
    let text = c.args.text.now in
    let steps = c.args.steps.now in
    let f = c.in-Err.fault in
    let told : Result Graph ProgramFault = Err f in
    let part = c.part_read.ensures.part in
    let records : 2013 ≤ length steps = omega arith in
    let near = refusal_near f (length text) c.in-Err.ensures.near in
    done_refused text c.args.len steps c.lay_refusal.result c.lay_refusal.new.text c.build.new.steps told
    (c.in-Err.ensures.answer ∙ ap (λ p. replay_told p steps) part) (c.build.ensures.filled ∙ ap (λ p. (list_read p 0 steps).records) part)
    (c.lay_refusal.ensures.count ∙ ap length near) (c.lay_refusal.ensures.laid ∙ ap (laid text 0) near) f refl c.in-Err.ensures.near records
