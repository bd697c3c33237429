use Rattle.std.proofs.Common.{◌≡◌, ◌≤◌, length, Err, ap, ◌∙◌, arith}
use Rattle.writer.specs.Laid.{laid}
use Rattle.programs.specs.Refusal.{refusal_shown}
use Rattle.programs.proofs.Prints.{refusal_near}
use Rattle.assembler.specs.Assemble.{shown}
use Rattle.assembler.proofs.Whole.{steps_within, list_able, list_fits, done_listed, done_refused}
use Rattle.assembler.proofs.assemble.assemble_text.Goals as goal

pub shared_ref_as_front-list : goal.shared_ref_as_front-list
shared_ref_as_front-list c =
    let within : c.in-Ok.listed.steps ≤ length c.assembled.new.steps =
    steps_within c.args.text.now c.args.len c.args.steps.now c.args.marks.now c.part_read.ensures.part c.in-Ok.listed c.assembled.new.steps
    c.in-Ok.ensures.answer c.assembled.ensures.filled in
    let long : length c.assembled.new.steps ≡ 2013 = omega arith in
    omega arith

pub lay_list-requires : goal.lay_list-requires
lay_list-requires c = record {
  able = list_able c.args.text.now c.args.len c.args.steps.now c.args.marks.now c.part_read.ensures.part c.in-Ok.listed c.assembled.new.steps
      c.in-Ok.ensures.answer c.assembled.ensures.filled;
  room = list_fits c.args.text.now c.args.len c.args.steps.now c.args.marks.now c.part_read.ensures.part c.in-Ok.listed c.assembled.new.steps
      c.in-Ok.ensures.answer c.assembled.ensures.filled;
}

pub returns-in-Ok : goal.returns-in-Ok
returns-in-Ok c =
    done_listed c.args.text.now c.args.len c.args.steps.now c.args.marks.now c.part_read.ensures.part c.in-Ok.listed c.assembled.new.steps
    c.in-Ok.ensures.answer c.assembled.ensures.filled c.assembled.new.marks c.lay_list.result c.lay_list.new.text c.assembled.ensures.marked
    c.lay_list.ensures.count c.lay_list.ensures.laid (omega arith) (omega arith)

pub returns-in-Err : goal.returns-in-Err
returns-in-Err c =
    let text = c.args.text.now in
    let f = c.in-Err.fault in
    let near : refusal_shown (length text) f ≡ shown (length text) (Err f) = refusal_near f (length text) c.in-Err.ensures.near in
    done_refused text c.args.len c.args.steps.now c.args.marks.now c.part_read.ensures.part f
    c.in-Err.ensures.answer c.assembled.new.steps c.assembled.new.marks c.lay_refusal.result c.lay_refusal.new.text
    c.assembled.ensures.filled c.assembled.ensures.marked
    (c.lay_refusal.ensures.count ∙ ap length near) (c.lay_refusal.ensures.laid ∙ ap (laid text 0) near) (omega arith) (omega arith) c.in-Err.ensures.near
