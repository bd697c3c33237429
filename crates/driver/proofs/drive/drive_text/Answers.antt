use Rattle.std.proofs.Common.{◌≡◌, ◌≤◌, length, replicate, Err, ap, ◌∙◌, arith, length-take}
use Rattle.writer.specs.Laid.{laid}
use Rattle.reports.specs.Pick.{silent}
use Rattle.programs.specs.Refusal.{refusal_shown}
use Rattle.programs.proofs.Prints.{refusal_near}
use Rattle.driver.specs.Drive.{shown}
use Rattle.driver.proofs.Whole.{tables_within, able_so, done_given, done_refused}
use Rattle.driver.proofs.drive.drive_text.Goals as goal

pub slice_bounds-report-end : goal.slice_bounds-report-end
slice_bounds-report-end c =
    tables_within c.args.text.now c.args.len c.args.steps.now c.args.marks.now c.part_read.ensures.part c.in-Ok.outcome (replicate 64 silent) c.driven.new.report
    c.in-Ok.ensures.answer c.driven.ensures.filled c.in-Ok.ensures.law

pub slice_bounds-lay_report-end : goal.slice_bounds-lay_report-end
slice_bounds-lay_report-end c =
    let within : c.in-Ok.outcome.tables ≤ length c.driven.new.report =
    tables_within c.args.text.now c.args.len c.args.steps.now c.args.marks.now c.part_read.ensures.part c.in-Ok.outcome (replicate 64 silent) c.driven.new.report
    c.in-Ok.ensures.answer c.driven.ensures.filled c.in-Ok.ensures.law in
    let cut = length-take c.in-Ok.outcome.tables c.driven.new.report in
    omega (arith, within, cut)

pub lay_report-requires-clause-able : goal.lay_report-requires-clause-able
lay_report-requires-clause-able c =
    able_so c.args.text.now c.args.len c.args.steps.now c.args.marks.now c.part_read.ensures.part c.in-Ok.outcome (replicate 64 silent) c.driven.new.report
    c.in-Ok.ensures.answer c.driven.ensures.filled c.in-Ok.ensures.law

pub returns-in-Ok : goal.returns-in-Ok
returns-in-Ok c =
    done_given c.args.text.now c.args.len c.args.steps.now c.args.marks.now c.part_read.ensures.part c.in-Ok.outcome (replicate 64 silent) c.driven.new.report
    c.in-Ok.ensures.answer c.driven.ensures.filled c.in-Ok.ensures.law c.driven.new.marks c.lay_report.result c.lay_report.new.text c.driven.ensures.marked
    c.lay_report.ensures.count c.lay_report.ensures.laid

pub returns-in-Err : goal.returns-in-Err
returns-in-Err c =
    let text = c.args.text.now in
    let f = c.in-Err.fault in
    let near : refusal_shown (length text) f ≡ shown (length text) (Err f) = refusal_near f (length text) c.in-Err.ensures.near in
    done_refused text c.args.len c.args.steps.now c.args.marks.now c.part_read.ensures.part f c.driven.new.report
    c.in-Err.ensures.answer c.in-Err.ensures.law c.driven.new.marks c.lay_refusal.result c.lay_refusal.new.text c.driven.ensures.marked
    (c.lay_refusal.ensures.count ∙ ap length near) (c.lay_refusal.ensures.laid ∙ ap (laid text 0) near)
