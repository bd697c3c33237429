use Rattle.std.proofs.Common.{◌≡◌, length, Ok, ap, ◌∙◌}
use Rattle.writer.specs.Laid.{laid}
use Rattle.programs.specs.Refusal.{refusal_shown}
use Rattle.driver.specs.Drive.{Report, shown}
use Rattle.driver.proofs.Shows.{report_count, report_laid, report_unfit, report_kept}
use Rattle.driver.proofs.drive.lay_report.Goals as goal

pub returns-in-Ok : goal.returns-in-Ok
returns-in-Ok c =
    let p : Report = record { records = c.args.report.now; pick = c.args.pick } in
    let text = c.args.text.now in
    record {
      count = report_count p text c.requires.able c.in-Ok.n c.in-Ok.ensures.answer;
      laid = report_laid p text c.requires.able c.in-Ok.n c.in-Ok.ensures.answer c.write_report.new.out c.write_report.ensures.written;
    }

pub returns-in-Err : goal.returns-in-Err
returns-in-Err c =
    let p : Report = record { records = c.args.report.now; pick = c.args.pick } in
    let text = c.args.text.now in
    let out = c.write_report.new.out in
    let f = c.in-Err.fault in
    let kept : out ≡ text = report_kept p text c.requires.able f c.in-Err.ensures.answer out c.write_report.ensures.written in
    let same : refusal_shown (length out) c.from.result ≡ shown (length text) (Ok p) =
    ap (λ o. refusal_shown (length o) c.from.result) kept
    ∙ ap (λ x. refusal_shown (length text) x) c.from.ensures
    ∙ report_unfit p text c.requires.able f c.in-Err.ensures.answer c.requires.few in
    record {
      count = c.lay_refusal.ensures.count ∙ ap length same;
      laid = c.lay_refusal.ensures.laid ∙ ap (laid out 0) same ∙ ap (λ o. laid o 0 (shown (length text) (Ok p))) kept;
    }
