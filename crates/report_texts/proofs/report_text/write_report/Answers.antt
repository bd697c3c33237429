-- The lines of the records and then the P line are what is written, and they read back.
use Rattle.std.proofs.Common.{◌≡◌, ◌≤◌, ℕ, length, Ok, Result, sym, ap, ◌∙◌, arith, rules}
use Rattle.writer.specs.Laid.{laid}
use Rattle.texts.specs.ListWrite.{laid_if}
use Rattle.texts.specs.declared.fault.TextFault.{TextFault}
use Rattle.report_texts.specs.ReportText.{report_text, report_length, report_answer, report_written}
use Rattle.report_texts.proofs.Numbers.{checked_few}
use Rattle.report_texts.proofs.Laying.{report_laid}
use Rattle.report_texts.proofs.Law.{reports_by}
use Rattle.report_texts.proofs.report_text.write_report.Goals as goal

pub returns-in_err-check_numbers-clause-reports : goal.returns-in_err-check_numbers-clause-reports
returns-in_err-check_numbers-clause-reports c = reports_by c.args.report.now c.args.pick c.args.out.now c.args.out.now c.from_residual.result (search rules) (search rules)

pub overflow_mul-needed : goal.overflow_mul-needed
overflow_mul-needed c = omega (arith, checked_few c.args.report.now c.args.pick (sym c.check_numbers.ensures ∙ c.in_ok-check_numbers.was))

pub put_records-requires : goal.put_records-requires
put_records-requires c =
    let few : length c.args.report.now ≤ 100000 = checked_few c.args.report.now c.args.pick (sym c.check_numbers.ensures ∙ c.in_ok-check_numbers.was) in
    (omega arith, few)

pub returns : goal.returns
returns c =
    let l = c.args.report.now in
    let o = c.args.pick in
    let out = c.args.out.now in
    let room : report_length l ≤ length out = omega arith in
    let answer : Ok (report_length l) ≡ report_answer l o (length out) = search rules in
    let laid-whole : c.put_pick.new.out ≡ laid out 0 (report_text l o) =
    report_laid l o out c.put_records.new.out c.put_pick.new.out room c.put_records.ensures c.put_pick.ensures
    in
    let written : c.put_pick.new.out ≡ report_written l o out = laid-whole ∙ ap (λ (r : Result ℕ TextFault). laid_if r out (report_text l o)) answer in
    record { answer = answer; written = written; reports = reports_by l o out c.put_pick.new.out (Ok (report_length l)) answer written }
