use Rattle.std.proofs.Common.{ap, ◌∙◌, arith, take_all}
use Rattle.std.specs.List.{flat_map}
use Rattle.writer.specs.Laid.{laid}
use Rattle.report_texts.specs.ReportText.{record_text}
use Rattle.report_texts.proofs.Numbers.{turns, turns_length}
use Rattle.report_texts.proofs.Laying.{record_laid}
use Rattle.report_texts.proofs.report_text.put_records.Goals as goal

pub loop-table-preserved : goal.loop-table-preserved
loop-table-preserved c =
    record_laid c.args.report.now c.args.out.now c.loop-table.out c.put_record.new.out c.loop-table.table c.loop-table-test.true (omega arith) c.loop-table.invariant c.put_record.ensures

pub returns : goal.returns
returns c =
    let l = c.args.report.now in
    let many = turns_length l in
    c.loop-table.invariant ∙ ap (λ t. laid c.args.out.now 0 (flat_map record_text t)) (take_all c.loop-table.table (turns l) (omega arith))
