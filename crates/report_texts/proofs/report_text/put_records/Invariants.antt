use Rattle.std.proofs.Common.{◌≡◌, take}
use Rattle.std.specs.List.{flat_map, enumerate_from}
use Rattle.writer.specs.Laid.{laid}
use Rattle.report_texts.specs.ReportText.{record_text}
use Rattle.report_texts.proofs.report_text.put_records.Given as goal

-- the lines of the first records are laid
abbrev pub invariant-loop-table : goal.invariant-loop-table
invariant-loop-table l = l.out ≡ laid l.initial.out 0 (flat_map record_text (take l.table (enumerate_from 0 l.report)))
