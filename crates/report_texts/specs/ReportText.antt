-- A report's text: one D line a record, by rising table, then one P line; and what writing it answers and leaves.
--
--   record_line p          D: the table, its cross count, and 1 where it drives or 0, of a record with its turn
--   record_text p          its text
--   pick_line o            P: the picked table, or nothing, and two unused fields
--   report_text l o        the whole text
--   report_length l        its bytes
--   record_over p          a number of a D line is over 99,999
--   pick_over o            the picked table's number is over 99,999
--   numbers_checked l o    17 with the offset of the first line that has such a number
--   report_answer l o b    17, or 9 with the bytes needed where b are lent, or the bytes written
--   report_written l o out the bytes lent, afterwards
use Rattle.std.specs.Prelude.{ℕ, ◌+◌, ◌*◌, Bool, false, cond, ◌||◌, List, ◌++◌, length, Some, None, Option, Ok, Err, Result}
use Rattle.std.specs.List.{flat_map, enumerate_from, position}
use Rattle.lines.specs.Text.{line_text}
use Rattle.lines.specs.declared.line.Line.{Line}
use Rattle.lines.specs.declared.line.Fields.TheVariants.{Three, Single}
use Rattle.texts.specs.ListWrite.{over, roomy, laid_if}
use Rattle.texts.specs.declared.fault.TextFault.{TextFault}
use Rattle.texts.specs.declared.fault.TextFault.TheVariants.{OutOfLimits}
use Rattle.reports.specs.declared.record.ReportRecord.{ReportRecord}

abbrev pub record_line : ℕ × ReportRecord → Line
record_line p = record { letter = 68; fields = Three p.0 p.1.cross (cond p.1.drives 1 0) }

abbrev pub record_text : ℕ × ReportRecord → List ℕ
record_text p = line_text (record_line p)

abbrev pub pick_line : Option ℕ → Line
pick_line o = record { letter = 80; fields = Single o }

-- a record's table is its turn, from 0
abbrev pub report_text : List ReportRecord → Option ℕ → List ℕ
report_text l o = flat_map record_text (enumerate_from 0 l) ++ line_text (pick_line o)

abbrev pub report_length : List ReportRecord → ℕ
report_length l = 17 * (length l + 1)

abbrev pub record_over : ℕ × ReportRecord → Bool
record_over p = over p.0 || over p.1.cross

abbrev pub pick_over : Option ℕ → Bool
pick_over None = false
pick_over (Some v) = over v

-- the turn of a line whose number is too large, or what follows where there is none
abbrev pub over_told : Option ℕ → Result Unit TextFault → Result Unit TextFault
over_told (Some i) r = Err (OutOfLimits (17 * i))
over_told None r = r

-- the D lines come first, and the P line after them
abbrev pub numbers_checked : List ReportRecord → Option ℕ → Result Unit TextFault
numbers_checked l o =
    over_told (position record_over (enumerate_from 0 l))
    (cond (pick_over o) (Err (OutOfLimits (17 * length l))) (Ok tt))

abbrev pub report_answer : List ReportRecord → Option ℕ → ℕ → Result ℕ TextFault
report_answer l o b = roomy (numbers_checked l o) (report_length l) b

abbrev pub report_written : List ReportRecord → Option ℕ → List ℕ → List ℕ
report_written l o out = laid_if (report_answer l o (length out)) out (report_text l o)
