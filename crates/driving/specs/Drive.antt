-- What a driving request answers, and what it leaves in the report: m is the graph, t the tree, of which the graph's joins and the marks
-- are asked. `DriveLaw` says in other words what this amounts to.
--
--   missing m t x          the mark of table x towards table 0 is no join of the graph
--   lowest_missing m t     the lowest such table, or none
--   drive_judged m t room  20 not as many tables, 4 the lowest table whose mark towards table 0 is missing, 9 fewer records than tables,
--                          or accepted; `room` records are lent
--   record_of count        what is reported of a table with so many cross joins: their number, and whether it is 0
--   records_from counts x k
--                          the records of the k tables from x on
--   report_of m t          the records of all tables, in rising number
--   report_after r m t l   the records l after the answer r: the report, then the later records as they were; or all as they were
use Rattle.std.specs.Prelude.{ℕ, zero, suc, ◌+◌, Bool, cond, not, ◌&&◌, List, [], ◌∷◌, ◌++◌, drop, Some, None, Option, Ok, Err, Result, ◌==◌, nat_lt}
use Rattle.theory.specs.Graph.{Graph, joined, is_table, table_count}
use Rattle.disassembly.specs.Search.{lowest_from}
use Rattle.spanning.specs.Crossing.{cross_count}
use Rattle.spanning.specs.Laws.{parent_in}
use Rattle.reports.specs.declared.record.ReportRecord.{ReportRecord}
use Rattle.driving.specs.declared.fault.DriveFault.{DriveFault}
use Rattle.driving.specs.declared.fault.DriveFault.TheVariants.{OtherCount, NotJoined, TooFewRecords}

-- table 0 has no mark towards itself
unfoldable pub missing : Graph → Graph → ℕ → Bool
missing m t x = (is_table t x && not (x == 0)) && not (joined m x (parent_in t x))

unfoldable pub lowest_missing : Graph → Graph → Option ℕ
lowest_missing m t = lowest_from 0 64 (missing m t)

abbrev pub unless_missing : Option ℕ → Result Unit DriveFault → Result Unit DriveFault
unless_missing (Some x) next = Err (NotJoined x)
unless_missing None next = next

unfoldable pub drive_judged : Graph → Graph → ℕ → Result Unit DriveFault
drive_judged m t room =
    cond (not (table_count t == table_count m)) (Err (OtherCount (table_count t) (table_count m)))
    (unless_missing (lowest_missing m t)
    (cond (nat_lt room (table_count m)) (Err (TooFewRecords (table_count m))) (Ok tt)))

abbrev pub record_of : ℕ → ReportRecord
record_of count = record { cross = count; drives = count == 0 }

unfoldable pub records_from : (ℕ → ℕ) → ℕ → ℕ → List ReportRecord
records_from counts x zero = []
records_from counts x (suc k) = record_of (counts x) ∷ records_from counts (x + 1) k

abbrev pub report_of : Graph → Graph → List ReportRecord
report_of m t = records_from (cross_count m t) 0 (table_count m)

abbrev pub report_after : Result Unit DriveFault → Graph → Graph → List ReportRecord → List ReportRecord
report_after (Ok u) m t l = report_of m t ++ drop (table_count m) l
report_after (Err f) m t l = l
