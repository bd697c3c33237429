-- What the program `drive` prints, for the bytes read. `DriveLaw` says in other words what this amounts to.
--
--   marks_read text marks h       the marks of a query with the head h
--   request m l rows              the report of a graph m with the marks l, and the pick by the records of a catalogue: the marks fill a
--                                 tree, and then 64 records are lent for the report
--   drive_told text marks         the same of the query, where it is accepted
--   report_left r l               the 64 records of the report afterwards
--   outcome r                     how many records a report fills, and the table picked
--   printed r                     the text of the report and the pick, or the line of the refusal
--   shown b r                     what is printed into b bytes: 9 for a report that does not fit, nothing where no line fits
--   drive_prints text len marks   what is printed where the first `len` bytes of the text were read
use Rattle.std.specs.Prelude.{ℕ, cond, List, [], ◌++◌, length, take, drop, Option, Ok, Err, Result, nat_lt}
use Rattle.theory.specs.Graph.{Graph, table_count}
use Rattle.theory.specs.declared.mark.Mark.{Mark}
use Rattle.catalogue.specs.declared.catalogue.RowRecord.{RowRecord}
use Rattle.trees.specs.Tree.{marked, fill_answer}
use Rattle.trees.specs.declared.fault.TreeFault.{TreeFault}
use Rattle.reports.specs.Pick.{picked}
use Rattle.reports.specs.declared.record.ReportRecord.{ReportRecord}
use Rattle.driving.specs.Drive.{report_of, drive_judged}
use Rattle.driving.specs.declared.fault.DriveFault.{DriveFault}
use Rattle.lines.specs.Text.{line_text}
use Rattle.texts.specs.declared.fault.TextFault.TheVariants.{TooFew}
use Rattle.rejections.specs.declared.fault.QueryFault.{QueryFault}
use Rattle.queries.specs.declared.query.QueryHead.{QueryHead}
use Rattle.prints.specs.Refusal.{refusal_line}
use Rattle.outcomes.specs.Fault.{fault_number, fault_layer, fault_place}
use Rattle.outcomes.specs.declared.fault.ProgramFault.{ProgramFault}
use Rattle.outcomes.specs.declared.fault.ProgramFault.TheVariants.{Text, Query, Tree, Drive}
use Rattle.report_texts.specs.ReportText.{report_text, report_length}
use Rattle.programs.specs.Replay.{looked_at}
use Rattle.assembler.specs.Assemble.{query_in}
use Rattle.driver.specs.declared.drive.Outcome.{Outcome}

abbrev pub marks_read : List ℕ → List Mark → QueryHead → List Mark
marks_read text marks h = take h.marks (query_in text marks).marks

-- a record for each table, and the table picked
pub record Report : Type 0 where
  pub records : List ReportRecord
  pub pick : Option ℕ

-- a refusal, or what follows
abbrev pub query_then : {Y : Type 0} → Result QueryHead QueryFault → (QueryHead → Result Y ProgramFault) → Result Y ProgramFault
query_then (Ok h) next = next h
query_then (Err f) next = Err (Query f)

abbrev pub tree_then : {Y : Type 0} → Result Unit TreeFault → Result Y ProgramFault → Result Y ProgramFault
tree_then (Ok u) next = next
tree_then (Err f) next = Err (Tree f)

abbrev pub drive_last : {Y : Type 0} → Result Unit DriveFault → Y → Result Y ProgramFault
drive_last (Ok u) y = Ok y
drive_last (Err f) y = Err (Drive f)

abbrev pub report_by : Graph → Graph → List RowRecord → Report
report_by m t rows = record { records = report_of m t; pick = picked (report_of m t) rows }

-- the tree, then the driving request
unfoldable pub request : Graph → List Mark → List RowRecord → Result Report ProgramFault
request m l rows =
    tree_then (fill_answer m l) (drive_last (drive_judged m (marked (table_count m) l) 64) (report_by m (marked (table_count m) l) rows))

-- the query, then these
unfoldable pub drive_told : List ℕ → List Mark → Result Report ProgramFault
drive_told text marks =
    query_then (query_in text marks).told (λ h. request (query_in text marks).graph (marks_read text marks h) (query_in text marks).rows)

abbrev pub report_left : Result Report ProgramFault → List ReportRecord → List ReportRecord
report_left (Ok p) l = p.records ++ drop (length p.records) l
report_left (Err f) l = l

abbrev pub outcome : Result Report ProgramFault → Result Outcome ProgramFault
outcome (Ok p) = Ok (record { tables = length p.records; pick = p.pick })
outcome (Err f) = Err f

abbrev pub printed : Result Report ProgramFault → List ℕ
printed (Ok p) = report_text p.records p.pick
printed (Err f) = line_text (refusal_line (fault_number f) (fault_layer f) (fault_place f))

-- a report whose text does not fit into b bytes is refused by 9, with the bytes needed
abbrev pub roomed : ℕ → Result Report ProgramFault → Result Report ProgramFault
roomed b (Ok p) = cond (nat_lt b (report_length p.records)) (Err (Text (TooFew (report_length p.records)))) (Ok p)
roomed b (Err f) = Err f

-- and nothing is printed where not even a line fits
abbrev pub shown : ℕ → Result Report ProgramFault → List ℕ
shown b r = cond (nat_lt b 17) [] (printed (roomed b r))

abbrev pub drive_prints : List ℕ → ℕ → List Mark → List ℕ
drive_prints text len marks = shown (length text) (drive_told (looked_at text len) marks)
