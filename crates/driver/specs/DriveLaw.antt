-- What the program `drive` amounts to, in bytes: for the text of a query whose marks make a spanning tree of its graph it prints of each
-- table the cross count and whether it drives, and the table picked; for everything else the line of a refusal.
--
--   Tells m l rows p         the marks l make a spanning tree of m, and the report p tells of each table its cross count and whether some
--                            search from it walks precisely the marks, and picks among those by the counts of `rows`
--   OfQuery input m ms rs    the input is the text of a query with the graph m, the marks ms and the row counts rs
--   GivesReport input out    the input is the text of a query, and the report of its graph and marks is printed
--   RefusesTree input out    the input is the text of a query whose marks make no spanning tree, and the line of 18, or of the first mark
--                            that is amiss, is printed
--   Reports input out        one of these two, or the input is the text of no query, and the line of the first line amiss is printed. No
--                            input is of two of these three kinds
use Rattle.std.specs.Prelude.{◌≡◌, ℕ, ◌<◌, ◌≤◌, ◌⊎◌, List, length, None, ℤ}
use Rattle.theory.specs.Graph.{Graph, table_count}
use Rattle.theory.specs.declared.mark.Mark.{Mark}
use Rattle.catalogue.specs.Rows.{count_of}
use Rattle.catalogue.specs.declared.catalogue.RowRecord.{RowRecord}
use Rattle.trees.specs.Fault.{tree_number, tree_place}
use Rattle.trees.specs.Tree.{marked, MarksTree, FaultTold}
use Rattle.trees.specs.declared.fault.TreeFault.{TreeFault}
use Rattle.reports.specs.Pick.{Picks}
use Rattle.driving.specs.DriveLaw.{RecordTells}
use Rattle.lines.specs.Text.{line_text}
use Rattle.prints.specs.Refusal.{refusal_line}
use Rattle.queries.specs.QueryLaw.{lines_graph, last_count}
use Rattle.report_texts.specs.ReportText.{report_text}
use Rattle.assembler.specs.AssembleLaw.{IsQuery, RefusesQuery}
use Rattle.driver.specs.Drive.{Report}

pub record Tells (m : Graph) (l : List Mark) (rows : List RowRecord) (p : Report) : Type 0 where
  pub tree : MarksTree m l
  -- a record for each table, in rising number
  pub each : length p.records ≡ table_count m
  -- tells how many joins are cross joins where the tree is rooted at the table, and that the table drives exactly when some depth-first
  -- search of the joins, begun there, walks precisely the marks
  pub tells : (x : ℕ) → x < table_count m → RecordTells m (marked (table_count m) l) x p.records
  -- of the tables that drive, the one of the lowest count; where no count is known the lowest one; none where none drives
  pub picks : Picks p.records rows p.pick

-- a query, and its graph of exactly the joins of the J lines
pub record OfQuery (input : List ℕ) (m : Graph) (ms : List Mark) (rs : List (ℕ × ℤ)) : Type 0 where
  pub js : List (ℕ × ℕ)
  pub graph_is : m ≡ lines_graph (table_count m) js
  pub query : IsQuery input (table_count m) js ms rs

pub record GivesReport (input out : List ℕ) : Type 0 where
  pub graph : Graph
  pub ms : List Mark
  pub rs : List (ℕ × ℤ)
  pub of : OfQuery input graph ms rs
  -- each table's count is that of its last R line, and none where it has none
  pub rows : List RowRecord
  pub counts : (t : ℕ) → count_of rows t ≡ last_count rs t None
  pub report : Report
  pub tells : Tells graph ms rows report
  pub prints : out ≡ report_text report.records report.pick

pub record RefusesTree (input out : List ℕ) : Type 0 where
  pub graph : Graph
  pub ms : List Mark
  pub rs : List (ℕ × ℤ)
  pub of : OfQuery input graph ms rs
  -- it is the text of no query whose marks make a spanning tree
  pub none : (n : ℕ) (js : List (ℕ × ℕ)) (ms' : List Mark) (rs' : List (ℕ × ℤ)) → IsQuery input n js ms' rs' → MarksTree (lines_graph n js) ms' → ⊥
  -- 18, or 1, 2, 4 or 19 of the first mark that is amiss
  pub fault : TreeFault
  pub told : FaultTold graph ms fault
  pub small : tree_place fault ≤ 99999
  pub prints : out ≡ line_text (refusal_line (tree_number fault) 4 (tree_place fault))

abbrev pub Reports : List ℕ → List ℕ → Type 0
Reports input out = GivesReport input out ⊎ (RefusesQuery input out ⊎ RefusesTree input out)
