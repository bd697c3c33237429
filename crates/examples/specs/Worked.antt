-- Worked examples on small graphs, as the rows of one table: what the definitions of the requests and of the program `assemble` come to
-- there. Joins and marks are given as pairs of tables; a record that is lent may hold anything.
--
--   Example          a row: a request, or the text that is read, with what comes of it
--   Holds e          what the row e says
--   five_joins, all_joins, ring_of_three, chain_joins, ring_joins, crossed_star_joins
--                    the joins of the graphs
--   path_marks, star_marks
--                    the marks of the trees
--   driving          the record of a table that drives
--   crossed k        the record of a table that does not, for k cross joins
--   worked           the table
--   ExamplesStand    each of its rows holds
use Rattle.std.specs.Prelude.{◌≡◌, ℕ, ◌≤◌, true, false, List, [], ◌∷◌, ◌++◌, length, drop, Ok, Err}
use Rattle.std.specs.List.{All}
use Rattle.theory.specs.declared.mark.Mark.{Mark}
use Rattle.theory.specs.declared.step.Step.{Step}
use Rattle.theory.specs.declared.step.Step.TheVariants.{Edge, Node}
use Rattle.theory.specs.declared.step.Triangle.{Triangle}
use Rattle.refusals.specs.declared.build.BuildFault.{BuildFault}
use Rattle.refusals.specs.declared.build.BuildFault.TheVariants.{TooSmall, Unreached, Articulation, TooFewRecords}
use Rattle.assembly.specs.Build.{build_answer, records_after}
use Rattle.trees.specs.Tree.{marked, fill_answer}
use Rattle.reports.specs.declared.record.ReportRecord.{ReportRecord}
use Rattle.driving.specs.Drive.{drive_judged, report_after}
use Rattle.driving.specs.DriveLaw.{Reported}
use Rattle.programs.specs.Replay.{looked_at}
use Rattle.queries.specs.QueryLaw.{lines_graph}
use Rattle.assembler.specs.Assemble.{assemble_prints}
use Rattle.examples.specs.declared.worked.TheConstants.{FIVE, FIVE_LIST, CHAIN, CHAIN_REFUSED}

pub data Example : Type 0 where
  -- of so many tables with these joins, where there are records enough, a build request gives this triangle and these steps
  Lists : ℕ → List (ℕ × ℕ) → Triangle → List Step → Example
  -- of these, where there are no more than so many records, it gives this refusal
  Refuses : ℕ → List (ℕ × ℕ) → ℕ → BuildFault → Example
  -- of the bytes read, the program `assemble` prints these
  Assembles : List ℕ → List ℕ → Example
  -- of so many tables with these joins and these marks, a driving request reports this
  Reports : ℕ → List (ℕ × ℕ) → List Mark → List ReportRecord → Example

abbrev pub Holds : Example → Type 0
-- the steps fill the first records, and later ones keep their contents
Holds (Lists n js t s) = (l : List Step) → length s ≤ length l
    → (build_answer (lines_graph n js) (length l) ≡ Ok (record { triangle = t; steps = length s }))
    × (records_after (lines_graph n js) l ≡ s ++ drop (length s) l)
-- all records keep their contents
Holds (Refuses n js k f) = (l : List Step) → length l ≤ k
    → (build_answer (lines_graph n js) (length l) ≡ Err f)
    × (records_after (lines_graph n js) l ≡ l)
-- in memory for 2,013 steps and 63 marks; the bytes past those read may be any
Holds (Assembles input output) = (text : List ℕ) (len : ℕ) (steps : List Step) (marks : List Mark)
    → looked_at text len ≡ input → length steps ≡ 2013 → length marks ≡ 63
    → assemble_prints text len steps marks ≡ output
-- the marks make a spanning tree of the graph; the records fill the first of those lent, and later ones keep their contents; and each
-- tells the cross count by marked paths, and that its table drives exactly when some depth-first search, begun there, walks precisely the
-- marks
Holds (Reports n js ms r) = (fill_answer (lines_graph n js) ms ≡ Ok tt)
    × ((l : List ReportRecord) → n ≤ length l
    → (drive_judged (lines_graph n js) (marked n ms) (length l) ≡ Ok tt)
    × (report_after (Ok tt) (lines_graph n js) (marked n ms) l ≡ r ++ drop n l)
    × Reported (lines_graph n js) (marked n ms) (Ok tt) (r ++ drop n l))

abbrev pub five_joins : List (ℕ × ℕ)
five_joins = (0, 1) ∷ (0, 4) ∷ (1, 2) ∷ (1, 3) ∷ (2, 3) ∷ (3, 4) ∷ []

-- each two of four tables
abbrev pub all_joins : List (ℕ × ℕ)
all_joins = (0, 1) ∷ (0, 2) ∷ (0, 3) ∷ (1, 2) ∷ (1, 3) ∷ (2, 3) ∷ []

abbrev pub ring_of_three : List (ℕ × ℕ)
ring_of_three = (0, 1) ∷ (0, 2) ∷ (1, 2) ∷ []

abbrev pub chain_joins : List (ℕ × ℕ)
chain_joins = (0, 1) ∷ (1, 2) ∷ []

abbrev pub first_three : Triangle
first_three = record { a = 0; b = 1; c = 2 }

abbrev pub ring_joins : List (ℕ × ℕ)
ring_joins = (0, 1) ∷ (1, 2) ∷ (2, 3) ∷ (0, 3) ∷ []

abbrev pub crossed_star_joins : List (ℕ × ℕ)
crossed_star_joins = (0, 1) ∷ (0, 2) ∷ (0, 3) ∷ (1, 2) ∷ []

abbrev pub mark : ℕ → ℕ → Mark
mark v w = record { v = v; w = w }

abbrev pub path_marks : List Mark
path_marks = mark 0 1 ∷ mark 1 2 ∷ mark 2 3 ∷ []

abbrev pub star_marks : List Mark
star_marks = mark 0 1 ∷ mark 0 2 ∷ mark 0 3 ∷ []

abbrev pub driving : ReportRecord
driving = record { cross = 0; drives = true }

abbrev pub crossed : ℕ → ReportRecord
crossed k = record { cross = k; drives = false }

abbrev pub worked : List Example
worked =
    Lists 5 five_joins first_three (Node 3 0 2 ∷ Edge 1 3 ∷ Node 4 0 3 ∷ [])
    ∷ Assembles FIVE.now FIVE_LIST.now
    ∷ Lists 4 all_joins first_three (Node 3 0 2 ∷ Edge 0 2 ∷ Edge 1 3 ∷ [])
    ∷ Refuses 4 all_joins 2 (TooFewRecords 3)
    ∷ Lists 3 ring_of_three first_three []
    ∷ Refuses 2 ((0, 1) ∷ []) 2013 TooSmall
    ∷ Refuses 4 chain_joins 2013 (Unreached 3)
    ∷ Refuses 3 chain_joins 2013 (Articulation 1)
    ∷ Assembles CHAIN.now CHAIN_REFUSED.now
    ∷ Reports 4 ring_joins path_marks (driving ∷ crossed 1 ∷ crossed 1 ∷ driving ∷ [])
    ∷ Reports 4 crossed_star_joins star_marks (crossed 1 ∷ driving ∷ driving ∷ crossed 1 ∷ [])
    ∷ Reports 1 [] [] (driving ∷ [])
    ∷ []

abbrev pub ExamplesStand : Type 0
ExamplesStand = All Holds worked
