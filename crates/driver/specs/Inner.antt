-- What the functions inside the program promise each other.
--
--   TreeAmiss m l f                the marks l make no spanning tree of m, and f says what is amiss
--   Requested m l rows r records   the answer r to the request of a graph m, marks l and a catalogue's records, and the records of the
--                                  report afterwards
--   Amounts input r records        the answer r to the query read, and the records of the report afterwards
use Rattle.std.specs.Prelude.{◌≡◌, ℕ, ◌≤◌, ◌⊎◌, List, take, Ok, Err, Result}
use Rattle.theory.specs.Graph.{Graph}
use Rattle.theory.specs.declared.mark.Mark.{Mark}
use Rattle.catalogue.specs.declared.catalogue.RowRecord.{RowRecord}
use Rattle.trees.specs.Fault.{tree_place}
use Rattle.trees.specs.Tree.{MarksTree, FaultTold}
use Rattle.trees.specs.declared.fault.TreeFault.{TreeFault}
use Rattle.reports.specs.declared.record.ReportRecord.{ReportRecord}
use Rattle.outcomes.specs.declared.fault.ProgramFault.{ProgramFault}
use Rattle.outcomes.specs.declared.fault.ProgramFault.TheVariants.{Tree}
use Rattle.assembler.specs.AssembleLaw.{RefusesQuery}
use Rattle.driver.specs.Drive.{Report, printed}
use Rattle.driver.specs.DriveLaw.{Tells, GivesReport, RefusesTree}
use Rattle.driver.specs.declared.drive.Outcome.{Outcome}

abbrev pub report_at : Outcome → List ReportRecord → Report
report_at o records = record { records = take o.tables records; pick = o.pick }

pub record TreeAmiss (m : Graph) (l : List Mark) (f : TreeFault) : Type 0 where
  pub none : MarksTree m l → ⊥
  pub told : FaultTold m l f
  pub small : tree_place f ≤ 99999

abbrev pub Requested : Graph → List Mark → List RowRecord → Result Outcome ProgramFault → List ReportRecord → Type 0
Requested m l rows (Ok o) records = Tells m l rows (report_at o records)
Requested m l rows (Err f) records = (g : TreeFault) × (f ≡ Tree g) × TreeAmiss m l g

abbrev pub Amounts : List ℕ → Result Outcome ProgramFault → List ReportRecord → Type 0
Amounts input (Ok o) records = (g : GivesReport input (printed (Ok (report_at o records)))) × (g.report ≡ report_at o records)
Amounts input (Err f) records = RefusesQuery input (printed (Err f)) ⊎ RefusesTree input (printed (Err f))
