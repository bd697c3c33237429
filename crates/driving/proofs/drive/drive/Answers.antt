-- The judgement is that of the graph and the tree, since the copy keeps the graph and the marks the tree; the rest follows from it.
use Rattle.std.proofs.Common.{◌≡◌, ℕ, ◌+◌, ◌-◌, ◌<◌, ◌≤◌, min, List, length, drop, get_or, ◌++◌, Ok, Err, Result, sym, ap, ap₂, ◌∙◌, subst, arith}
use Rattle.std.proofs.lemmas.Result.{err_from_is_err_and}
use Rattle.theory.specs.Graph.{Graph, Simple, table_count}
use Rattle.spanning.specs.Spanning.{Spanning}
use Rattle.spanning.specs.Crossing.{cross_count}
use Rattle.spanning.specs.Laws.{MarksOf}
use Rattle.bits.specs.Table.{graph_of}
use Rattle.trees.specs.Spanner.{tree_of}
use Rattle.traversal.specs.Survey.{Searches}
use Rattle.traversal.specs.declared.survey.Survey.{Survey}
use Rattle.reports.specs.declared.record.ReportRecord.{ReportRecord}
use Rattle.driving.specs.Drive.{drive_judged, records_from, report_after}
use Rattle.driving.specs.DriveLaw.{Reported, DriveNamed, AcceptedExactly}
use Rattle.driving.specs.declared.fault.DriveFault.{DriveFault}
use Rattle.driving.proofs.LaidRecords.{records_same}
use Rattle.driving.proofs.Named.{named, exactly, reported, marks_of_tree, accepted_tells}
use Rattle.driving.proofs.drive.drive.Goals as goal

record Told (m t : Graph) (r : Result Unit DriveFault) (l l' : List ReportRecord) : Type 0 where
  answer : r ≡ drive_judged m t (length l)
  filled : l' ≡ report_after r m t l
  reports : Reported m t r l'
  names : DriveNamed m t (length l) r
  accepts : AcceptedExactly m t (length l) r

told : (m t : Graph) → Simple m → Spanning t → (r : Result Unit DriveFault) (l l' : List ReportRecord) → r ≡ drive_judged m t (length l) → l' ≡ report_after r m t l → Told m t r l l'
told m t s g r l l' e after = record {
  answer = e;
  filled = after;
  reports = subst (Reported m t r) (sym after) (reported m t r (λ q. marks_of_tree m t s g (length l) (sym e ∙ q)) l);
  names = subst (DriveNamed m t (length l)) (sym e) (named m t s g (length l));
  accepts = subst (AcceptedExactly m t (length l)) (sym e) (exactly m t s g (length l));
}

from_zero : (k : Graph) (n : ℕ) (s : Survey) → Searches k (min 0 n) s → Searches k 0 s
from_zero k n s h = let e : min 0 n ≡ 0 = omega arith in subst (λ r. Searches k r s) e h

-- the copy and the marks, as they are judged
module _ (m t k n : Graph) (copied : k ≡ m) (is : n ≡ t) (simple : Simple m) (spanning : Spanning t) (room : ℕ)
    (r : Result Unit DriveFault) (judged : r ≡ drive_judged k n room) where
  judged_so : r ≡ drive_judged m t room
  judged_so = judged ∙ ap₂ (λ (a b : Graph). drive_judged a b room) copied is

  marks_so : r ≡ Ok tt → MarksOf k n
  marks_so was = subst (λ a. MarksOf a n) (sym copied) (subst (MarksOf m) (sym is) (marks_of_tree m t simple spanning room (sym judged_so ∙ was)))

  room_so : r ≡ Ok tt → table_count m ≤ room
  room_so was = (accepted_tells m t simple spanning room (sym judged_so ∙ was)).2

refused_so : (m t : Graph) (f h : DriveFault) (r o : Result Unit DriveFault) (l : List ReportRecord) → r ≡ drive_judged m t (length l) → r ≡ Err f → o ≡ Err h → f ≡ h
    → (o ≡ drive_judged m t (length l)) × (l ≡ report_after o m t l)
refused_so m t f h r o l judged was is same = (is ∙ sym (was ∙ ap Err same) ∙ judged, sym (ap (λ (x : Result Unit DriveFault). report_after x m t l) is))

pub returns-in_err-judge : goal.returns-in_err-judge
returns-in_err-judge g c =
    let m = g.G.ReadableGraph.meaning c.args.graph.now in
    let t = tree_of c.args.tree.now in
    let l = c.args.report.now in
    let simple = g.met.G.ReadableGraph.simple c.args.graph.now in
    let marks = c.marks-marks.result.now in
    let p = err_from_is_err_and c.from_residual.result c.from_residual.ensures.1 in
    let search = from_zero (graph_of marks) (marks.count - 1) c.search-survey.result c.search-survey.ensures in
    let j = judged_so m t (graph_of c.copy_of-copy.result) (graph_of marks) c.copy_of-copy.ensures c.marks-marks.ensures.is simple c.marks-marks.ensures.spanning (length l) c.judge.result (c.judge.ensures search) in
    let both = refused_so m t c.in_err-judge.field-0.0 p.0 c.judge.result c.from_residual.result l j c.in_err-judge.was p.1 (sym p.2) in
    let all = told m t simple c.marks-marks.ensures.spanning c.from_residual.result l l both.0 both.1 in
    record { answer = all.answer; filled = all.filled; reported = all.reports; named = all.names; exactly = all.accepts }

pub cross_counts-counts-requires : goal.cross_counts-counts-requires
cross_counts-counts-requires g c =
    let m = g.G.ReadableGraph.meaning c.args.graph.now in
    let t = tree_of c.args.tree.now in
    let simple = g.met.G.ReadableGraph.simple c.args.graph.now in
    let marks = c.marks-marks.result.now in
    let search = from_zero (graph_of marks) (marks.count - 1) c.search-survey.result c.search-survey.ensures in (
      marks_so m t (graph_of c.copy_of-copy.result) (graph_of marks) c.copy_of-copy.ensures c.marks-marks.ensures.is simple c.marks-marks.ensures.spanning
          (length c.args.report.now) c.judge.result (c.judge.ensures search) c.in_ok-judge.was,
      search,
    )

pub lay-requires : goal.lay-requires
lay-requires g c =
    let m = g.G.ReadableGraph.meaning c.args.graph.now in
    let t = tree_of c.args.tree.now in
    let simple = g.met.G.ReadableGraph.simple c.args.graph.now in
    let marks = c.marks-marks.result.now in
    let copy = c.copy_of-copy.result in
    let search = from_zero (graph_of marks) (marks.count - 1) c.search-survey.result c.search-survey.ensures in
    let few = copy.few in
    let same : copy.count ≡ table_count m = ap table_count c.copy_of-copy.ensures in
    let room : table_count m ≤ length c.args.report.now =
    room_so m t (graph_of copy) (graph_of marks) c.copy_of-copy.ensures c.marks-marks.ensures.is simple c.marks-marks.ensures.spanning
    (length c.args.report.now) c.judge.result (c.judge.ensures search) c.in_ok-judge.was in
    (omega (arith, c.tables.ensures), omega (arith, c.tables.ensures))

pub returns : goal.returns
returns g c =
    let m = g.G.ReadableGraph.meaning c.args.graph.now in
    let t = tree_of c.args.tree.now in
    let l = c.args.report.now in
    let simple = g.met.G.ReadableGraph.simple c.args.graph.now in
    let marks = c.marks-marks.result.now in
    let copy = c.copy_of-copy.result in
    let search = from_zero (graph_of marks) (marks.count - 1) c.search-survey.result c.search-survey.ensures in
    let j = judged_so m t (graph_of copy) (graph_of marks) c.copy_of-copy.ensures c.marks-marks.ensures.is simple c.marks-marks.ensures.spanning (length l) c.judge.result (c.judge.ensures search) in
    let same : c.tables.result ≡ table_count m = c.tables.ensures ∙ ap table_count c.copy_of-copy.ensures in
    let counts : (x : ℕ) → x < 0 + c.tables.result → get_or c.cross_counts-counts.result x 0 ≡ cross_count m t x =
    λ x h. c.cross_counts-counts.ensures x (omega (arith, c.tables.ensures)) ∙ ap₂ (λ (a b : Graph). cross_count a b x) c.copy_of-copy.ensures c.marks-marks.ensures.is in
    let laid = c.lay.ensures ∙ ap (λ (r : List ReportRecord). r ++ drop c.tables.result l)
    (records_same (λ x. get_or c.cross_counts-counts.result x 0) (cross_count m t) 0 c.tables.result counts)
    ∙ ap (λ (k : ℕ). records_from (cross_count m t) 0 k ++ drop k l) same in
    let all = told m t simple c.marks-marks.ensures.spanning (Ok tt) l c.lay.new.report (sym c.in_ok-judge.was ∙ j) laid in
    record { answer = all.answer; filled = all.filled; reported = all.reports; named = all.names; exactly = all.accepts }
