use Rattle.std.proofs.Common.{◌≡◌, length, Err, sym, refl, ap, ◌∙◌, subst, arith}
use Rattle.std.proofs.lemmas.Result.{err_from_is_err_and}
use Rattle.bits.proofs.Edits.{simple_of}
use Rattle.bits.specs.Table.{graph_of}
use Rattle.catalogue.specs.Records.{records_of}
use Rattle.trees.specs.Spanner.{tree_of}
use Rattle.driver.specs.Drive.{outcome, report_left}
use Rattle.driver.specs.Inner.{Requested}
use Rattle.driver.proofs.Requests.{ok_err, fill_off, amiss_so, drive_on, filled_so, answer_so, tells_so}
use Rattle.driver.proofs.drive.requested.Goals as goal

pub returns-in_err-fill : goal.returns-in_err-fill
returns-in_err-fill c =
    let m = graph_of c.args.graph.now in
    let l = c.args.marks.now in
    let rows = records_of c.args.rows.now in
    let s = simple_of c.args.graph.now in
    let p = err_from_is_err_and c.from_residual.result c.from_residual.ensures.1 in
    let f = c.in_err-fill.field-0.0 in
    let off = fill_off m l rows s f c.fill.result c.in_err-fill.was c.fill.ensures.answer in
    let told = p.1 ∙ ap (λ e. Err e) p.2 in
    record {
      answer = told ∙ sym (ap outcome off);
      filled = sym (ap (λ r. report_left r c.args.report.now) off);
      law = subst (λ r. Requested m l rows r c.args.report.now) (sym told)
          (f, refl, amiss_so m l rows s f c.fill.result c.in_err-fill.was c.fill.ensures.exactly c.fill.ensures.refused);
    }

pub returns-in_err-drive : goal.returns-in_err-drive
returns-in_err-drive c =
    let m = graph_of c.args.graph.now in
    let on = drive_on m c.args.marks.now (records_of c.args.rows.now) (simple_of c.args.graph.now) c.fill.result c.in_ok-fill.was c.fill.ensures.answer c.fill.ensures.exactly
    (tree_of c.fill.new.self) c.in_ok-fill.ensures.filled c.args.report.now (omega arith) c.drive.result c.drive.ensures.exactly in
    absurd (ok_err c.in_err-drive.field-0.0 (sym on ∙ c.in_err-drive.was))

pub returns : goal.returns
returns c =
    let m = graph_of c.args.graph.now in
    let l = c.args.marks.now in
    let rows = records_of c.args.rows.now in
    let s = simple_of c.args.graph.now in
    let u = tree_of c.fill.new.self in
    let is = c.in_ok-fill.ensures.filled in
    let lent = c.args.report.now in
    let room : length lent ≡ 64 = omega arith in
    let filled = c.drive.new.report in
    record {
      answer = answer_so m l rows s c.fill.result c.in_ok-fill.was c.fill.ensures.answer c.fill.ensures.exactly u is lent room c.drive.result c.drive.ensures.exactly
          c.drive.ensures.answer filled c.drive.ensures.filled c.tables-tables.result c.tables-tables.ensures c.pick.result c.pick.ensures.answer c.pick.ensures.picks;
      filled = filled_so m l rows s c.fill.result c.in_ok-fill.was c.fill.ensures.answer c.fill.ensures.exactly u is lent room c.drive.result c.drive.ensures.exactly
          c.drive.ensures.answer filled c.drive.ensures.filled;
      law = tells_so m l rows s c.fill.result c.in_ok-fill.was c.fill.ensures.answer c.fill.ensures.exactly u is lent room c.drive.result c.drive.ensures.exactly
          c.drive.ensures.answer filled c.drive.ensures.filled c.tables-tables.result c.tables-tables.ensures c.pick.result c.pick.ensures.answer c.pick.ensures.picks
          c.drive.ensures.reported;
    }
