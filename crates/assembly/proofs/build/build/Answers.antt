-- A request: refused, or the list laid.
use Rattle.std.proofs.Common.{◌-◌, length, Ok, sym, refl}
use Rattle.std.proofs.lemmas.Result.{err_from_is_err_and}
use Rattle.bits.specs.Rows.{rows_graph}
use Rattle.bits.proofs.Edits.{simple_of}
use Rattle.assembly.proofs.Requested.{from_zero, refused_so, accepted_fit, given_so}
use Rattle.assembly.proofs.Laws.{told_laws}
use Rattle.assembly.proofs.build.build.Goals as goal

pub returns-in_err-judge : goal.returns-in_err-judge
returns-in_err-judge g c =
    let m = g.G.ReadableGraph.meaning c.args.graph.now in
    let s = g.met.G.ReadableGraph.simple c.args.graph.now in
    let l = c.args.records.now in
    let copy = c.copy_of-copy.result in
    let p = err_from_is_err_and c.from_residual.result c.from_residual.ensures.1 in
    let both = refused_so m (rows_graph copy.count copy.rows) c.copy_of-copy.ensures c.survey-found.result (from_zero (rows_graph copy.count copy.rows) (copy.count - 1) c.survey-found.result c.survey-found.ensures)
    c.tables.result c.joins.result c.saturating_sub-steps.result (length l) c.tables.ensures c.joins.ensures c.saturating_sub-steps.ensures c.judge.result c.judge.ensures.answer
    c.judge.ensures.fits.0 c.judge.ensures.fits.1 c.in_err-judge.field-0.0 p.0 c.from_residual.result l refl c.in_err-judge.was p.1 (sym p.2) in
    let laws = told_laws m s l c.from_residual.result l both.0 both.1 in
    record {
      answer = laws.answer;
      filled = laws.filled;
      listed = laws.listed;
      legal = laws.legal;
      refused = laws.refused;
      named = laws.named;
      plays = laws.plays;
    }

pub lay-triangle-requires : goal.lay-triangle-requires
lay-triangle-requires g c =
    let m = g.G.ReadableGraph.meaning c.args.graph.now in
    let copy = c.copy_of-copy.result in
    record {
      surveyed = from_zero (rows_graph copy.count copy.rows) (copy.count - 1) c.survey-found.result c.survey-found.ensures;
      room = accepted_fit m (rows_graph copy.count copy.rows) c.copy_of-copy.ensures c.survey-found.result (from_zero (rows_graph copy.count copy.rows) (copy.count - 1) c.survey-found.result c.survey-found.ensures)
          c.tables.result c.joins.result c.saturating_sub-steps.result (length c.args.records.now) c.tables.ensures c.joins.ensures c.saturating_sub-steps.ensures
          c.judge.result c.judge.ensures.answer c.judge.ensures.fits.0 c.judge.ensures.fits.1 (simple_of copy) c.in_ok-judge.was;
    }

pub returns : goal.returns
returns g c =
    let m = g.G.ReadableGraph.meaning c.args.graph.now in
    let s = g.met.G.ReadableGraph.simple c.args.graph.now in
    let l = c.args.records.now in
    let copy = c.copy_of-copy.result in
    let r = Ok (record { triangle = c.lay-triangle.result; steps = c.saturating_sub-steps.result }) in
    let l' = c.lay-triangle.new.records in
    let both = given_so m (rows_graph copy.count copy.rows) c.copy_of-copy.ensures c.survey-found.result (from_zero (rows_graph copy.count copy.rows) (copy.count - 1) c.survey-found.result c.survey-found.ensures)
    c.tables.result c.joins.result c.saturating_sub-steps.result (length l) c.tables.ensures c.joins.ensures c.saturating_sub-steps.ensures
    c.judge.result c.judge.ensures.answer c.judge.ensures.fits.0 c.judge.ensures.fits.1
    c.lay-triangle.result l l' refl c.in_ok-judge.was c.lay-triangle.ensures.triangle c.lay-triangle.ensures.steps in
    let laws = told_laws m s l r l' both.0 both.1 in
    record {
      answer = laws.answer;
      filled = laws.filled;
      listed = laws.listed;
      legal = laws.legal;
      refused = laws.refused;
      named = laws.named;
      plays = laws.plays;
    }
