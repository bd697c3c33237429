use Rattle.std.proofs.Common.{sym, ap, ◌∙◌, rules}
use Rattle.texts.specs.declared.reader.Reader.{Reader}
use Rattle.texts.proofs.Refusals.{passed_on}
use Rattle.queries.specs.QueryRead.{row_at, row_step, rows_read}
use Rattle.queries.proofs.Steps.{lines_on, lines_off, lines_end}
use Rattle.queries.proofs.query.read_row_lines.Goals as goal

pub loop-preserved : goal.loop-preserved
loop-preserved c =
    let n = c.args.graph.now.count in
    let r = c.args.reader.now in
    let whole = rows_read n r.text.now r.at c.args.count c.args.rows.now.records in
    let s = c.loop.rows.records in
    let here = ap (λ (r : Reader). row_at n r.text.now r.at s) c.loop.invariant.1 in
    let onward = c.in_ok-read_row.ensures.onward in (
      lines_on (row_step n r.text.now r.at) whole c.args.count c.loop.counter s c.loop.invariant.0 c.loop-test.true c.read_row.result c.read_row.new.rows.records
          (sym here ∙ c.read_row.ensures.effect) c.in_ok-read_row.was,
      search rules,
    )

pub returns-in_err-read_row-clause-effect : goal.returns-in_err-read_row-clause-effect
returns-in_err-read_row-clause-effect c =
    let n = c.args.graph.now.count in
    let r = c.args.reader.now in
    let whole = rows_read n r.text.now r.at c.args.count c.args.rows.now.records in
    let s = c.loop.rows.records in
    let f = c.in_err-read_row.field-0.0 in
    let here = ap (λ (r : Reader). row_at n r.text.now r.at s) c.loop.invariant.1 in
    lines_off (row_step n r.text.now r.at) whole c.args.count c.loop.counter s c.loop.invariant.0 c.loop-test.true c.read_row.result c.read_row.new.rows.records
    (sym here ∙ c.read_row.ensures.effect) f c.in_err-read_row.was c.from_residual.result (passed_on c.from_residual.result f c.from_residual.ensures.1)

pub returns-clause-effect : goal.returns-clause-effect
returns-clause-effect c =
    let n = c.args.graph.now.count in
    let r = c.args.reader.now in
    let whole = rows_read n r.text.now r.at c.args.count c.args.rows.now.records in
    lines_end (row_step n r.text.now r.at) whole c.args.count c.loop.counter c.loop.rows.records c.loop.invariant.0 c.loop-test.false
