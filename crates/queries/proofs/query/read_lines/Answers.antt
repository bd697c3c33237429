use Rattle.std.proofs.Common.{length, take, drop, ◌++◌, sym, ap, ap₂, ◌∙◌}
use Rattle.std.proofs.lemmas.List.{length-take-le}
use Rattle.bits.specs.Rows.{rows_graph}
use Rattle.texts.proofs.Refusals.{passed_on}
use Rattle.rejections.specs.declared.fault.QueryFault.TheVariants.{Text}
use Rattle.queries.proofs.Told.{told_of, head_off, joins_said, joins_off, few_due, marks_said, marks_off, rows_said, rows_off, rows_on}
use Rattle.queries.proofs.query.read_lines.Goals as goal

-- the G line is refused
pub returns-in_err-head : goal.returns-in_err-head
returns-in_err-head c =
    let r = c.args.reader.now in
    let l = c.args.marks.now in
    let rows = c.args.rows.now.records in
    let q = c.from_residual.result in
    let f = c.in_err-head.field-0.0 in
    head_off r.text.now r.at l rows f (sym c.head_line.ensures.answer ∙ c.in_err-head.was)
    ∙ ap₂ (λ q m. told_of q m l rows) (sym (passed_on q (Text f) c.from_residual.ensures.1)) (sym c.new.ensures)

-- a J line is refused
pub returns-in_err-read_joins : goal.returns-in_err-read_joins
returns-in_err-read_joins c =
    let r = c.args.reader.now in
    let l = c.args.marks.now in
    let rows = c.args.rows.now.records in
    let g = rows_graph c.read_joins.new.graph.count c.read_joins.new.graph.rows in
    let q = c.from_residual-in_err-read_joins.result in
    let f = c.in_err-read_joins.field-0.0 in
    let j = joins_said c.head_line.ensures.answer c.in_ok-head.was c.in_ok-head.ensures.within c.in_ok-head.ensures.onward c.new-2.ensures c.read_joins.ensures.effect in
    joins_off r.text.now r.at l rows j f c.in_err-read_joins.was
    ∙ ap (λ q. told_of q g l rows) (sym (passed_on q f c.from_residual-in_err-read_joins.ensures.1))

-- there are records for the marks that are owed
pub slice_bounds-read_marks-end : goal.slice_bounds-read_marks-end
slice_bounds-read_marks-end c =
    let j = joins_said c.head_line.ensures.answer c.in_ok-head.was c.in_ok-head.ensures.within c.in_ok-head.ensures.onward c.new-2.ensures c.read_joins.ensures.effect in
    few_due j c.read_joins.new.reader.text.now c.read_joins.new.reader.at c.marks_due-count.result c.marks_due-count.ensures

pub slice_bounds-read_marks-end-2 : goal.slice_bounds-read_marks-end-2
slice_bounds-read_marks-end-2 c =
    let j = joins_said c.head_line.ensures.answer c.in_ok-head.was c.in_ok-head.ensures.within c.in_ok-head.ensures.onward c.new-2.ensures c.read_joins.ensures.effect in
    sym (length-take-le c.marks_due-count.result c.args.marks.now (few_due j c.read_joins.new.reader.text.now c.read_joins.new.reader.at c.marks_due-count.result c.marks_due-count.ensures))

-- an M line is refused
pub returns-in_err-read_marks : goal.returns-in_err-read_marks
returns-in_err-read_marks c =
    let r = c.args.reader.now in
    let l = c.args.marks.now in
    let rows = c.args.rows.now.records in
    let g = rows_graph c.read_joins.new.graph.count c.read_joins.new.graph.rows in
    let ms = c.read_marks.new.marks ++ drop c.marks_due-count.result l in
    let q = c.from_residual-in_err-read_marks.result in
    let f = c.in_err-read_marks.field-0.0 in
    let j = joins_said c.head_line.ensures.answer c.in_ok-head.was c.in_ok-head.ensures.within c.in_ok-head.ensures.onward c.new-2.ensures c.read_joins.ensures.effect in
    let m = marks_said j c.in_ok-head.ensures.onward c.in_ok-read_joins.ensures.onward c.marks_due-count.ensures c.read_marks.ensures.effect in
    marks_off r.text.now r.at l rows j c.in_ok-read_joins.was m f c.in_err-read_marks.was
    ∙ ap (λ q. told_of q g ms rows) (sym (passed_on q f c.from_residual-in_err-read_marks.ensures.1))

-- an R line is refused, or what follows
pub returns-in_err-end : goal.returns-in_err-end
returns-in_err-end c =
    let r = c.args.reader.now in
    let l = c.args.marks.now in
    let rows = c.args.rows.now.records in
    let g = rows_graph c.read_joins.new.graph.count c.read_joins.new.graph.rows in
    let ms = c.read_marks.new.marks ++ drop c.marks_due-count.result l in
    let q = c.from_residual-in_err-end.result in
    let f = c.in_err-end.field-0.0 in
    let j = joins_said c.head_line.ensures.answer c.in_ok-head.was c.in_ok-head.ensures.within c.in_ok-head.ensures.onward c.new-2.ensures c.read_joins.ensures.effect in
    let m = marks_said j c.in_ok-head.ensures.onward c.in_ok-read_joins.ensures.onward c.marks_due-count.ensures c.read_marks.ensures.effect in
    let s = rows_said j c.in_ok-head.ensures.onward c.in_ok-read_joins.ensures.onward (length (take c.marks_due-count.result c.args.marks.now)) c.in_ok-read_marks.ensures.onward c.read_rows.ensures.answer c.read_rows.ensures.left in
    rows_off r.text.now r.at l rows j c.in_ok-read_joins.was m c.in_ok-read_marks.was s f c.in_err-end.was
    ∙ ap (λ q. told_of q g ms c.read_rows.new.rows.records) (sym (passed_on q f c.from_residual-in_err-end.ensures.1))

pub returns : goal.returns
returns c =
    let r = c.args.reader.now in
    let l = c.args.marks.now in
    let rows = c.args.rows.now.records in
    let j = joins_said c.head_line.ensures.answer c.in_ok-head.was c.in_ok-head.ensures.within c.in_ok-head.ensures.onward c.new-2.ensures c.read_joins.ensures.effect in
    let m = marks_said j c.in_ok-head.ensures.onward c.in_ok-read_joins.ensures.onward c.marks_due-count.ensures c.read_marks.ensures.effect in
    let s = rows_said j c.in_ok-head.ensures.onward c.in_ok-read_joins.ensures.onward (length (take c.marks_due-count.result c.args.marks.now)) c.in_ok-read_marks.ensures.onward c.read_rows.ensures.answer c.read_rows.ensures.left in
    rows_on r.text.now r.at l rows j c.in_ok-read_joins.was m c.in_ok-read_marks.was s c.in_ok-end.end c.in_ok-end.was
