use Rattle.std.proofs.Common.{◌++◌, length, take, drop, sym, ap, ◌∙◌}
use Rattle.texts.specs.Reader.{past_lines}
use Rattle.texts.specs.ListRead.{triangle_at, steps_read}
use Rattle.texts.specs.declared.reader.Reader.{Reader}
use Rattle.texts.proofs.Refusals.{passed_on}
use Rattle.texts.proofs.Told.{told_of, two_past, head_off, triangle_off, steps_off, list_on}
use Rattle.texts.proofs.reader.Reader.list.Goals as goal

pub returns-in_err-head : goal.returns-in_err-head
returns-in_err-head c =
    let r = c.args.self.now in
    let l = c.args.records.now in
    let f = c.in_err-head.field-0.0 in
    let q = c.from_residual.result in
    head_off r.text.now r.at l f (sym c.head.ensures.answer ∙ c.in_err-head.was) ∙ ap (λ q. told_of q l) (sym (passed_on q f c.from_residual.ensures.1))

pub returns-in_err-triangle : goal.returns-in_err-triangle
returns-in_err-triangle c =
    let r = c.args.self.now in
    let l = c.args.records.now in
    let f = c.in_err-triangle.field-0.0 in
    let q = c.from_residual-in_err-triangle.result in
    let headed = sym c.head.ensures.answer ∙ c.in_ok-head.was in
    let bad = sym (c.triangle.ensures.answer ∙ ap (λ (r : Reader). triangle_at r.text.now r.at) c.in_ok-head.ensures.onward) ∙ c.in_err-triangle.was in
    triangle_off r.text.now r.at l c.in_ok-head.head headed f bad ∙ ap (λ q. told_of q l) (sym (passed_on q f c.from_residual-in_err-triangle.ensures.1))

pub returns-in_err-steps : goal.returns-in_err-steps
returns-in_err-steps c =
    let r = c.args.self.now in
    let l = c.args.records.now in
    let h = c.in_ok-head.head in
    let t = c.in_ok-triangle.triangle in
    let f = c.in_err-steps.field-0.0 in
    let q = c.from_residual-in_err-steps.result in
    let first = take h.steps l in
    let headed = sym c.head.ensures.answer ∙ c.in_ok-head.was in
    let good = sym (c.triangle.ensures.answer ∙ ap (λ (r : Reader). triangle_at r.text.now r.at) c.in_ok-head.ensures.onward) ∙ c.in_ok-triangle.was in
    let there = two_past r c.head.new.self c.triangle.new.self c.in_ok-head.ensures.onward c.in_ok-triangle.ensures.onward in
    let filled = sym (ap (λ (r : Reader). steps_read r.text.now r.at (length first) 0 first) there) ∙ c.steps.ensures.effect in
    steps_off r.text.now r.at l h headed t good c.in_ok-head.ensures.room c.steps.result c.steps.new.records filled f c.in_err-steps.was
    ∙ ap (λ q. told_of q (c.steps.new.records ++ drop h.steps l)) (sym (passed_on q f c.from_residual-in_err-steps.ensures.1))

pub returns : goal.returns
returns c =
    let r = c.args.self.now in
    let l = c.args.records.now in
    let h = c.in_ok-head.head in
    let t = c.in_ok-triangle.triangle in
    let first = take h.steps l in
    let headed = sym c.head.ensures.answer ∙ c.in_ok-head.was in
    let good = sym (c.triangle.ensures.answer ∙ ap (λ (r : Reader). triangle_at r.text.now r.at) c.in_ok-head.ensures.onward) ∙ c.in_ok-triangle.was in
    let there = two_past r c.head.new.self c.triangle.new.self c.in_ok-head.ensures.onward c.in_ok-triangle.ensures.onward in
    let filled = sym (ap (λ (r : Reader). steps_read r.text.now r.at (length first) 0 first) there) ∙ c.steps.ensures.effect in
    let last = ap (λ (r : Reader). r.at) (c.in_ok-steps.ensures.onward ∙ ap (past_lines (length first)) there) in
    list_on r.text.now r.at l h headed t good c.in_ok-head.ensures.room c.steps.result c.steps.new.records filled c.in_ok-steps.was c.steps.new.self.at last
