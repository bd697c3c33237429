use Rattle.std.proofs.Common.{◌+◌, ◌*◌, length, set, Ok, Err, sym, refl, ap, ◌∙◌, rules}
use Rattle.std.proofs.lemmas.List.{set-get_or}
use Rattle.texts.specs.declared.reader.Reader.{Reader}
use Rattle.texts.proofs.Refusals.{passed_on}
use Rattle.queries.specs.QueryRead.{pair_at, mark_step, marks_read}
use Rattle.rejections.specs.declared.fault.QueryFault.TheVariants.{Text}
use Rattle.queries.proofs.Steps.{lines_on, lines_off, lines_end, mark_on, mark_off}
use Rattle.queries.proofs.query.read_marks.Goals as goal

pub loop-mark-preserved : goal.loop-mark-preserved
loop-mark-preserved c =
    let r = c.args.reader.now in
    let l = c.args.marks.now in
    let i = c.loop-mark.mark-index in
    let s = c.loop-mark.marks in
    let v = c.in_ok-v.v in
    let w = c.in_ok-v.w in
    let whole = marks_read r.text.now r.at (length l) l in
    let ok = sym (c.pair_line.ensures.answer ∙ ap (λ (r : Reader). pair_at r.text.now r.at 77) c.loop-mark.invariant.1) ∙ c.in_ok-v.was in
    let onward = c.in_ok-v.ensures.onward in (
      lines_on (mark_step r.text.now r.at) whole (length l) i s c.loop-mark.invariant.0 c.loop-mark-test.true (Ok tt) (set s i (record { v = v; w = w }))
          (mark_on r.text.now (r.at + 17 * i) i s v w ok) refl,
      search rules,
    )

pub returns-in_err-v-clause-effect : goal.returns-in_err-v-clause-effect
returns-in_err-v-clause-effect c =
    let r = c.args.reader.now in
    let l = c.args.marks.now in
    let i = c.loop-mark.mark-index in
    let s = c.loop-mark.marks in
    let f = c.in_err-v.field-0.0 in
    let q = c.from_residual.result in
    let whole = marks_read r.text.now r.at (length l) l in
    let bad = sym (c.pair_line.ensures.answer ∙ ap (λ (r : Reader). pair_at r.text.now r.at 77) c.loop-mark.invariant.1) ∙ c.in_err-v.was in
    lines_off (mark_step r.text.now r.at) whole (length l) i s c.loop-mark.invariant.0 c.loop-mark-test.true (Err (Text f)) s
    (mark_off r.text.now (r.at + 17 * i) i s f bad) (Text f) refl q (passed_on q (Text f) c.from_residual.ensures.1)
    ∙ ap (λ m. record { told = q; left = m }) (sym (set-get_or s i _))

pub returns-clause-effect : goal.returns-clause-effect
returns-clause-effect c =
    let r = c.args.reader.now in
    let l = c.args.marks.now in
    let whole = marks_read r.text.now r.at (length l) l in
    lines_end (mark_step r.text.now r.at) whole (length l) c.loop-mark.mark-index c.loop-mark.marks c.loop-mark.invariant.0 c.loop-mark-test.false
