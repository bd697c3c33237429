use Rattle.std.proofs.Common.{◌+◌, ◌-◌, length, set, sym, ap, ◌∙◌, rules}
use Rattle.std.proofs.lemmas.List.{set-get_or}
use Rattle.texts.specs.ListRead.{steps_read}
use Rattle.texts.specs.declared.reader.Reader.{Reader}
use Rattle.texts.proofs.Refusals.{passed_on}
use Rattle.texts.proofs.Steps.{steps_on, steps_off, steps_end}
use Rattle.texts.proofs.reader.Reader.steps.Goals as goal

pub loop-record-preserved : goal.loop-record-preserved
loop-record-preserved c =
    let l = c.args.records.now in
    let i = c.loop-record.record-index in
    let r = c.loop-record.self in
    let s = c.in_ok-record.field-0 in
    let whole = steps_read c.args.self.now.text.now c.args.self.now.at (length l) 0 l in
    let ok = sym c.step.ensures.answer ∙ c.in_ok-record.was in
    let onward = c.in_ok-record.ensures.onward in (
      search rules,
      steps_on whole r.text.now r.at (length l) i c.loop-record.records c.loop-record.invariant.1 c.loop-record-test.true s ok
          ∙ ap (λ (n : Reader). steps_read n.text.now n.at (length l - (i + 1)) (i + 1) (set c.loop-record.records i s)) (sym onward),
    )

pub returns-in_err-record-clause-effect : goal.returns-in_err-record-clause-effect
returns-in_err-record-clause-effect c =
    let l = c.args.records.now in
    let r = c.loop-record.self in
    let s = c.loop-record.records in
    let i = c.loop-record.record-index in
    let f = c.in_err-record.field-0.0 in
    let q = c.from_residual.result in
    let whole = steps_read c.args.self.now.text.now c.args.self.now.at (length l) 0 l in
    let bad = sym c.step.ensures.answer ∙ c.in_err-record.was in
    steps_off whole r.text.now r.at (length l) i s c.loop-record.invariant.1 c.loop-record-test.true f bad q (passed_on q f c.from_residual.ensures.1)
    ∙ ap (λ m. record { told = q; records = m }) (sym (set-get_or s i _))

pub returns-clause-effect : goal.returns-clause-effect
returns-clause-effect c =
    let l = c.args.records.now in
    let r = c.loop-record.self in
    let whole = steps_read c.args.self.now.text.now c.args.self.now.at (length l) 0 l in
    steps_end whole r.text.now r.at (length l) c.loop-record.record-index c.loop-record.records c.loop-record.invariant.1 c.loop-record-test.false
