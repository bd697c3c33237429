use Rattle.std.proofs.Common.{◌≡◌, ℕ, ◌+◌, ◌-◌, ◌<◌, Bool, false, List, Err, Result, sym, ap, ◌∙◌, arith, add-zero}
use Rattle.std.proofs.lemmas.Result.{err_from_is_err_and}
use Rattle.lines.specs.declared.line.BadByte.{BadByte}
use Rattle.columns.specs.Place.{mark_at, first_marks_at}
use Rattle.columns.proofs.Chains.{kept, cut, over, low, more, firsts, firsts_from, firsts_all, blank_marks}
use Rattle.columns.proofs.read.Field.first_marks.Goals as goal

-- the place k of the ten, as one of the first five
of_five : (text : List ℕ) (at k : ℕ) (s : Bool × ℕ) (r : Result (Bool × ℕ) BadByte) → k < 5
    → r ≡ mark_at text (at + k) (9 - k) s → r ≡ mark_at text (at + k) ((4 - k) + 5) s
of_five text at k s r h is = let e : 9 - k ≡ (4 - k) + 5 = omega arith in is ∙ ap (λ n. mark_at text (at + k) n s) e

pub returns-then-is_unused-clause-answer : goal.returns-then-is_unused-clause-answer
returns-then-is_unused-clause-answer c =
    sym (blank_marks c.args.self.text.now c.args.self.at (c.is_unused.ensures c.if-is_unused.true))

pub loop-k-init : goal.loop-k-init
loop-k-init c =
    let text = c.args.self.text.now in
    let at = c.args.self.at in
    record {
      rest = firsts_all text at ∙ ap (λ n. firsts_from text n 5 (false, 0)) (sym (add-zero at));
      small = omega arith;
    }

pub mark-requires-clause-low : goal.mark-requires-clause-low
mark-requires-clause-low c = let l = low c.loop-k.k 9 c.loop-k.s.1 (omega arith) c.loop-k.invariant.small in omega arith

pub returns-in_err-s-clause-answer : goal.returns-in_err-s-clause-answer
returns-in_err-s-clause-answer c =
    let text = c.args.self.text.now in
    let at = c.args.self.at in
    let k = c.loop-k.k in
    let s = c.loop-k.s in
    let p = err_from_is_err_and c.from_residual.result c.from_residual.ensures.1 in
    let is = of_five text at k s c.mark.result c.loop-k-test.true c.mark.ensures.answer in
    let refused = cut (firsts text) at 4 (first_marks_at text at) k s c.loop-k.invariant.rest c.loop-k-test.true
    c.mark.result is c.in_err-s.field-0.0 c.in_err-s.was in
    p.1 ∙ ap Err p.2 ∙ sym refused

pub loop-k-preserved : goal.loop-k-preserved
loop-k-preserved c =
    let text = c.args.self.text.now in
    let at = c.args.self.at in
    let k = c.loop-k.k in
    let s = c.loop-k.s in
    let is = of_five text at k s c.mark.result c.loop-k-test.true c.mark.ensures.answer in
    record {
      rest = kept (firsts text) at 4 (first_marks_at text at) k s c.loop-k.invariant.rest c.loop-k-test.true
          c.mark.result is c.in_ok-s.s c.in_ok-s.was;
      small = more k s.1 c.in_ok-s.s.1 c.loop-k.invariant.small c.in_ok-s.ensures.small;
    }

pub returns-clause-answer : goal.returns-clause-answer
returns-clause-answer c =
    let text = c.args.self.text.now in
    let at = c.args.self.at in
    sym (over (firsts text) at 4 (first_marks_at text at) c.loop-k.k c.loop-k.s c.loop-k.invariant.rest c.loop-k-test.false)

pub returns-clause-small : goal.returns-clause-small
returns-clause-small c = let l = low c.loop-k.k 5 c.loop-k.s.1 (omega arith) c.loop-k.invariant.small in omega arith
