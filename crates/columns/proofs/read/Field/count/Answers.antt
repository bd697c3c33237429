use Rattle.std.proofs.Common.{◌≡◌, ℕ, ◌+◌, Bool, List, Ok, Err, Result, sym, ap, ◌∙◌, arith, rules}
use Rattle.std.proofs.lemmas.Result.{err_from_is_err_and}
use Rattle.lines.specs.declared.line.BadByte.{BadByte}
use Rattle.lines.specs.Read.{then, count_at}
use Rattle.lines.proofs.Steps.{count_done}
use Rattle.columns.specs.Place.{first_marks_at, marks_left}
use Rattle.columns.proofs.Chains.{kept, cut, over, low, more, counts, marks_split}
use Rattle.columns.proofs.read.Field.count.Goals as goal

-- the ten places are the first five, and then the last five
by_parts : (text : List ℕ) (at : ℕ) (r : Result (Bool × ℕ) BadByte) → r ≡ first_marks_at text at → count_at text at ≡ then r (marks_left text at)
by_parts text at r is = sym (ap (λ q. then q (marks_left text at)) is ∙ marks_split text at)

pub returns-in_err-s : goal.returns-in_err-s
returns-in_err-s c =
    let text = c.args.self.text.now in
    let at = c.args.self.at in
    let p = err_from_is_err_and c.from_residual.result c.from_residual.ensures.1 in
    let refused = by_parts text at (Err c.in_err-s.field-0.0) c.in_err-s.ensures.answer in
    p.1 ∙ ap Err p.2 ∙ sym refused

pub loop-k-init : goal.loop-k-init
loop-k-init c = record {
  rest = by_parts c.args.self.text.now c.args.self.at (Ok c.in_ok-s.s) c.in_ok-s.ensures.answer;
  small = let h = c.in_ok-s.ensures.small in omega arith;
  below = λ e. absurd (omega arith);
}

pub mark-requires-clause-low : goal.mark-requires-clause-low
mark-requires-clause-low c = let l = low c.loop-k.k 9 c.loop-k.s.1 (omega arith) c.loop-k.invariant.small in omega arith

pub returns-in_err-s-2 : goal.returns-in_err-s-2
returns-in_err-s-2 c =
    let text = c.args.self.text.now in
    let at = c.args.self.at in
    let r = c.from_residual-in_err-s-2.result in
    let p = err_from_is_err_and r c.from_residual-in_err-s-2.ensures.1 in
    let refused = cut (counts text) at 9 (count_at text at) c.loop-k.k c.loop-k.s c.loop-k.invariant.rest c.loop-k-test.true
    c.mark.result c.mark.ensures.answer c.in_err-s-2.field-0.0 c.in_err-s-2.was in
    p.1 ∙ ap Err p.2 ∙ sym refused

pub loop-k-preserved : goal.loop-k-preserved
loop-k-preserved c =
    let text = c.args.self.text.now in
    let at = c.args.self.at in
    let s = c.in_ok-s-2.s in
    record {
      rest = kept (counts text) at 9 (count_at text at) c.loop-k.k c.loop-k.s c.loop-k.invariant.rest c.loop-k-test.true
          c.mark.result c.mark.ensures.answer s c.in_ok-s-2.was;
      small = more c.loop-k.k c.loop-k.s.1 s.1 c.loop-k.invariant.small c.in_ok-s-2.ensures.small;
      below = λ e. c.in_ok-s-2.ensures.below (omega arith);
    }

pub returns : goal.returns
returns c =
    let text = c.args.self.text.now in
    let at = c.args.self.at in
    let s = c.loop-k.s in
    let all = over (counts text) at 9 (count_at text at) c.loop-k.k s c.loop-k.invariant.rest c.loop-k-test.false in
    let value : Ok c.from.result ≡ count_at text at =
    ap Ok (c.from.ensures (c.loop-k.invariant.below (omega arith))) ∙ sym (all ∙ count_done text (at + c.loop-k.k) s.0 s.1) in
    search (rules, value)
