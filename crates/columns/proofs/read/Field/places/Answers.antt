use Rattle.std.proofs.Common.{◌+◌, Err, sym, ap, ◌∙◌, arith, add-zero}
use Rattle.std.proofs.lemmas.Result.{err_from_is_err_and}
use Rattle.lines.specs.Read.{number_from, number_at}
use Rattle.lines.proofs.Steps.{number_done}
use Rattle.columns.proofs.Chains.{kept, cut, over, low, more, numbers}
use Rattle.columns.proofs.read.Field.places.Goals as goal

pub loop-k-init : goal.loop-k-init
loop-k-init c =
    let text = c.args.self.text.now in
    record { rest = ap (λ n. number_from text n 5 0) (sym (add-zero c.args.self.at)); small = omega arith }

pub place-requires-clause-low : goal.place-requires-clause-low
place-requires-clause-low c = let l = low c.loop-k.k 5 c.loop-k.v (omega arith) c.loop-k.invariant.small in omega arith

pub returns-in_err-v : goal.returns-in_err-v
returns-in_err-v c =
    let text = c.args.self.text.now in
    let at = c.args.self.at in
    let p = err_from_is_err_and c.from_residual.result c.from_residual.ensures.1 in
    let refused = cut (numbers text) at 4 (number_at text at) c.loop-k.k c.loop-k.v c.loop-k.invariant.rest c.loop-k-test.true
    c.place.result c.place.ensures.answer c.in_err-v.field-0.0 c.in_err-v.was in
    p.1 ∙ ap Err p.2 ∙ sym refused

pub loop-k-preserved : goal.loop-k-preserved
loop-k-preserved c =
    let text = c.args.self.text.now in
    let at = c.args.self.at in
    record {
      rest = kept (numbers text) at 4 (number_at text at) c.loop-k.k c.loop-k.v c.loop-k.invariant.rest c.loop-k-test.true
          c.place.result c.place.ensures.answer c.in_ok-v.v c.in_ok-v.was;
      small = more c.loop-k.k c.loop-k.v c.in_ok-v.v c.loop-k.invariant.small c.in_ok-v.ensures.small;
    }

pub returns : goal.returns
returns c =
    let text = c.args.self.text.now in
    let at = c.args.self.at in
    let all = over (numbers text) at 4 (number_at text at) c.loop-k.k c.loop-k.v c.loop-k.invariant.rest c.loop-k-test.false in
    sym (all ∙ number_done text (at + c.loop-k.k) c.loop-k.v)
