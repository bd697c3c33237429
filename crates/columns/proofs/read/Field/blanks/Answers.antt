use Rattle.std.proofs.Common.{◌+◌, Err, sym, ap, ◌∙◌, add-zero}
use Rattle.std.proofs.lemmas.Result.{err_from_is_err_and}
use Rattle.lines.specs.Read.{blank_from, unused_at}
use Rattle.lines.proofs.Steps.{blank_done}
use Rattle.columns.proofs.Chains.{kept, cut, over, blanks}
use Rattle.columns.proofs.read.Field.blanks.Goals as goal

pub loop-k-init : goal.loop-k-init
loop-k-init c = ap (λ n. blank_from c.args.self.text.now n 5) (sym (add-zero c.args.self.at))

pub returns-in_err-blank : goal.returns-in_err-blank
returns-in_err-blank c =
    let text = c.args.self.text.now in
    let at = c.args.self.at in
    let p = err_from_is_err_and c.from_residual.result c.from_residual.ensures.1 in
    let refused = cut (blanks text) at 4 (unused_at text at) c.loop-k.k tt c.loop-k.invariant c.loop-k-test.true
    c.blank.result c.blank.ensures c.in_err-blank.field-0.0 c.in_err-blank.was in
    p.1 ∙ ap Err p.2 ∙ sym refused

pub loop-k-preserved : goal.loop-k-preserved
loop-k-preserved c =
    let text = c.args.self.text.now in
    let at = c.args.self.at in
    kept (blanks text) at 4 (unused_at text at) c.loop-k.k tt c.loop-k.invariant c.loop-k-test.true
    c.blank.result c.blank.ensures tt c.in_ok-blank.was

pub returns : goal.returns
returns c =
    let text = c.args.self.text.now in
    let at = c.args.self.at in
    let all = over (blanks text) at 4 (unused_at text at) c.loop-k.k tt c.loop-k.invariant c.loop-k-test.false in
    sym (all ∙ blank_done text (at + c.loop-k.k))
