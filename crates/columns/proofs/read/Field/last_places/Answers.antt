use Rattle.std.proofs.Common.{Err, sym, ap, ◌∙◌}
use Rattle.std.proofs.lemmas.Result.{err_from_is_err_and}
use Rattle.columns.proofs.Chains.{last_kept, last_cut}
use Rattle.columns.proofs.read.Field.last_places.Goals as goal

pub returns-in_err-v : goal.returns-in_err-v
returns-in_err-v c =
    let p = err_from_is_err_and c.from_residual.result c.from_residual.ensures.1 in
    let self = c.args.self in
    let refused = last_cut self.text.now self.at c.place.result c.place.ensures.answer c.in_err-v.field-0.0 c.in_err-v.was in
    p.1 ∙ ap Err p.2 ∙ sym refused

pub returns : goal.returns
returns c =
    c.place-2.ensures.answer
    ∙ sym (last_kept c.args.self.text.now c.args.self.at c.place.result c.place.ensures.answer c.in_ok-v.v c.in_ok-v.was)
