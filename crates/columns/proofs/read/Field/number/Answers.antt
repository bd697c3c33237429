use Rattle.std.proofs.Common.{sym, ◌∙◌}
use Rattle.columns.proofs.Chains.{short_number}
use Rattle.columns.proofs.read.Field.number.Goals as goal

pub returns-then-is_short : goal.returns-then-is_short
returns-then-is_short c =
    let blank = c.is_short.ensures in
    let is = c.if-is_short.true in
    let short = short_number c.args.self.text.now c.args.self.at (blank.first is) (blank.second is) (blank.third is) in
    c.last_places.ensures ∙ sym short
