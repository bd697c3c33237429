use Rattle.sets.proofs.Single.{cleared_row}
use Rattle.sets.proofs.rows.Rows.clear.Goals as goal

pub returns : goal.returns
returns c = λ x y.
    rw (← c.self.view_is) (cleared_row c.self.inside.rows c.replace.new.rows c.args.a c.new.result c.replace.ensures.long c.replace.ensures.rows
    c.new.ensures x y)
