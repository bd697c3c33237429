use Rattle.sets.proofs.Single.{removed_row}
use Rattle.sets.proofs.rows.Rows.remove.Goals as goal

pub returns : goal.returns
returns c = λ x y.
    rw (← c.self.view_is) (removed_row c.self.inside.rows c.replace.new.rows c.args.a c.without-row.result c.replace.ensures.long c.replace.ensures.rows
    c.args.b (rw (c.self.view_is, ← c.row.ensures) c.without-row.ensures) x y)
