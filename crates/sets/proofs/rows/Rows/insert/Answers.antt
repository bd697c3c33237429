use Rattle.sets.proofs.Single.{inserted_row}
use Rattle.sets.proofs.rows.Rows.insert.Goals as goal

pub returns : goal.returns
returns c = λ x y.
    rw (← c.self.view_is) (inserted_row c.self.inside.rows c.replace.new.rows c.args.a c.with-row.result c.replace.ensures.long c.replace.ensures.rows
    c.args.b (rw (c.self.view_is, ← c.row.ensures) c.with-row.ensures) x y)
