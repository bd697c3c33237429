use Rattle.sets.specs.Rows.{in_row}
use Rattle.sets.proofs.Single.{both_in}
use Rattle.sets.proofs.rows.Rows.join.Goals as goal

pub returns : goal.returns
returns c = λ x y.
    both_in c.args.a c.args.b x y (in_row c.args.self.now x y) (in_row c.insert.new.self x y) (in_row c.insert-2.new.self x y) (c.insert.ensures x y) (c.insert-2.ensures x y)
