use Rattle.std.proofs.Common.{arith}
use Rattle.sets.specs.Rows.{in_row}
use Rattle.sets.proofs.Single.{both_out}
use Rattle.sets.proofs.rows.Rows.unjoin.Goals as goal

pub returns : goal.returns
returns c = λ x y.
    both_out c.args.a c.args.b x y (in_row c.args.self.now x y) (in_row c.remove.new.self x y) (in_row c.remove-2.new.self x y) (c.remove.ensures x y) (c.remove-2.ensures x y) (omega arith) (omega arith)
