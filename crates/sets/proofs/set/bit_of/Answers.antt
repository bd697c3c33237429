use Rattle.std.proofs.Common.{◌∙◌, arith}
use Rattle.std.proofs.lemmas.Bool.Decides.{nat_tests}
use Rattle.sets.proofs.Bit.{single_bit}
use Rattle.sets.proofs.set.bit_of.Goals as goal

pub returns-then-table-lt64 : goal.returns-then-table-lt64
returns-then-table-lt64 c = λ x. single_bit c.args.table c.if-table-lt64.true x ∙ (grind (arith, nat_tests))
