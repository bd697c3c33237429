use Rattle.std.proofs.Common.{◌∙◌, arith}
use Rattle.std.proofs.lemmas.Bool.Decides.{nat_tests}
use Rattle.bits.proofs.table.BitTable.all_tables.Goals as goal

-- all of them are below 64
pub returns : goal.returns
returns c = λ x. c.below.ensures x ∙ (let few = c.args.self.now.few in grind (arith, nat_tests))
