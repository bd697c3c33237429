use Rattle.std.proofs.Common.{◌≡◌, false, arith}
use Rattle.std.proofs.lemmas.Bool.Decides.{nat_tests}
use Rattle.sets.specs.Set.{bit}
use Rattle.sets.proofs.Bit.{none_above}
use Rattle.sets.proofs.set.TableSet.contains.Goals as goal

pub returns-else-table-lt64 : goal.returns-else-table-lt64
returns-else-table-lt64 c =
    let none : bit c.args.self c.args.table ≡ false = none_above c.args.self c.args.table (omega arith) (omega arith) in
    grind (arith, nat_tests)
