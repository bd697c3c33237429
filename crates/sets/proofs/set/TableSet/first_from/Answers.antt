use Rattle.std.proofs.Common.{◌/◌, ◌^◌, ◌<◌, arith}
use Rattle.std.proofs.lemmas.Nat.{shr_le}
use Rattle.sets.proofs.Bit.{none_above}
use Rattle.sets.proofs.Lowest.{no_high, lowest_high}
use Rattle.sets.proofs.set.TableSet.first_from.Goals as goal

pub returns-then-bound-ge64 : goal.returns-then-bound-ge64
returns-then-bound-ge64 c = λ j above. none_above c.args.self j (omega arith) (omega arith)

pub returns-then-high-eq0 : goal.returns-then-high-eq0
returns-then-high-eq0 c = rw (← c.self.view_is) (no_high c.self.inside.bits c.args.bound c.if-high-eq0.true)

pub returns-else-high-eq0 : goal.returns-else-high-eq0
returns-else-high-eq0 c =
    let low : c.self.inside.bits / 2 ^ c.args.bound < 2 ^ 64 = omega (arith, shr_le c.self.inside.bits c.args.bound) in
    rw (← c.self.view_is) (lowest_high c.self.inside.bits c.args.bound low (omega arith))
