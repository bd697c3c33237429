use Rattle.std.proofs.Common.{arith}
use Rattle.sets.proofs.Bit.{removed_bits}
use Rattle.sets.proofs.set.TableSet.difference.Goals as goal

pub returns : goal.returns
returns c = rw (← c.self.view_is, ← c.other.view_is) (removed_bits c.self.inside.bits c.other.inside.bits (omega arith) (omega arith))
