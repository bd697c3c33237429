use Rattle.std.proofs.Common.{arith}
use Rattle.sets.proofs.Bit.{cleared_bits}
use Rattle.sets.proofs.set.TableSet.without.Goals as goal

pub returns : goal.returns
returns c = rw (← c.self.view_is) (cleared_bits c.self.inside.bits c.bit_of.result c.args.table c.bit_of.ensures (omega arith) (omega arith))
