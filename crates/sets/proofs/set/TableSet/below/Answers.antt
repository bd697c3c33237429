use Rattle.std.proofs.Common.{arith}
use Rattle.sets.proofs.Bit.{first_bits}
use Rattle.sets.proofs.set.TableSet.below.Goals as goal

pub returns : goal.returns
returns c = first_bits c.args.count c.saturating_sub.result c.saturating_sub.ensures (omega arith)
