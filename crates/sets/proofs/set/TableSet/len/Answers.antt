use Rattle.std.proofs.Common.{arith}
use Rattle.sets.proofs.Number.{bits_are}
use Rattle.sets.proofs.set.TableSet.len.Goals as goal

pub returns : goal.returns
returns c = rw (← c.self.view_is) (bits_are c.self.inside.bits (omega arith))
