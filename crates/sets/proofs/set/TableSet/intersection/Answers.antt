use Rattle.sets.proofs.Bit.{and_bits}
use Rattle.sets.proofs.set.TableSet.intersection.Goals as goal

pub returns : goal.returns
returns c = rw (← c.self.view_is, ← c.other.view_is) (and_bits c.self.inside.bits c.other.inside.bits)
