use Rattle.sets.proofs.Bit.{or_bits}
use Rattle.sets.proofs.set.TableSet.union.Goals as goal

pub returns : goal.returns
returns c = rw (← c.self.view_is, ← c.other.view_is) (or_bits c.self.inside.bits c.other.inside.bits)
