use Rattle.sets.proofs.Bit.{inserted_bits}
use Rattle.sets.proofs.set.TableSet.with.Goals as goal

pub returns : goal.returns
returns c = rw (← c.self.view_is) (inserted_bits c.self.inside.bits c.bit_of.result c.args.table c.bit_of.ensures)
