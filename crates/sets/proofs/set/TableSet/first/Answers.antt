use Rattle.std.proofs.Common.{arith}
use Rattle.sets.proofs.Lowest.{lowest_bit}
use Rattle.sets.proofs.set.TableSet.first.Goals as goal

pub returns-else-self-eq0-clause-lowest : goal.returns-else-self-eq0-clause-lowest
returns-else-self-eq0-clause-lowest c = rw (← c.self.view_is) (lowest_bit c.self.inside.bits (omega arith) (omega arith))
