use Rattle.std.proofs.Common.{arith}
use Rattle.sets.proofs.Masks.{none_first, first_taken}
use Rattle.sets.proofs.set.TableSet.pop_first.Goals as goal

pub returns-in_err-first : goal.returns-in_err-first
returns-in_err-first c = let none = none_first c.self.inside.bits c.in_err-first.ensures.is in rw (c.from_residual.ensures, ← c.self.view_is) (none, none)

pub returns : goal.returns
returns c = rw (← c.self.view_is) (first_taken c.self.inside.bits c.in_ok-first.first (omega arith) c.in_ok-first.ensures.is)
