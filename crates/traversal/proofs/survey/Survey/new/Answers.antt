-- Nothing is kept of any table.
use Rattle.std.proofs.Common.{◌<◌, subst, sym, arith}
use Rattle.traversal.specs.declared.discovery.Discovery.{Discovery}
use Rattle.traversal.proofs.Stacks.{none_found}
use Rattle.traversal.proofs.survey.Survey.new.Goals as goal

pub invariant_of-result : goal.invariant_of-result
invariant_of-result c = record {
  small = rw c.none_found.ensures (λ x. subst (λ (d : Discovery). d.parent < 64) (sym (none_found 64 x)) (omega arith));
  low = rw c.new.ensures (λ _. omega arith);
  few = rw c.new.ensures (omega arith);
}
