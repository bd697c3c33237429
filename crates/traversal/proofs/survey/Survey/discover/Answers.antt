-- The parents stay numbers of bits.
use Rattle.std.proofs.Common.{arith}
use Rattle.traversal.proofs.Stacks.{parents_small}
use Rattle.traversal.proofs.survey.Survey.discover.Goals as goal

pub invariant_of-self : goal.invariant_of-self
invariant_of-self c =
    let s = c.args.self.now in
    record {
      small = λ x. parents_small s.found c.args.u c.args.how x (omega arith) 64 (s.small x) c.requires.1;
      low = s.low;
      few = s.few;
    }
