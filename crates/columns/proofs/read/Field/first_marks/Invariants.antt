use Rattle.std.proofs.Common.{◌≡◌, ◌+◌, ◌-◌, ◌<◌, ◌^◌}
use Rattle.columns.specs.Place.{first_marks_at}
use Rattle.columns.proofs.Chains.{firsts_from}
use Rattle.columns.proofs.read.Field.first_marks.Given as goal

abbrev pub invariant-loop-k : goal.invariant-loop-k
invariant-loop-k l = record {
  rest : first_marks_at l.self.text.now l.self.at ≡ firsts_from l.self.text.now (l.self.at + l.k) (5 - l.k) l.s;
  small : l.s.1 < 10 ^ l.k;
}
