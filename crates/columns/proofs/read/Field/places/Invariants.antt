use Rattle.std.proofs.Common.{◌≡◌, ◌+◌, ◌-◌, ◌<◌, ◌^◌}
use Rattle.lines.specs.Read.{number_from, number_at}
use Rattle.columns.proofs.read.Field.places.Given as goal

abbrev pub invariant-loop-k : goal.invariant-loop-k
invariant-loop-k l = record {
  rest : number_at l.self.text.now l.self.at ≡ number_from l.self.text.now (l.self.at + l.k) (5 - l.k) l.v;
  small : l.v < 10 ^ l.k;
}
