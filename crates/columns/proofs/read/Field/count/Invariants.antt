use Rattle.std.proofs.Common.{◌≡◌, ◌+◌, ◌-◌, ◌<◌, ◌^◌, ◌≤◌, true}
use Rattle.lines.specs.Read.{count_from, count_at}
use Rattle.columns.proofs.read.Field.count.Given as goal

abbrev pub invariant-loop-k : goal.invariant-loop-k
invariant-loop-k l = record {
  rest : count_at l.self.text.now l.self.at ≡ count_from l.self.text.now (l.self.at + l.k) (10 - l.k) l.s.0 l.s.1;
  small : l.s.1 < 10 ^ l.k;
  below : l.k ≡ 10 → l.s.0 ≡ true → 1 ≤ l.s.1;
}
