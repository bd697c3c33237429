use Rattle.std.proofs.Common.{◌≡◌, ◌+◌, ◌-◌}
use Rattle.lines.specs.Read.{blank_from, unused_at}
use Rattle.columns.proofs.read.Field.blanks.Given as goal

abbrev pub invariant-loop-k : goal.invariant-loop-k
invariant-loop-k l = unused_at l.self.text.now l.self.at ≡ blank_from l.self.text.now (l.self.at + l.k) (5 - l.k)
