use Rattle.std.proofs.Common.{◌≡◌, ℕ, ◌<◌, ◌≤◌, false}
use Rattle.run_calls.specs.Pairs.{held}
use Rattle.run_calls.proofs.pair_list.PairListReadableGraph.next_neighbour.Given as goal

abbrev pub invariant-loop-other : goal.invariant-loop-other
invariant-loop-other l = (j : ℕ) → l.bound ≤ j → j < l.other → held l.self.pairs.items l.table j ≡ false
