-- The tables passed have their labels.
use Rattle.std.proofs.Common.{◌≡◌, ℕ, ◌<◌, get_or}
use Rattle.trees.proofs.labels.Labels.new.Given as goal

abbrev pub invariant-loop-table : goal.invariant-loop-table
invariant-loop-table l = (x : ℕ) → x < l.table → get_or l.label-items x 0 ≡ x
