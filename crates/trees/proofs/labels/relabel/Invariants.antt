-- The tables passed are relabelled, and the others as they were.
use Rattle.std.proofs.Common.{◌≡◌, ℕ, ◌<◌, ◌≤◌, cond, eqb, get_or}
use Rattle.trees.proofs.labels.relabel.Given as goal

abbrev pub invariant-loop-label : goal.invariant-loop-label
invariant-loop-label l = record {
  passed : (x : ℕ) → x < l.label-index → get_or l.labels x 0 ≡ cond (eqb (get_or l.initial.labels x 0) l.gone) l.kept (get_or l.initial.labels x 0);
  left : (x : ℕ) → l.label-index ≤ x → get_or l.labels x 0 ≡ get_or l.initial.labels x 0;
}
