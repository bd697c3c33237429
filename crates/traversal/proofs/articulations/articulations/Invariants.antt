-- The first tables in the order of leaving have been gone through.
use Rattle.std.proofs.Common.{◌≡◌, ℕ, ◌-◌, Bool, length, get_or}
use Rattle.disassembly.specs.Search.{searched}
use Rattle.sets.specs.Rows.{in_row}
use Rattle.traversal.specs.Folding.{parent_of, touches, Whole}
use Rattle.traversal.proofs.Stacks.{stacked}
use Rattle.traversal.proofs.Cuts.{Folded}
use Rattle.traversal.specs.Order.{tables_in}
use Rattle.traversal.proofs.articulations.articulations.Given as goal

abbrev pub invariant-loop-v : goal.invariant-loop-v
invariant-loop-v l = record {
  start : l.lows.start ≡ get_or (tables_in l.survey.left) (length (tables_in l.survey.left) - 1) 0;
  folds : (U : ℕ → Bool) (r : ℕ) → Whole U (in_row l.rows) r l.survey
      → Folded (in_row l.rows) (parent_of l.survey) (searched U (in_row l.rows) r).seen r (stacked l.v-index (tables_in l.survey.left)) (touches l.rows l.lows) l.lows.cuts;
}
