-- The first tables in the order of leaving have been gone through.
use Rattle.std.proofs.Common.{◌*◌, ◌≤◌}
use Rattle.theory.specs.Graph.{Graph}
use Rattle.traversal.proofs.Stacks.{stacked}
use Rattle.driving.specs.Marked.{Marked}
use Rattle.driving.proofs.Gathering.{Gone}
use Rattle.traversal.specs.Order.{tables_in}
use Rattle.driving.proofs.subtrees.subtrees_of.Given as goal

abbrev pub invariant-loop-v : goal.invariant-loop-v
invariant-loop-v l = record {
  few : l.trees.cross ≤ 64 * l.v-index;
  told : (m t : Graph) → Marked m t l.joins l.marks l.survey → Gone m t (stacked l.v-index (tables_in l.survey.left)) l.trees;
}
