-- Of the tables that are not among the first k in the order of leaving the counts are there, and that of table 0.
use Rattle.std.proofs.Common.{◌≡◌, ℕ, ◌<◌, false, ◌⊎◌, length, get_or}
use Rattle.theory.specs.Graph.{Graph, table_count}
use Rattle.disassembly.specs.Search.{has}
use Rattle.traversal.proofs.Stacks.{stacked}
use Rattle.driving.specs.Sums.{Sums}
use Rattle.traversal.specs.Order.{tables_in}
use Rattle.driving.proofs.sums.sums.Given as goal

abbrev pub invariant-loop-k : goal.invariant-loop-k
invariant-loop-k l = record {
  long : length l.counts ≡ 64;
  told : (t : Graph) (counts : ℕ → ℕ) → Sums t l.survey l.at_zero l.counters counts
      → (x : ℕ) → x < table_count t → (x ≡ 0) ⊎ (has (stacked l.k (tables_in l.survey.left)) x ≡ false) → get_or l.counts x 0 ≡ counts x;
}
