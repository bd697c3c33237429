-- Spanning trees. A tree is a graph whose joins are the marks; it has no root.
--
--   Spanning t   the marks of t connect all of its tables without a ring, so that there is one mark fewer than tables
use Rattle.std.specs.Prelude.{◌≡◌, ℕ, ◌+◌, true}
use Rattle.theory.specs.Build.{without_join}
use Rattle.theory.specs.Graph.{Graph, Simple, joined, is_table, table_count, size}
use Rattle.disassembly.specs.Walks.{Reaches, Connected}

pub record Spanning (t : Graph) : Type 0 where
  pub simple : Simple t
  pub connected : Connected (is_table t) (joined t)
  -- no mark lies on a ring: without it, the other marks do not lead from its one end to the other
  pub acyclic : (a b : ℕ) → joined t a b ≡ true → Reaches (is_table t) (without_join a b (joined t)) a b → ⊥
  pub fewer : size t + 1 ≡ table_count t
