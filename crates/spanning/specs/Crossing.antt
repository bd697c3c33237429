-- Cross joins of a graph m with a spanning tree t, for each root r.
--
--   OnPath t r a b       a lies on the marked path from r to b: it is one of its ends, or without it the marks do not lead from r to b
--   on_path t r a b      the same as a test, by a search
--   cross m t r a b      a and b are joined, the join is not marked, and neither lies on the marked path from r to the other
--   cross_count m t r    the number of cross joins
use Rattle.std.specs.Prelude.{◌≡◌, ℕ, Bool, not, ◌&&◌, ◌||◌, ◌⊎◌, ◌==◌}
use Rattle.theory.specs.Graph.{Graph, joined, is_table, table_count, pairs}
use Rattle.disassembly.specs.Reach.{reached}
use Rattle.disassembly.specs.Walks.{Reaches, without}

abbrev pub OnPath : Graph → ℕ → ℕ → ℕ → Type 0
OnPath t r a b = (r ≡ a) ⊎ ((b ≡ a) ⊎ (Reaches (without a (is_table t)) (joined t) r b → ⊥))

unfoldable pub on_path : Graph → ℕ → ℕ → ℕ → Bool
on_path t r a b = r == a || (b == a || not (reached (without a (is_table t)) (joined t) r b))

unfoldable pub cross : Graph → Graph → ℕ → ℕ → ℕ → Bool
cross m t r a b = (joined m a b && not (joined t a b)) && (not (on_path t r a b) && not (on_path t r b a))

abbrev pub cross_count : Graph → Graph → ℕ → ℕ
cross_count m t r = pairs (cross m t r) (table_count m)
