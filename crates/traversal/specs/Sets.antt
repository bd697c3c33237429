-- Sets of tables.
--
--   apart p q    no table below 64 passes both tests
use Rattle.std.specs.Prelude.{ℕ, Bool, ◌&&◌, ◌==◌}
use Rattle.theory.specs.Graph.{count}

unfoldable pub apart : (ℕ → Bool) → (ℕ → Bool) → Bool
apart p q = count (λ k. p k && q k) 64 == 0
