-- Tables counted.
--
--   how_many p   how many tables below 64 pass the test p
use Rattle.std.specs.Prelude.{ℕ, Bool}
use Rattle.theory.specs.Graph.{count}

unfoldable pub how_many : (ℕ → Bool) → ℕ
how_many p = count p 64
