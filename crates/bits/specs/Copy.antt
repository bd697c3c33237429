-- A graph on its way into a copy that is made row by row.
--
--   passed v b x y   the pair x, y has a table below v, or is v with a table below b
--   copied m v b     the graph m with the joins of such pairs alone
use Rattle.std.specs.Prelude.{ℕ, Bool, ◌&&◌, ◌||◌, ◌==◌, nat_lt}
use Rattle.theory.specs.Graph.{Graph}

abbrev pub passed : ℕ → ℕ → ℕ → ℕ → Bool
passed v b x y = (nat_lt x v || nat_lt y v) || ((x == v && nat_lt y b) || (y == v && nat_lt x b))

abbrev pub copied : Graph → ℕ → ℕ → Graph
copied m v b = record { tables = m.tables; adj = λ x y. passed v b x y && m.adj x y }
