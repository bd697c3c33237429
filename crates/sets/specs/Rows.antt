-- Rows: for each table the set of the tables that it is joined with.
--
--   in_row rows a b   whether table b is in the row of table a
use Rattle.std.specs.Prelude.{ℕ, Bool, List, slice_index}
use Rattle.sets.specs.Set.{bit}

abbrev pub in_row : List ℕ → ℕ → ℕ → Bool
in_row rows a b = bit (slice_index rows a) b
