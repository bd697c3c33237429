-- The neighbours of a table as a list, in rising number.
--
--   neighbours_from m v b   the tables from b on that v is joined with
use Rattle.std.specs.Prelude.{ℕ, ◌-◌, List, map}
use Rattle.theory.specs.Graph.{Graph, table_count}
use Rattle.theory.specs.Listing.{row_from}

abbrev pub neighbours_from : Graph → ℕ → ℕ → List ℕ
neighbours_from m v b = map (λ p. p.1) (row_from m v b (table_count m - b))
