-- What rows of bits mean: row a is the set of the tables that a is joined with.
--
--   rows_graph n rows  the graph of n tables that the rows keep
--   pair_answer n a b  what stands against any edit of a pair: 1 no table, 2 the same table, or nothing
use Rattle.std.specs.Prelude.{ℕ, not, List, [], ◌∷◌, Result, ◌==◌, nat_lt}
use Rattle.theory.specs.Graph.{Graph}
use Rattle.sets.specs.Rows.{in_row}
use Rattle.graph.specs.First.{refused_first}
use Rattle.graph.specs.declared.fault.StoreFault.{StoreFault}
use Rattle.graph.specs.declared.fault.StoreFault.TheVariants.{UnknownTable, SameTable}

abbrev pub rows_graph : ℕ → List ℕ → Graph
rows_graph n rows = record { tables = n; adj = in_row rows }

abbrev pub pair_answer : ℕ → ℕ → ℕ → Result Unit StoreFault
pair_answer n a b = refused_first
    ((not (nat_lt a n), UnknownTable a)
    ∷ (not (nat_lt b n), UnknownTable b)
    ∷ ((a == b), SameTable a)
    ∷ [])
