-- What a table of bits means, with its fields unseen.
--
--   graph_of t   the graph that the table t keeps
--   rows_of t    its rows, each the number whose bits are the tables joined with its own
use Rattle.std.specs.Prelude.{ℕ, List}
use Rattle.theory.specs.Graph.{Graph}
use Rattle.bits.specs.Rows.{rows_graph}
use Rattle.bits.specs.declared.table.BitTable.{BitTable}

abbrev pub graph_of : BitTable → Graph
graph_of t = rows_graph t.count t.rows

abbrev pub rows_of : BitTable → List ℕ
rows_of t = t.rows
