-- A graph's text: a G line with its tables and joins, then one J line a join, rising by v and then w.
--
--   graph_line m          G: tables, joins, unused
--   join_line p           J: unused, v, w
--   join_lines l          the J lines of joins
--   row_above m v         the joins of table v with the tables above it
--   text_of_graph m       the whole text
--   graph_length m        its bytes
--   graph_answer m b      9 with the bytes needed where b are lent, or the bytes written; no number of a graph is over 99,999
--   graph_written m out   the bytes lent, afterwards
use Rattle.std.specs.Prelude.{ℕ, ◌+◌, ◌-◌, ◌*◌, List, ◌++◌, length, Result}
use Rattle.std.specs.List.{flat_map}
use Rattle.lines.specs.Text.{line_text}
use Rattle.lines.specs.declared.line.Line.{Line}
use Rattle.lines.specs.declared.line.Fields.TheVariants.{LastTwo, FirstTwo}
use Rattle.theory.specs.Graph.{Graph, table_count, size}
use Rattle.theory.specs.Listing.{row_from, joins_of}
use Rattle.texts.specs.ListWrite.{room_for, laid_if}
use Rattle.texts.specs.declared.fault.TextFault.{TextFault}

abbrev pub graph_line : Graph → Line
graph_line m = record { letter = 71; fields = FirstTwo (table_count m) (size m) }

abbrev pub join_line : ℕ × ℕ → Line
join_line p = record { letter = 74; fields = LastTwo p.0 p.1 }

abbrev pub join_lines : List (ℕ × ℕ) → List ℕ
join_lines l = flat_map (λ p. line_text (join_line p)) l

abbrev pub row_above : Graph → ℕ → List (ℕ × ℕ)
row_above m v = row_from m v (v + 1) (table_count m - (v + 1))

abbrev pub text_of_graph : Graph → List ℕ
text_of_graph m = line_text (graph_line m) ++ join_lines (joins_of m)

abbrev pub graph_length : Graph → ℕ
graph_length m = 17 + 17 * size m

abbrev pub graph_answer : Graph → ℕ → Result ℕ TextFault
graph_answer m b = room_for (graph_length m) b

abbrev pub graph_written : Graph → List ℕ → List ℕ
graph_written m out = laid_if (graph_answer m (length out)) out (text_of_graph m)
