-- Reading a query's text from an offset to the text's end: line by line, each judged by its form, its letter and its values
-- in turn. Earlier lines keep their effect. `QueryLaw` says in other words what this amounts to.
--
--   Told S                       an answer, and what it leaves
--   head_at text at room         the G line: 15, 16, 17, then 9 where there are fewer records than marks
--   pair_at text at c            the two tables of a J or M line, c being the letter due
--   row_line_at text at          the table and the stored number of an R line
--   join_at cap text at m        the effect of a J line on the graph m of capacity cap
--   mark_at text at i l          the effect of an M line, the i-th of them, on the mark records l
--   row_at n text at l           the effect of an R line on the records l of a catalogue; n tables
--   lines_read step i k s        k lines, from the i-th on: each has its effect on what the one before left
--   joins_read, marks_read, rows_read   the lines of each kind
--   due_marks n text at          how many M lines are owed: all, once the first is begun
--   due_rows text at             how many R lines the text has room for, one begun included, but at most 64
--   query_read text at l rows    the whole query: what is told, and the graph, the mark records and the catalogue after
use Rattle.std.specs.Prelude.{ℕ, zero, suc, ◌+◌, ◌-◌, ◌*◌, ◌/◌, min, Bool, cond, ◌||◌, List, length, ℤ, Ok, Err, Result, ◌==◌, nat_lt, slice_set}
use Rattle.theory.specs.Graph.{Graph, joining, no_joins}
use Rattle.theory.specs.declared.mark.Mark.{Mark}
use Rattle.graph.specs.Store.{join_answer}
use Rattle.graph.specs.declared.fault.StoreFault.{StoreFault}
use Rattle.catalogue.specs.Rows.{row_answer, records_after}
use Rattle.catalogue.specs.declared.catalogue.RowRecord.{RowRecord}
use Rattle.catalogue.specs.declared.fault.RowFault.{RowFault}
use Rattle.lines.specs.Read.{byte, line_at}
use Rattle.lines.specs.declared.line.Fields.{Fields}
use Rattle.lines.specs.declared.line.Fields.TheVariants.{Three, LastTwo, FirstTwo, Counted, Single}
use Rattle.texts.specs.Fault.{next, in_form}
use Rattle.texts.specs.ListRead.{end_at}
use Rattle.texts.specs.declared.fault.TextFault.{TextFault}
use Rattle.texts.specs.declared.fault.TextFault.TheVariants.{Misplaced, OutOfLimits, TooFew}
use Rattle.rejections.specs.declared.fault.QueryFault.{QueryFault}
use Rattle.rejections.specs.declared.fault.QueryFault.TheVariants.{Text, Join, Row}
use Rattle.queries.specs.declared.query.Head.{Head}
use Rattle.queries.specs.declared.query.QueryHead.{QueryHead}

-- ---- one line

-- tables outside 1 to 64, or joins over 2,016
abbrev pub outside_limits : ℕ → ℕ → Bool
outside_limits n m = nat_lt n 1 || (nat_lt 64 n || nat_lt 2016 m)

abbrev pub head_values : ℕ → ℕ → ℕ → ℕ → Result Head TextFault
head_values at room n m =
    cond (outside_limits n m) (Err (OutOfLimits at))
    (cond (nat_lt room (n - 1)) (Err (TooFew (n - 1)))
    (Ok (record { tables = n; joins = m })))

abbrev pub head_of : ℕ → ℕ → ℕ → Fields → Result Head TextFault
head_of at room c (FirstTwo n m) = cond (c == 71) (head_values at room n m) (Err (Misplaced at))
head_of at room c (Three a b d) = Err (Misplaced at)
head_of at room c (LastTwo v w) = Err (Misplaced at)
head_of at room c (Counted t z) = Err (Misplaced at)
head_of at room c (Single o) = Err (Misplaced at)

abbrev pub head_at : List ℕ → ℕ → ℕ → Result Head TextFault
head_at text at room = next (in_form (line_at text at)) (λ l. head_of at room l.letter l.fields)

abbrev pub pair_of : ℕ → ℕ → ℕ → Fields → Result (ℕ × ℕ) TextFault
pair_of at due c (LastTwo v w) = cond (c == due) (Ok (v, w)) (Err (Misplaced at))
pair_of at due c (Three a b d) = Err (Misplaced at)
pair_of at due c (FirstTwo a b) = Err (Misplaced at)
pair_of at due c (Counted t z) = Err (Misplaced at)
pair_of at due c (Single o) = Err (Misplaced at)

abbrev pub pair_at : List ℕ → ℕ → ℕ → Result (ℕ × ℕ) TextFault
pair_at text at due = next (in_form (line_at text at)) (λ l. pair_of at due l.letter l.fields)

abbrev pub row_of : ℕ → ℕ → Fields → Result (ℕ × ℤ) TextFault
row_of at c (Counted t z) = cond (c == 82) (Ok (t, z)) (Err (Misplaced at))
row_of at c (Three a b d) = Err (Misplaced at)
row_of at c (LastTwo v w) = Err (Misplaced at)
row_of at c (FirstTwo a b) = Err (Misplaced at)
row_of at c (Single o) = Err (Misplaced at)

abbrev pub row_line_at : List ℕ → ℕ → Result (ℕ × ℤ) TextFault
row_line_at text at = next (in_form (line_at text at)) (λ l. row_of at l.letter l.fields)

-- ---- its effect

pub record Told (S : Type 0) : Type 0 where
  pub told : Result Unit QueryFault
  pub left : S

-- a refusal of the text leaves all as it is
abbrev pub of_text : {X S : Type 0} → Result X TextFault → S → (X → Told S) → Told S
of_text (Ok x) s f = f x
of_text (Err e) s f = record { told = Err (Text e); left = s }

abbrev pub join_judged : ℕ → Result Unit StoreFault → Graph → Graph → Told Graph
join_judged at (Ok u) changed same = record { told = Ok tt; left = changed }
join_judged at (Err f) changed same = record { told = Err (Join at f); left = same }

abbrev pub join_at : ℕ → List ℕ → ℕ → Graph → Told Graph
join_at cap text at m = of_text (pair_at text at 74) m (λ p. join_judged at (join_answer m cap p.0 p.1) (joining m p.0 p.1) m)

abbrev pub mark_read : ℕ → List Mark → Result (ℕ × ℕ) TextFault → Told (List Mark)
mark_read i l r = of_text r l (λ p. record { told = Ok tt; left = slice_set l i (record { v = p.0; w = p.1 }) })

abbrev pub mark_at : List ℕ → ℕ → ℕ → List Mark → Told (List Mark)
mark_at text at i l = mark_read i l (pair_at text at 77)

abbrev pub row_judged : ℕ → Result Unit RowFault → List RowRecord → List RowRecord → Told (List RowRecord)
row_judged at (Ok u) changed same = record { told = Ok tt; left = changed }
row_judged at (Err f) changed same = record { told = Err (Row at f); left = same }

abbrev pub row_at : ℕ → List ℕ → ℕ → List RowRecord → Told (List RowRecord)
row_at n text at l = of_text (row_line_at text at) l (λ r. row_judged at (row_answer n r.0 r.1) (records_after (Ok tt) l r.0 r.1) l)

-- ---- lines, one after another

abbrev pub onward : {S : Type 0} → Result Unit QueryFault → S → (S → Told S) → Told S
onward (Ok u) s f = f s
onward (Err e) s f = record { told = Err e; left = s }

unfoldable pub lines_read : {S : Type 0} → (ℕ → S → Told S) → ℕ → ℕ → S → Told S
lines_read step i zero s = record { told = Ok tt; left = s }
lines_read step i (suc k) s = onward (step i s).told (step i s).left (λ t. lines_read step (i + 1) k t)

abbrev pub join_step : ℕ → List ℕ → ℕ → ℕ → Graph → Told Graph
join_step cap text at i m = join_at cap text (at + 17 * i) m

abbrev pub mark_step : List ℕ → ℕ → ℕ → List Mark → Told (List Mark)
mark_step text at i l = mark_at text (at + 17 * i) i l

abbrev pub row_step : ℕ → List ℕ → ℕ → ℕ → List RowRecord → Told (List RowRecord)
row_step n text at i l = row_at n text (at + 17 * i) l

abbrev pub joins_read : ℕ → List ℕ → ℕ → ℕ → Graph → Told Graph
joins_read cap text at k m = lines_read (join_step cap text at) 0 k m

abbrev pub marks_read : List ℕ → ℕ → ℕ → List Mark → Told (List Mark)
marks_read text at k l = lines_read (mark_step text at) 0 k l

abbrev pub rows_read : ℕ → List ℕ → ℕ → ℕ → List RowRecord → Told (List RowRecord)
rows_read n text at k l = lines_read (row_step n text at) 0 k l

-- none, or one for each table but one
abbrev pub due_marks : ℕ → List ℕ → ℕ → ℕ
due_marks n text at = cond (byte text at == 77) (n - 1) 0

abbrev pub due_rows : List ℕ → ℕ → ℕ
due_rows text at = min ((length text - at + 16) / 17) 64

-- ---- the whole

-- nothing may follow the R lines; the text's end is told
abbrev pub ended : Result Unit TextFault → ℕ → Result ℕ QueryFault
ended (Ok u) end = Ok end
ended (Err e) end = Err (Text e)

-- the R lines from `at` on, and where they end
abbrev pub rows_ended : ℕ → List ℕ → ℕ → List RowRecord → Result ℕ QueryFault
rows_ended n text at rows =
    next (rows_read n text at (due_rows text at) rows).told (λ _.
    ended (end_at text (at + 17 * due_rows text at)) (at + 17 * due_rows text at))

pub record QueryTold : Type 0 where
  pub told : Result QueryHead QueryFault
  pub graph : Graph
  pub marks : List Mark
  pub rows : List RowRecord

-- a refusal ends the reading, with everything as it is then
abbrev pub go_on : {X : Type 0} → Result X QueryFault → (X → QueryTold) → Graph → List Mark → List RowRecord → QueryTold
go_on (Ok x) f m l rows = f x
go_on (Err e) f m l rows = record { told = Err e; graph = m; marks = l; rows = rows }

abbrev pub query_head : Head → ℕ → ℕ → QueryHead
query_head h k end = record { tables = h.tables; joins = h.joins; marks = k; end = end }

-- after the k marks
unfoldable pub read_on_rows : List ℕ → ℕ → Head → ℕ → Graph → List Mark → List RowRecord → QueryTold
read_on_rows text at h k m l rows =
    go_on (rows_ended h.tables text at rows)
    (λ end. record { told = Ok (query_head h k end); graph = m; marks = l; rows = (rows_read h.tables text at (due_rows text at) rows).left })
    m l (rows_read h.tables text at (due_rows text at) rows).left

-- after the joins
unfoldable pub read_on_marks : List ℕ → ℕ → Head → Graph → List Mark → List RowRecord → QueryTold
read_on_marks text at h m l rows =
    let k = due_marks h.tables text at in
    go_on (marks_read text at k l).told (λ _. read_on_rows text (at + 17 * k) h k m (marks_read text at k l).left rows)
    m (marks_read text at k l).left rows

-- after the head
unfoldable pub read_on_joins : List ℕ → ℕ → Head → List Mark → List RowRecord → QueryTold
read_on_joins text at h l rows =
    let j = joins_read 2016 text at h.joins (no_joins h.tables) in
    go_on j.told (λ _. read_on_marks text (at + 17 * h.joins) h j.left l rows) j.left l rows

abbrev pub carried : {X : Type 0} → Result X TextFault → Result X QueryFault
carried (Ok x) = Ok x
carried (Err e) = Err (Text e)

-- where the head itself is refused, the graph is one table and no joins
unfoldable pub query_read : List ℕ → ℕ → List Mark → List RowRecord → QueryTold
query_read text at l rows = go_on (carried (head_at text at (length l))) (λ h. read_on_joins text (at + 17) h l rows) (no_joins 1) l rows
