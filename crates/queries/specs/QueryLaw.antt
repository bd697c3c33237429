-- What reading a query amounts to: an accepted text is that of its lines, and what they say is what is left; a refused text
-- has the fault that is told at its first line that is amiss, and what the lines before it say is left.
--
--   head_line n m, join_line p, mark_line k, row_line r   the lines of a query
--   query_text n m js ms rs         the text of a query of n tables and m joins: its joins, its marks, its row counts
--   has_join js a b                 some of the joins js is that of a and b
--   lines_graph n js                n tables, and exactly the joins js
--   last_count rs t c               the count of the last of the row counts rs that is for table t, and c where there is none
--   Left n js ms rs …               the graph, the mark records and the catalogue after these lines
--   Due n m j k r c                 after j joins, k marks and r row counts, c is a letter that can follow
--   NothingOwed n m j k             and the text may end there
--   GoodHead text at room n m       a G line that is accepted
--   GoodJoin n js p, GoodRow n r    a join that the store accepts after those of js; a row count that the catalogue accepts
--   Begun text at room n m js ms rs   from `at` on there stand these lines of a query, each due and each accepted
--   place_after at js ms rs         where the line after these begins
--   QueryStands …                   what an accepted query is
--   HeadAmiss, Amiss                what is amiss with the G line; with the line after those that were accepted
--   QueryAccepted, QueryRefused     the two laws, for whatever is told
use Rattle.std.specs.Prelude.{◌≡◌, ℕ, ◌+◌, ◌-◌, ◌*◌, ◌<◌, ◌≤◌, Bool, true, false, cond, ◌||◌, ◌⊎◌, List, [], ◌∷◌, ◌++◌, length, drop, ℤ, Option, Ok, Err, Result, ◌==◌, ◌≢◌}
use Rattle.std.specs.List.{flat_map}
use Rattle.theory.specs.Graph.{Graph, same_pair, no_joins}
use Rattle.theory.specs.declared.mark.Mark.{Mark}
use Rattle.graph.specs.Store.{join_answer}
use Rattle.catalogue.specs.Rows.{stored_count, out_of_range, row_answer, count_of}
use Rattle.catalogue.specs.declared.catalogue.RowRecord.{RowRecord}
use Rattle.lines.specs.Form.{Longest}
use Rattle.lines.specs.Text.{line_text}
use Rattle.lines.specs.declared.line.Fields.TheVariants.{LastTwo, FirstTwo, Counted}
use Rattle.lines.specs.declared.line.Line.{Line}
use Rattle.texts.specs.ListLaw.{Here}
use Rattle.texts.specs.declared.fault.TextFault.TheVariants.{BadForm, Misplaced, OutOfLimits, TooFew}
use Rattle.queries.specs.QueryRead.{outside_limits}
use Rattle.rejections.specs.declared.fault.QueryFault.{QueryFault}
use Rattle.rejections.specs.declared.fault.QueryFault.TheVariants.{Text, Join, Row}
use Rattle.queries.specs.declared.query.QueryHead.{QueryHead}

-- ---- the text

-- G: tables, joins
abbrev pub head_line : ℕ → ℕ → Line
head_line n m = record { letter = 71; fields = FirstTwo n m }

-- J: unused, v, w
abbrev pub join_line : ℕ × ℕ → Line
join_line p = record { letter = 74; fields = LastTwo p.0 p.1 }

-- M: unused, v, w
abbrev pub mark_line : Mark → Line
mark_line k = record { letter = 77; fields = LastTwo k.v k.w }

-- R: table, stored row count
abbrev pub row_line : ℕ × ℤ → Line
row_line r = record { letter = 82; fields = Counted r.0 r.1 }

abbrev pub join_text : ℕ × ℕ → List ℕ
join_text p = line_text (join_line p)

abbrev pub mark_text : Mark → List ℕ
mark_text k = line_text (mark_line k)

abbrev pub row_text : ℕ × ℤ → List ℕ
row_text r = line_text (row_line r)

abbrev pub query_text : ℕ → ℕ → List (ℕ × ℕ) → List Mark → List (ℕ × ℤ) → List ℕ
query_text n m js ms rs = line_text (head_line n m) ++ (flat_map join_text js ++ (flat_map mark_text ms ++ flat_map row_text rs))

-- ---- what it says

abbrev pub has_join : List (ℕ × ℕ) → ℕ → ℕ → Bool
has_join [] a b = false
has_join (p ∷ ps) a b = same_pair p.0 p.1 a b || has_join ps a b

abbrev pub lines_graph : ℕ → List (ℕ × ℕ) → Graph
lines_graph n js = record { tables = n; adj = has_join js }

abbrev pub last_count : List (ℕ × ℤ) → ℕ → Option ℕ → Option ℕ
last_count [] t c = c
last_count (r ∷ rs) t c = last_count rs t (cond (t == r.0) (stored_count r.1) c)

pub record Left (n : ℕ) (js : List (ℕ × ℕ)) (ms : List Mark) (rs : List (ℕ × ℤ)) (marks : List Mark) (rows : List RowRecord)
    (graph : Graph) (marks' : List Mark) (rows' : List RowRecord) : Type 0 where
  -- the graph has exactly the joins of the J lines
  pub graph_is : graph ≡ lines_graph n js
  -- the marks of the M lines fill the first records, and later records keep their contents
  pub marks_are : marks' ≡ ms ++ drop (length ms) marks
  -- each table's count is that of its last R line, and as it was where it has none
  pub counts_are : (t : ℕ) → count_of rows' t ≡ last_count rs t (count_of rows t)

-- ---- which line can stand where

-- all joins first; then marks, each table but one having one; then, after no marks or all of them, up to 64 row counts
pub data Due (n m : ℕ) : ℕ → ℕ → ℕ → ℕ → Type 0 where
  join_due : {j : ℕ} → j < m → Due n m j 0 0 74
  mark_due : {k : ℕ} → k + 1 < n → Due n m m k 0 77
  row_due : {k r : ℕ} → (k ≡ 0) ⊎ (k + 1 ≡ n) → r < 64 → Due n m m k r 82

abbrev pub NothingOwed : ℕ → ℕ → ℕ → ℕ → Type 0
NothingOwed n m j k = (j ≡ m) × ((k ≡ 0) ⊎ (k + 1 ≡ n))

pub record GoodHead (text : List ℕ) (at room n m : ℕ) : Type 0 where
  -- it stands there
  pub here : Here text at (head_line n m)
  -- its numbers are within their limits
  pub inside : outside_limits n m ≡ false
  -- there are records enough for the marks
  pub enough : n ≤ room + 1

pub record GoodJoin (n : ℕ) (js : List (ℕ × ℕ)) (p : ℕ × ℕ) : Type 0 where
  -- two tables
  pub first : p.0 < n
  pub second : p.1 < n
  -- that are different
  pub apart : p.0 ≡ p.1 → ⊥
  -- and not joined by an earlier line
  pub fresh : has_join js p.0 p.1 ≡ false

pub record GoodRow (n : ℕ) (r : ℕ × ℤ) : Type 0 where
  -- a table
  pub table : r.0 < n
  -- and a number that stands for a count
  pub in_range : out_of_range r.1 ≡ false

abbrev pub place_after : ℕ → List (ℕ × ℕ) → List Mark → List (ℕ × ℤ) → ℕ
place_after at js ms rs = at + 17 + 17 * length js + 17 * length ms + 17 * length rs

-- line after line, each due and each accepted
pub data Begun (text : List ℕ) (at room n m : ℕ) : List (ℕ × ℕ) → List Mark → List (ℕ × ℤ) → Type 0 where
  headed : GoodHead text at room n m → Begun text at room n m [] [] []
  joined_by : {js : List (ℕ × ℕ)} (p : ℕ × ℕ) → Begun text at room n m js [] [] → Due n m (length js) 0 0 74
      → Here text (place_after at js [] []) (join_line p) → GoodJoin n js p → Begun text at room n m (js ++ p ∷ []) [] []
  marked_by : {js : List (ℕ × ℕ)} {ms : List Mark} (k : Mark) → Begun text at room n m js ms [] → Due n m (length js) (length ms) 0 77
      → Here text (place_after at js ms []) (mark_line k) → Begun text at room n m js (ms ++ k ∷ []) []
  counted_by : {js : List (ℕ × ℕ)} {ms : List Mark} {rs : List (ℕ × ℤ)} (r : ℕ × ℤ) → Begun text at room n m js ms rs → Due n m (length js) (length ms) (length rs) 82
      → Here text (place_after at js ms rs) (row_line r) → GoodRow n r → Begun text at room n m js ms (rs ++ r ∷ [])

-- ---- accepted

pub record QueryStands (text : List ℕ) (at : ℕ) (marks : List Mark) (rows : List RowRecord) (h : QueryHead)
    (graph : Graph) (marks' : List Mark) (rows' : List RowRecord) : Type 0 where
  -- the joins, the marks and the row counts of its lines
  pub js : List (ℕ × ℕ)
  pub ms : List Mark
  pub rs : List (ℕ × ℤ)
  -- the lines stand there, in order, each accepted
  pub begun : Begun text at (length marks) h.tables h.joins js ms rs
  -- they are the whole rest of the text
  pub whole : drop at text ≡ query_text h.tables h.joins js ms rs
  pub ends : h.end ≡ length text
  -- as many joins as the head says, as many marks as are told, and none is owed
  pub all_joins : length js ≡ h.joins
  pub all_marks : length ms ≡ h.marks
  pub none_owed : NothingOwed h.tables h.joins (length js) (length ms)
  -- at most 64 row counts
  pub few_rows : length rs ≤ 64
  -- what they say is what is left
  pub left : Left h.tables js ms rs marks rows graph marks' rows'

-- ---- refused

-- 15 not in form; 16 no G line; 17 outside the limits; 9 fewer records than marks
abbrev pub HeadAmiss : List ℕ → ℕ → ℕ → QueryFault → Type 0
HeadAmiss text at room (Text (BadForm p)) = Longest text at p
HeadAmiss text at room (Text (Misplaced p)) = (p ≡ at) × (l : Line) × Here text at l × (l.letter ≢ 71)
HeadAmiss text at room (Text (OutOfLimits p)) = (p ≡ at) × (n m : ℕ) × Here text at (head_line n m) × (outside_limits n m ≡ true)
HeadAmiss text at room (Text (TooFew k)) = (n m : ℕ) × Here text at (head_line n m) × (outside_limits n m ≡ false) × (k ≡ n - 1) × (room < k)
HeadAmiss text at room (Join p f) = ⊥
HeadAmiss text at room (Row p f) = ⊥

pub record HeadRefused (text : List ℕ) (at : ℕ) (marks : List Mark) (rows : List RowRecord) (f : QueryFault)
    (graph : Graph) (marks' : List Mark) (rows' : List RowRecord) : Type 0 where
  pub amiss : HeadAmiss text at (length marks) f
  -- one table and no joins
  pub graph_is : graph ≡ no_joins 1
  pub marks_are : marks' ≡ marks
  pub rows_are : rows' ≡ rows

-- at p, after the joins js, k marks and r row counts: 15 what stands there is not in form, and is not the end of a text of
-- which no line is owed; 16 it has a letter that is not due; the join or the row count is refused
abbrev pub Amiss : List ℕ → ℕ → ℕ → ℕ → List (ℕ × ℕ) → ℕ → ℕ → QueryFault → Type 0
Amiss text p n m js k r (Text (BadForm q)) = Longest text p q × (p ≡ length text → NothingOwed n m (length js) k → ⊥)
Amiss text p n m js k r (Text (Misplaced q)) = (q ≡ p) × (l : Line) × Here text p l × (Due n m (length js) k r l.letter → ⊥)
Amiss text p n m js k r (Text (OutOfLimits q)) = ⊥
Amiss text p n m js k r (Text (TooFew q)) = ⊥
Amiss text p n m js k r (Join q f) =
    (q ≡ p) × (e : ℕ × ℕ) × Here text p (join_line e) × Due n m (length js) k r 74 × (join_answer (lines_graph n js) 2016 e.0 e.1 ≡ Err f)
Amiss text p n m js k r (Row q f) =
    (q ≡ p) × (e : ℕ × ℤ) × Here text p (row_line e) × Due n m (length js) k r 82 × (row_answer n e.0 e.1 ≡ Err f)

pub record LineRefused (text : List ℕ) (at : ℕ) (marks : List Mark) (rows : List RowRecord) (f : QueryFault)
    (graph : Graph) (marks' : List Mark) (rows' : List RowRecord) : Type 0 where
  -- the head's numbers, and the lines before the one refused
  pub tables : ℕ
  pub joins : ℕ
  pub js : List (ℕ × ℕ)
  pub ms : List Mark
  pub rs : List (ℕ × ℤ)
  -- each was due and is accepted
  pub begun : Begun text at (length marks) tables joins js ms rs
  -- and keeps its effect
  pub left : Left tables js ms rs marks rows graph marks' rows'
  -- the line after them is amiss
  pub amiss : Amiss text (place_after at js ms rs) tables joins js (length ms) (length rs) f

abbrev pub QueryAccepted : List ℕ → ℕ → List Mark → List RowRecord → Result QueryHead QueryFault → Graph → List Mark → List RowRecord → Type 0
QueryAccepted text at marks rows (Ok h) graph marks' rows' = QueryStands text at marks rows h graph marks' rows'
QueryAccepted text at marks rows (Err f) graph marks' rows' = Unit {0}

abbrev pub QueryRefused : List ℕ → ℕ → List Mark → List RowRecord → Result QueryHead QueryFault → Graph → List Mark → List RowRecord → Type 0
QueryRefused text at marks rows (Ok h) graph marks' rows' = Unit {0}
QueryRefused text at marks rows (Err f) graph marks' rows' =
    HeadRefused text at marks rows f graph marks' rows' ⊎ LineRefused text at marks rows f graph marks' rows'
