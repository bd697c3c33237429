-- A graph's joins row by row, as the loops of the writers go through them: what is left gives the whole.
--
--   row_turn, row_over       the rest of a row begins with the join with the first neighbour left, or is empty where none is left
--   row_first, rows_over     the rest of the rows begins with the row of the next table, and is empty after the last
--   rows_length              the rest of the rows is as long as the row of the next table and the rows after it
--   neighbours_few           a table has at most 64 neighbours
--   all_summed               all tables together have as many neighbours above them as there are joins
--   counted_few              a graph has at most 2,016 joins
--   all_rows, all_length     all rows together are the list of all joins, and as long as there are joins
--   row_on, rows_on          one more line, or one more row of lines, is laid: the rest, laid after it, gives the whole as before
use Rattle.std.proofs.Common.{◌≡◌, ℕ, zero, suc, ◌+◌, ◌-◌, ◌*◌, ◌<◌, ◌≤◌, Bool, true, false, cond, List, [], ◌∷◌, ◌++◌, length, sym, refl, ap, ◌∙◌, ap₂, append_assoc, arith, length-append}
use Rattle.std.specs.List.{sum_by, range_with_len}
use Rattle.std.proofs.lemmas.List.{length-map}
use Rattle.std.proofs.lemmas.List.Sums.{sum_by-cons}
use Rattle.lines.specs.Text.{line_text}
use Rattle.lines.proofs.Bytes.{line_length}
use Rattle.writer.specs.Laid.{laid, laid_line}
use Rattle.writer.proofs.Lays.{laid_two}
use Rattle.theory.specs.Graph.{Graph, Simple, Lowest, joined, table_count, size}
use Rattle.theory.specs.Listing.{row_from, rows_from, joins_of}
use Rattle.theory.proofs.Sizes.{size_most}
use Rattle.theory.proofs.Listing.{row_found, row_none, rows_step, rows_done, joins_listed}
use Rattle.graph.specs.Neighbours.{neighbours_from}
use Rattle.graph.proofs.Rows.{first_next, none_next}
use Rattle.texts.proofs.Writing.{laid_room, joined_length}
use Rattle.prints.specs.GraphText.{join_line, join_lines}

-- the joins of v with the tables from b on
abbrev pub rest : Graph → ℕ → ℕ → List (ℕ × ℕ)
rest m v b = row_from m v b (table_count m - b)

-- the rows of the tables from v on
abbrev pub rest_rows : Graph → ℕ → List (ℕ × ℕ)
rest_rows m v = rows_from m v (table_count m - v)

-- ---- lists of joins

-- the rows from the first table on are all joins
pub all_rows : (m : Graph) → rest_rows m 0 ≡ joins_of m
all_rows m = let none : m.tables - 0 ≡ m.tables = omega arith in ap (rows_from m 0) none

module _ (m : Graph) (s : Simple m) where
  -- what is joined with v is a table
  other_small : (v w : ℕ) → joined m v w ≡ true → w < table_count m
  other_small v w t = s.within w v (s.symmetric w v ∙ t)

  -- w is the lowest table from b on that is joined with v
  row_next : (v b w : ℕ) → Lowest (joined m v) b w → rest m v b ≡ (v, w) ∷ rest m v (w + 1)
  row_next v b w low =
      let small : w < m.tables = other_small v w low.holds in
      let above : b ≤ w = low.above in
      let left : b + (m.tables - b) - (w + 1) ≡ m.tables - (w + 1) = omega arith in
      row_found m v b (m.tables - b) w low (omega arith) ∙ ap (λ k. (v, w) ∷ row_from m v (w + 1) k) left

  -- where w is the first neighbour left, the others are those above it
  pub row_turn : (v b w : ℕ) (left others : List ℕ) → left ≡ neighbours_from m v b → left ≡ w ∷ others
      → Lowest (joined m v) b w × (others ≡ neighbours_from m v (w + 1)) × (rest m v b ≡ (v, w) ∷ rest m v (w + 1))
  row_turn v b w left others is begun = let first = first_next m v b w others (sym is ∙ begun) in (first.0, first.1, row_next v b w first.0)

  -- where none is left, nothing is left of the row
  pub row_over : (v b : ℕ) (left : List ℕ) → left ≡ neighbours_from m v b → left ≡ [] → rest m v b ≡ []
  row_over v b left is none = row_none m v b (table_count m - b) (none_next m s v b (sym is ∙ none))

  -- all rows together are as long as there are joins
  pub all_length : length (rest_rows m 0) ≡ size m
  all_length = ap length (all_rows m) ∙ (joins_listed m s).as_many

-- a graph has at most 2,016 joins, counted as they may be
pub counted_few : {m : Graph} {n : ℕ} → Simple m → n ≡ size m → n ≤ 2016
counted_few {m} s is = omega (arith, is, size_most m s.few)

-- a row of k tables has at most k joins
row_short : (m : Graph) (v b k : ℕ) → length (row_from m v b k) ≤ k
unfolding row_from
row_short m v b zero = omega arith
row_short m v b (suc k) = one_more (joined m v b) (v, b) (row_from m v (b + 1) k) k (row_short m v (b + 1) k)
  where
    one_more : (t : Bool) (p : ℕ × ℕ) (l : List (ℕ × ℕ)) (k : ℕ) → length l ≤ k → length (cond t (p ∷ l) l) ≤ suc k
    one_more true p l k h = omega arith
    one_more false p l k h = omega arith

-- the neighbours of a table are as many as its joins, and at most as many as there are tables
pub neighbours_many : (m : Graph) (v b : ℕ) → length (neighbours_from m v b) ≡ length (rest m v b)
neighbours_many m v b = length-map (rest m v b) (λ p. p.1)

pub neighbours_few : (m : Graph) → Simple m → (v b : ℕ) → length (neighbours_from m v b) ≤ 64
neighbours_few m s v b = omega (arith, neighbours_many m v b, row_short m v b (table_count m - b), s.few)

-- the rows from v on begin with the row of v
pub row_first : (m : Graph) (v : ℕ) → v < table_count m → rest_rows m v ≡ rest m v (v + 1) ++ rest_rows m (v + 1)
row_first m v h = rows_step m v (table_count m) h

-- no row is left after the last table
pub rows_over : (m : Graph) (v : ℕ) → table_count m ≤ v → rest_rows m v ≡ []
rows_over m v h = rows_done m v (table_count m) h

-- the rows from v on are as long as the row of v and the rows after it
pub rows_length : (m : Graph) (v : ℕ) → v < table_count m → length (rest_rows m v) ≡ length (rest m v (v + 1)) + length (rest_rows m (v + 1))
rows_length m v h = ap length (row_first m v h) ∙ length-append (rest m v (v + 1)) (rest_rows m (v + 1))

-- the rows of the k tables from a on are as long as their tables have neighbours above them
rows_summed : (m : Graph) (a k : ℕ) → a + k ≡ table_count m → sum_by (λ v. length (neighbours_from m v (v + 1))) (range_with_len a k) ≡ length (rows_from m a k)
unfolding rows_from
rows_summed m a zero e = refl
rows_summed m a (suc k) e =
    let left : table_count m - (a + 1) ≡ k = omega arith in
    let first : length (neighbours_from m a (a + 1)) ≡ length (row_from m a (a + 1) k) = neighbours_many m a (a + 1) ∙ ap (λ n. length (row_from m a (a + 1) n)) left in
    let others : sum_by (λ v. length (neighbours_from m v (v + 1))) (range_with_len (a + 1) k) ≡ length (rows_from m (a + 1) k) = rows_summed m (a + 1) k (omega arith) in
    sum_by-cons (λ v. length (neighbours_from m v (v + 1))) a (range_with_len (a + 1) k)
    ∙ ap₂ (λ x y. x + y) first others
    ∙ sym (length-append (row_from m a (a + 1) k) (rows_from m (a + 1) k))

-- all tables together have as many neighbours above them as there are joins
pub all_summed : (m : Graph) → Simple m → sum_by (λ v. length (neighbours_from m v (v + 1))) (range_with_len 0 (table_count m)) ≡ size m
all_summed m s = rows_summed m 0 (table_count m) (omega arith) ∙ (joins_listed m s).as_many

-- ---- their lines

-- the lines of two lists, one after the other
lines_append : (a b : List (ℕ × ℕ)) → join_lines (a ++ b) ≡ join_lines a ++ join_lines b
lines_append [] b = refl
lines_append (p ∷ a) b =
    ap (λ t. line_text (join_line p) ++ t) (lines_append a b)
    ∙ sym (append_assoc (line_text (join_line p)) (join_lines a) (join_lines b))

-- one more line, laid before the rest
line_more : (xs : List ℕ) (at : ℕ) (p : ℕ × ℕ) (l : List (ℕ × ℕ)) → at + 17 ≤ length xs → laid xs at (join_lines (p ∷ l)) ≡ laid (laid_line xs at (join_line p)) (at + 17) (join_lines l)
line_more xs at p l h =
    let long : length (line_text (join_line p)) ≡ 17 = line_length (join_line p) in
    sym
    (ap (λ o. laid o (at + 17) (join_lines l)) (laid_room xs at (join_line p) h)
    ∙ laid_two xs at (at + 17) (line_text (join_line p)) (join_lines l) (omega arith))

-- one more row of lines, laid before the rest
row_more : (xs : List ℕ) (at : ℕ) (a b : List (ℕ × ℕ)) → laid xs at (join_lines (a ++ b)) ≡ laid (laid xs at (join_lines a)) (at + 17 * length a) (join_lines b)
row_more xs at a b =
    let long : length (join_lines a) ≡ 17 * length a = joined_length join_line a in
    ap (laid xs at) (lines_append a b) ∙ sym (laid_two xs at (at + 17 * length a) (join_lines a) (join_lines b) (omega arith))

-- after the line of the join found, the lines of the rest give the whole as before
pub row_on : (m : Graph) → Simple m → (v b w : ℕ) → Lowest (joined m v) b w → (out after whole : List ℕ) (at : ℕ) → at + 17 ≤ length out
    → after ≡ laid_line out at (join_line (v, w)) → laid out at (join_lines (rest m v b)) ≡ whole → laid after (at + 17) (join_lines (rest m v (w + 1))) ≡ whole
row_on m s v b w low out after whole at room did inv =
    ap (λ o. laid o (at + 17) (join_lines (rest m v (w + 1)))) did
    ∙ sym (line_more out at (v, w) (rest m v (w + 1)) room)
    ∙ ap (λ l. laid out at (join_lines l)) (sym (row_next m s v b w low))
    ∙ inv

-- after the lines of the row of v, the lines of the rows after it give the whole as before
pub rows_on : (m : Graph) (v : ℕ) → v < table_count m → (out after whole : List ℕ) (at next : ℕ) → after ≡ laid out at (join_lines (rest m v (v + 1)))
    → next ≡ at + 17 * length (rest m v (v + 1)) → laid out at (join_lines (rest_rows m v)) ≡ whole → laid after next (join_lines (rest_rows m (v + 1))) ≡ whole
rows_on m v h out after whole at next did on inv =
    ap₂ (λ o k. laid o k (join_lines (rest_rows m (v + 1)))) did on
    ∙ sym (row_more out at (rest m v (v + 1)) (rest_rows m (v + 1)))
    ∙ ap (λ l. laid out at (join_lines l)) (sym (row_first m v h))
    ∙ inv
