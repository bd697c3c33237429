-- The joins of a graph as a list, rising by the lower table and then by the higher one.
--
--   row_from m v w k   the joins of v with the k tables from w on
--   rows_from m v k    the joins of each of the k tables from v on with the tables above it
--   joins_of m         all joins
--   Rises l            each pair stands before the next by its lower table, or by its higher one where the lower is the same
--   ListsJoins m l     l has each join of m exactly once, the lower table first, in rising order, and nothing else
use Rattle.std.specs.Prelude.{◌≡◌, ℕ, zero, suc, ◌+◌, ◌<◌, true, cond, ◌⊎◌, List, [], ◌∷◌, ◌++◌, length, get_or, slice_index_or}
use Rattle.theory.specs.Graph.{Graph, joined, table_count, size}

unfoldable pub row_from : Graph → ℕ → ℕ → ℕ → List (ℕ × ℕ)
row_from m v w zero = []
row_from m v w (suc k) = cond (joined m v w) ((v, w) ∷ row_from m v (w + 1) k) (row_from m v (w + 1) k)

unfoldable pub rows_from : Graph → ℕ → ℕ → List (ℕ × ℕ)
rows_from m v zero = []
rows_from m v (suc k) = row_from m v (v + 1) k ++ rows_from m (v + 1) k

abbrev pub joins_of : Graph → List (ℕ × ℕ)
joins_of m = rows_from m 0 (table_count m)

abbrev pub Before : ℕ × ℕ → ℕ × ℕ → Type 0
Before p q = (p.0 < q.0) ⊎ ((p.0 ≡ q.0) × (p.1 < q.1))

pub record ListsJoins (m : Graph) (l : List (ℕ × ℕ)) : Type 0 where
  -- nothing but joins, each with the lower table first
  pub only : (i : ℕ) → i < length l → ((get_or l i (0, 0)).0 < (get_or l i (0, 0)).1) × (joined m (get_or l i (0, 0)).0 (get_or l i (0, 0)).1 ≡ true)
  -- every join
  pub every : (v w : ℕ) → v < w → joined m v w ≡ true → (i : ℕ) × (i < length l) × (slice_index_or l i (0, 0) ≡ (v, w))
  -- in rising order, so none twice
  pub rises : (i j : ℕ) → i < j → j < length l → Before (slice_index_or l i (0, 0)) (slice_index_or l j (0, 0))
  -- as many as there are joins
  pub as_many : length l ≡ size m
