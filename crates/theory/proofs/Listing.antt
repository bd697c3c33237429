-- The joins of a graph as a list: that it lists them all, its steps for a loop, and the graph whose list is empty.
--
--   no_join_empty, empty_is   a graph of size 0 has no join, so it is known by its number of tables
--   row_found, row_none       a row from a bound on begins with the lowest join there, or is empty
--   rows_step, rows_done      the rows begin with the first row, and end after the last table
--   joins_listed              the list has each join once, the lower table first, in rising order, and as many as are counted
--   joins_small               both parts of each entry are tables
use Rattle.std.proofs.Common.{◌≡◌, ℕ, zero, suc, ◌+◌, ◌-◌, ◌<◌, ◌≤◌, Bool, true, false, cond, List, [], ◌∷◌, ◌++◌, length, get_or, sym, refl, ap, ◌∙◌, subst, ap₂, inl, inr, ⊎_elim, add-one, arith, length-append}
use mathlib.Core.Path.{fun_ext}
use Rattle.std.specs.List.{ContainsAt as Has, AllByRecursion as All}
use Rattle.std.proofs.ByRecursion.{All-get_or, All-append, All-weaker, has_append_left, has_append_right}
use Rattle.std.proofs.lemmas.Bool.{cases_eq, cases_Bool, cases_order, cond-true, cond-false, cond_both}
use Rattle.theory.specs.Graph.{Graph, Simple, Lowest, joined, table_count, no_joins, count, pairs, size}
use Rattle.theory.specs.Listing.{row_from, rows_from, joins_of, Before, ListsJoins}

-- ---- no joins

-- where no number is counted, none passes
count_zero : (p : ℕ → Bool) (n k : ℕ) → count p n ≡ 0 → k < n → p k ≡ false
count_zero p zero k e l = absurd (omega arith)
count_zero p (suc n) k e l =
    ⊎_elim
    (λ (c : k ≡ n). ap p c ∙ (let one : cond {A = ℕ} (p n) 1 0 ≡ 0 = omega arith in grind arith))
    (λ (ne : k ≡ n → ⊥). count_zero p n k (omega arith) (omega arith))
    (cases_eq k n)

-- where no pair is counted, none passes
pairs_zero : (p : ℕ → ℕ → Bool) (n x y : ℕ) → pairs p n ≡ 0 → x < y → y < n → p x y ≡ false
pairs_zero p zero x y e l h = absurd (omega arith)
pairs_zero p (suc n) x y e l h =
    ⊎_elim
    (λ (c : y ≡ n). ap (p x) c ∙ count_zero (λ z. p z n) n x (omega arith) (omega arith))
    (λ (ne : y ≡ n → ⊥). pairs_zero p n x y (omega arith) l (omega arith))
    (cases_eq y n)

-- a pair that is joined has both its tables in the graph
ends_small : (m : Graph) → Simple m → (a b : ℕ) → joined m a b ≡ true → (a < m.tables) × (b < m.tables)
ends_small m s a b t = (s.within a b t, s.within b a (s.symmetric b a ∙ t))

-- a pair that is joined would be counted, in one of its two orders
pub no_join_empty : (m : Graph) → Simple m → size m ≡ 0 → (a b : ℕ) → joined m a b ≡ false
no_join_empty m s e a b =
    ⊎_elim
    (λ (t : m.adj a b ≡ true).
    let small : (a < m.tables) × (b < m.tables) = ends_small m s a b t in
    ⊎_elim
    (λ (c : a ≡ b). ap (m.adj a) (sym c) ∙ s.loopless a)
    (⊎_elim
    (λ l. pairs_zero m.adj m.tables a b e l small.1)
    (λ l. s.symmetric a b ∙ pairs_zero m.adj m.tables b a e l small.0))
    (cases_order a b))
    (λ f. f)
    (cases_Bool (m.adj a b))

-- a meaning by its parts
abbrev with_adj : ℕ → (ℕ → ℕ → Bool) → Graph
with_adj n J = record { tables = n; adj = J }

-- two meanings that agree everywhere are equal
pub empty_is : (m : Graph) → Simple m → size m ≡ 0 → m ≡ no_joins (table_count m)
empty_is m s e = ap (with_adj m.tables) (fun_ext (λ a. fun_ext (λ b. no_join_empty m s e a b)))

-- ---- steps of a loop

-- what holds of a row, shown where its first table is joined and where it is not
row_by : (m : Graph) (v w k : ℕ) (P : List (ℕ × ℕ) → Type 0) → (joined m v w ≡ true → P ((v, w) ∷ row_from m v (w + 1) k)) → (joined m v w ≡ false → P (row_from m v (w + 1) k))
    → P (row_from m v w (suc k))
unfolding row_from
row_by m v w k P on off = cond_both (joined m v w) ((v, w) ∷ row_from m v (w + 1) k) (row_from m v (w + 1) k) P on off

-- the first table of a row is joined
row_on : (m : Graph) (v w k : ℕ) → joined m v w ≡ true → row_from m v w (suc k) ≡ (v, w) ∷ row_from m v (w + 1) k
unfolding row_from
row_on m v w k t = cond-true (joined m v w) ((v, w) ∷ row_from m v (w + 1) k) (row_from m v (w + 1) k) t

-- the first table of a row is not joined
row_off : (m : Graph) (v w k : ℕ) → joined m v w ≡ false → row_from m v w (suc k) ≡ row_from m v (w + 1) k
unfolding row_from
row_off m v w k f = cond-false (joined m v w) ((v, w) ∷ row_from m v (w + 1) k) (row_from m v (w + 1) k) f

-- w is the lowest join of v from b on, within the row: the row begins with it
pub row_found : (m : Graph) (v b k w : ℕ) → Lowest (joined m v) b w → w < b + k → row_from m v b k ≡ (v, w) ∷ row_from m v (w + 1) (b + k - (w + 1))
row_found m v b zero w low l = absurd (omega arith)
row_found m v b (suc k) w low l =
    ⊎_elim
    (λ (e : b ≡ w).
    let rest : k ≡ b + suc k - (w + 1) = omega arith in
    row_on m v b k (ap (m.adj v) e ∙ low.holds) ∙ ap₂ (λ x r. (v, x) ∷ row_from m v (x + 1) r) e rest)
    (λ (ne : b ≡ w → ⊥).
    let on : b < w = omega arith in
    let rest : b + 1 + k - (w + 1) ≡ b + suc k - (w + 1) = omega arith in
    row_off m v b k (low.none b (omega arith) on)
    ∙ row_found m v (b + 1) k w (record { holds = low.holds; above = omega arith; none = λ j h. low.none j (omega arith) }) (omega arith)
    ∙ ap (λ r. (v, w) ∷ row_from m v (w + 1) r) rest)
    (cases_eq b w)

-- v has no join from b on
pub row_none : (m : Graph) (v b k : ℕ) → ((j : ℕ) → b ≤ j → joined m v j ≡ false) → row_from m v b k ≡ []
unfolding row_from
row_none m v b zero h = refl
row_none m v b (suc k) h = row_off m v b k (h b (omega arith)) ∙ row_none m v (b + 1) k (λ j l. h j (omega arith))

-- the rows of the tables from v to below n: that of v, and then the rest
pub rows_step : (m : Graph) (v n : ℕ) → v < n → rows_from m v (n - v) ≡ row_from m v (v + 1) (n - (v + 1)) ++ rows_from m (v + 1) (n - (v + 1))
unfolding rows_from
rows_step m v n l = let left : n - v ≡ suc (n - (v + 1)) = omega arith in ap (rows_from m v) left

-- no table is left
pub rows_done : (m : Graph) (v n : ℕ) → n ≤ v → rows_from m v (n - v) ≡ []
unfolding rows_from
rows_done m v n l = let left : n - v ≡ 0 = omega arith in ap (rows_from m v) left

-- ---- as many as are counted

-- a row from w to below n has as many entries as are counted there
row_count : (m : Graph) (v w k n : ℕ) → n ≡ w + k → length (row_from m v w k) + count (joined m v) w ≡ count (joined m v) n
unfolding row_from
row_count m v w zero n e = let same : count (joined m v) w ≡ count (joined m v) n = ap (count (joined m v)) (omega arith) in omega arith
row_count m v w (suc k) n e =
    let rest : length (row_from m v (w + 1) k) + count (joined m v) (w + 1) ≡ count (joined m v) n = row_count m v (w + 1) k n (omega arith) in
    let here : count (joined m v) (w + 1) ≡ count (joined m v) w + cond (joined m v w) 1 0 = rw add-one in
    row_by m v w k (λ l. length l + count (joined m v) w ≡ count (joined m v) n)
    (λ t. let one : cond {A = ℕ} (joined m v w) 1 0 ≡ 1 = ap (λ c. cond c 1 0) t in omega arith)
    (λ f. let nought : cond {A = ℕ} (joined m v w) 1 0 ≡ 0 = ap (λ c. cond c 1 0) f in omega arith)

-- one table more, n, adds to the rows from v on what its column counts from v on
rows_more : (m : Graph) (v k n : ℕ) → n ≡ v + k
    → length (rows_from m v (suc k)) + count (λ x. joined m x n) v ≡ length (rows_from m v k) + count (λ x. joined m x n) n
unfolding rows_from row_from
rows_more m v zero n e = let same : v ≡ n = omega arith in ap (λ x. 0 + count (λ y. joined m y n) x) same
rows_more m v (suc k) n e =
    let rest : length (rows_from m (v + 1) (suc k)) + count (λ x. joined m x n) (v + 1) ≡ length (rows_from m (v + 1) k) + count (λ x. joined m x n) n = rows_more m (v + 1) k n (omega arith) in
    let here : count (λ x. joined m x n) (v + 1) ≡ count (λ x. joined m x n) v + cond (joined m v n) 1 0 = rw add-one in
    let long : length (row_from m v (v + 1) (suc k)) + count (joined m v) (v + 1) ≡ count (joined m v) n + cond (joined m v n) 1 0 = row_count m v (v + 1) (suc k) (suc n) (omega arith) in
    let short : length (row_from m v (v + 1) k) + count (joined m v) (v + 1) ≡ count (joined m v) n = row_count m v (v + 1) k n (omega arith) in
    omega (arith, length-append (row_from m v (v + 1) (suc k)) (rows_from m (v + 1) (suc k)), length-append (row_from m v (v + 1) k) (rows_from m (v + 1) k))

-- counted row by row and column by column, the joins are as many
rows_count : (m : Graph) (n : ℕ) → length (rows_from m 0 n) ≡ pairs m.adj n
unfolding rows_from
rows_count m zero = refl
rows_count m (suc n) =
    let ih : length (rows_from m 0 n) ≡ pairs m.adj n = rows_count m n in
    let more : length (rows_from m 0 (suc n)) + 0 ≡ length (rows_from m 0 n) + count (λ x. joined m x n) n = rows_more m 0 n n (omega arith) in
    omega arith

-- ---- nothing but joins

-- an entry of the row of v from w on
abbrev InRow : Graph → ℕ → ℕ → ℕ × ℕ → Type 0
InRow m v w e = (e.0 ≡ v) × (w ≤ e.1) × (joined m v e.1 ≡ true)

-- an entry of the rows from v on
abbrev InRows : Graph → ℕ → ℕ × ℕ → Type 0
InRows m v e = (v ≤ e.0) × (e.0 < e.1) × (joined m e.0 e.1 ≡ true)

-- each entry of a row is one
row_all : (m : Graph) (v w k : ℕ) → All (InRow m v w) (row_from m v w k)
unfolding row_from
row_all m v w zero = tt
row_all m v w (suc k) =
    let rest : All (InRow m v w) (row_from m v (w + 1) k) = All-weaker (InRow m v (w + 1)) (InRow m v w) (λ e h. (h.0, omega arith, h.2)) (row_from m v (w + 1) k) (row_all m v (w + 1) k) in
    row_by m v w k (All (InRow m v w)) (λ t. ((refl, omega arith, t), rest)) (λ _. rest)

-- each entry of the rows is one
rows_all : (m : Graph) (v k : ℕ) → All (InRows m v) (rows_from m v k)
unfolding rows_from
rows_all m v zero = tt
rows_all m v (suc k) =
    All-append (InRows m v) (row_from m v (v + 1) k) (rows_from m (v + 1) k)
    (All-weaker (InRow m v (v + 1)) (InRows m v) (λ e h. (omega arith, omega arith, ap (λ x. joined m x e.1) h.0 ∙ h.2)) (row_from m v (v + 1) k) (row_all m v (v + 1) k))
    (All-weaker (InRows m (v + 1)) (InRows m v) (λ e h. (omega arith, h.1, h.2)) (rows_from m (v + 1) k) (rows_all m (v + 1) k))

-- ---- every join

-- each join of v within the row stands in it
row_has : (m : Graph) (v w k y : ℕ) → w ≤ y → y < w + k → joined m v y ≡ true → Has (row_from m v w k) (v, y)
row_has m v w zero y l h t = absurd (omega arith)
row_has m v w (suc k) y l h t =
    ⊎_elim
    (λ (e : w ≡ y). rw (row_on m v w k (ap (m.adj v) e ∙ t)) (0, omega arith, λ _. ap (λ x. (v, x)) e))
    (λ (ne : w ≡ y → ⊥).
    let rest : Has (row_from m v (w + 1) k) (v, y) = row_has m v (w + 1) k y (omega arith) (omega arith) t in
    row_by m v w k (λ l. Has l (v, y)) (λ _. has_append_right ((v, w) ∷ []) (row_from m v (w + 1) k) (v, y) rest) (λ _. rest))
    (cases_eq w y)

-- each join within the rows stands in them, in the row of its lower table
rows_has : (m : Graph) (v k x y : ℕ) → v ≤ x → x < y → y < v + k → joined m x y ≡ true → Has (rows_from m v k) (x, y)
unfolding rows_from
rows_has m v zero x y l u h t = absurd (omega arith)
rows_has m v (suc k) x y l u h t =
    ⊎_elim
    (λ (e : v ≡ x). has_append_left (row_from m v (v + 1) k) (rows_from m (v + 1) k) (x, y)
    (subst (λ z. Has (row_from m v (v + 1) k) (z, y)) e (row_has m v (v + 1) k y (omega arith) (omega arith) (ap (λ z. joined m z y) e ∙ t))))
    (λ (ne : v ≡ x → ⊥). has_append_right (row_from m v (v + 1) k) (rows_from m (v + 1) k) (x, y) (rows_has m (v + 1) k x y (omega arith) u (omega arith) t))
    (cases_eq v x)

-- ---- in rising order

-- each entry stands before all that follow it
abbrev Sorted : List (ℕ × ℕ) → Type 0
Sorted [] = Unit {0}
Sorted (e ∷ l) = All (Before e) l × Sorted l

-- so of any two places the lower holds the earlier
sorted_at : (l : List (ℕ × ℕ)) → Sorted l → (i j : ℕ) → i < j → j < length l → Before (get_or l i (0, 0)) (get_or l j (0, 0))
sorted_at [] s i j h u = absurd (omega arith)
sorted_at (e ∷ l) s i zero h u = absurd (omega arith)
sorted_at (e ∷ l) s zero (suc j) h u = All-get_or (Before e) l j (0, 0) (omega arith) s.0
sorted_at (e ∷ l) s (suc i) (suc j) h u = sorted_at l s.1 i j (omega arith) (omega arith)

-- two sorted lists, each entry of the first before all of the second
sorted_append : (l r : List (ℕ × ℕ)) → Sorted l → Sorted r → All (λ e. All (Before e) r) l → Sorted (l ++ r)
sorted_append [] r s t a = t
sorted_append (e ∷ l) r s t a = (All-append (Before e) l r s.0 a.0, sorted_append l r s.1 t a.1)

-- a row rises by its higher tables
row_sorted : (m : Graph) (v w k : ℕ) → Sorted (row_from m v w k)
unfolding row_from
row_sorted m v w zero = tt
row_sorted m v w (suc k) =
    let rest : Sorted (row_from m v (w + 1) k) = row_sorted m v (w + 1) k in
    row_by m v w k Sorted
    (λ _. (All-weaker (InRow m v (w + 1)) (Before (v, w)) (λ e h. inr (sym h.0, omega arith)) (row_from m v (w + 1) k) (row_all m v (w + 1) k), rest))
    (λ _. rest)

-- the rows rise by their lower tables
rows_sorted : (m : Graph) (v k : ℕ) → Sorted (rows_from m v k)
unfolding rows_from
rows_sorted m v zero = tt
rows_sorted m v (suc k) =
    sorted_append (row_from m v (v + 1) k) (rows_from m (v + 1) k) (row_sorted m v (v + 1) k) (rows_sorted m (v + 1) k)
    (All-weaker (InRow m v (v + 1)) (λ e. All (Before e) (rows_from m (v + 1) k))
    (λ e h. All-weaker (InRows m (v + 1)) (Before e) (λ f g. inl (omega arith)) (rows_from m (v + 1) k) (rows_all m (v + 1) k))
    (row_from m v (v + 1) k) (row_all m v (v + 1) k))

-- ---- the list of all joins

-- the list has each join once, the lower table first, in rising order
pub joins_listed : (m : Graph) → Simple m → ListsJoins m (joins_of m)
joins_listed m s = record {
  only = λ i l. let e : InRows m 0 (get_or (joins_of m) i (0, 0)) = All-get_or (InRows m 0) (joins_of m) i (0, 0) l (rows_all m 0 m.tables) in (e.1, e.2);
  every = λ v w l t.
      let h : w < m.tables = (ends_small m s v w t).1 in
      let e : Has (joins_of m) (v, w) = rows_has m 0 m.tables v w (omega arith) l (omega arith) t in
      (e.0, e.1, e.2 (0, 0));
  rises = sorted_at (joins_of m) (rows_sorted m 0 m.tables);
  as_many = rows_count m m.tables;
}

-- both parts of each entry are tables
pub joins_small : (m : Graph) → Simple m → (i : ℕ) → i < length (joins_of m) → ((get_or (joins_of m) i (0, 0)).0 < m.tables) × ((get_or (joins_of m) i (0, 0)).1 < m.tables)
joins_small m s i l = ends_small m s (get_or (joins_of m) i (0, 0)).0 (get_or (joins_of m) i (0, 0)).1 ((joins_listed m s).only i l).1
