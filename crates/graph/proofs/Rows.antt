-- The neighbours of a table as a list: how the list begins, and when it is empty.
--
--   next_first, next_none   the list from a bound on begins with the lowest neighbour there, or is empty
--   first_next, none_next   what begins the list is the lowest neighbour there; where the list is empty there is none
use Rattle.std.proofs.Common.{◌≡◌, ℕ, zero, suc, ◌+◌, ◌-◌, ◌<◌, ◌≤◌, false, true, List, [], ◌∷◌, map, sym, ap, ◌∙◌, ap₂, ⊎_elim, arith}
use Rattle.std.proofs.lemmas.Bool.{cases_eq, cases_Bool, cond-true, cond-false}
use Rattle.theory.specs.Graph.{Graph, Simple, Lowest, joined}
use Rattle.theory.specs.Listing.{row_from}
use Rattle.theory.proofs.Listing.{row_found, row_none}
use Rattle.graph.specs.Neighbours.{neighbours_from}

abbrev seconds : List (ℕ × ℕ) → List ℕ
seconds l = map (λ p. p.1) l

pub next_first : (m : Graph) → Simple m → (v b w : ℕ) → Lowest (joined m v) b w → neighbours_from m v b ≡ w ∷ neighbours_from m v (w + 1)
next_first m s v b w low =
    let small : w < m.tables = s.within w v (s.symmetric w v ∙ low.holds) in
    let above : b ≤ w = low.above in
    let left : b + (m.tables - b) - (w + 1) ≡ m.tables - (w + 1) = omega arith in
    ap seconds (row_found m v b (m.tables - b) w low (omega arith) ∙ ap (λ k. (v, w) ∷ row_from m v (w + 1) k) left)

pub next_none : (m : Graph) (v b : ℕ) → ((j : ℕ) → b ≤ j → joined m v j ≡ false) → neighbours_from m v b ≡ []
next_none m v b none = ap seconds (row_none m v b (m.tables - b) none)

-- a row that begins with w
row_first : (m : Graph) (v b k w : ℕ) (rest : List ℕ) → seconds (row_from m v b k) ≡ w ∷ rest
    → Lowest (joined m v) b w × (w < b + k) × (rest ≡ seconds (row_from m v (w + 1) (b + k - (w + 1))))
unfolding row_from
row_first m v b zero w rest e = cc
row_first m v b (suc k) w rest e =
    ⊎_elim
    (λ (t : joined m v b ≡ true).
    let on : seconds (row_from m v b (suc k)) ≡ b ∷ seconds (row_from m v (b + 1) k)
    = ap seconds (cond-true (joined m v b) ((v, b) ∷ row_from m v (b + 1) k) (row_from m v (b + 1) k) t) in
    let parts : b ∷ seconds (row_from m v (b + 1) k) ≡ w ∷ rest = sym on ∙ e in
    let is : b ≡ w = cc in
    let tail : seconds (row_from m v (b + 1) k) ≡ rest = cc in
    let left : k ≡ b + suc k - (w + 1) = omega arith in (
      record { holds = ap (joined m v) (sym is) ∙ t; above = omega arith; none = λ j l h. absurd (omega arith) },
      omega arith,
      sym tail ∙ ap₂ (λ x y. seconds (row_from m v (x + 1) y)) is left,
    ))
    (λ (f : joined m v b ≡ false).
    let off : seconds (row_from m v b (suc k)) ≡ seconds (row_from m v (b + 1) k)
    = ap seconds (cond-false (joined m v b) ((v, b) ∷ row_from m v (b + 1) k) (row_from m v (b + 1) k) f) in
    let later = row_first m v (b + 1) k w rest (sym off ∙ e) in
    let above : b + 1 ≤ w = later.0.above in
    let left : b + 1 + k - (w + 1) ≡ b + suc k - (w + 1) = omega arith in
    let bound : w < b + 1 + k = later.1 in (
      record {
        holds = later.0.holds;
        above = omega arith;
        none = λ j l h. ⊎_elim (λ (e : b ≡ j). ap (joined m v) (sym e) ∙ f) (λ (ne : b ≡ j → ⊥). later.0.none j (omega arith) h) (cases_eq b j);
      },
      omega arith,
      later.2 ∙ ap (λ y. seconds (row_from m v (w + 1) y)) left,
    ))
    (cases_Bool (joined m v b))

pub first_next : (m : Graph) (v b w : ℕ) (rest : List ℕ) → neighbours_from m v b ≡ w ∷ rest → Lowest (joined m v) b w × (rest ≡ neighbours_from m v (w + 1))
first_next m v b w rest e =
    let first = row_first m v b (m.tables - b) w rest e in
    let above : b ≤ w = first.0.above in
    let below : w < b + (m.tables - b) = first.1 in
    let left : b + (m.tables - b) - (w + 1) ≡ m.tables - (w + 1) = omega arith in
    (first.0, first.2 ∙ ap (λ k. seconds (row_from m v (w + 1) k)) left)

-- no table of an empty row is joined
row_empty : (m : Graph) (v b k : ℕ) → seconds (row_from m v b k) ≡ [] → (j : ℕ) → b ≤ j → j < b + k → joined m v j ≡ false
unfolding row_from
row_empty m v b zero e j l h = absurd (omega arith)
row_empty m v b (suc k) e j l h =
    ⊎_elim
    (λ (t : joined m v b ≡ true).
    let on : seconds (row_from m v b (suc k)) ≡ b ∷ seconds (row_from m v (b + 1) k)
    = ap seconds (cond-true (joined m v b) ((v, b) ∷ row_from m v (b + 1) k) (row_from m v (b + 1) k) t) in
    let no : b ∷ seconds (row_from m v (b + 1) k) ≡ [] = sym on ∙ e in
    cc)
    (λ (f : joined m v b ≡ false).
    let off : seconds (row_from m v b (suc k)) ≡ seconds (row_from m v (b + 1) k)
    = ap seconds (cond-false (joined m v b) ((v, b) ∷ row_from m v (b + 1) k) (row_from m v (b + 1) k) f) in
    ⊎_elim (λ (q : b ≡ j). ap (joined m v) (sym q) ∙ f) (λ (ne : b ≡ j → ⊥). row_empty m v (b + 1) k (sym off ∙ e) j (omega arith) (omega arith)) (cases_eq b j))
    (cases_Bool (joined m v b))

pub none_next : (m : Graph) → Simple m → (v b : ℕ) → neighbours_from m v b ≡ [] → (j : ℕ) → b ≤ j → joined m v j ≡ false
none_next m s v b e j l =
    ⊎_elim
    (λ (t : joined m v j ≡ true).
    let small : j < m.tables = s.within j v (s.symmetric j v ∙ t) in
    row_empty m v b (m.tables - b) e j l (omega arith))
    (λ (f : joined m v j ≡ false). f)
    (cases_Bool (joined m v j))
