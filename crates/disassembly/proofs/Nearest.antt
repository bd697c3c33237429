-- The neighbour of lowest rank.
--
--   nearest_or, nearest_start, nearest_least   `nearest` over a list: which table it is, and of what rank
--   nearest_joined                              it is a neighbour of u, where u's parent is one
--   nearest_lowest                              no neighbour of u has a lower rank
--   nearest_all                                 both in one
use Rattle.std.proofs.Common.{◌≡◌, ℕ, ◌≤◌, true, false, cond, ltb, ◌⊎◌, List, [], ◌∷◌, refl, ap, ◌∙◌, inl, inr, ⊎_elim, arith}
use Rattle.std.proofs.lemmas.Bool.{cases_Bool, false≢true, ltb-true, ltb-false}
use Rattle.theory.specs.Build.{Part}
use Rattle.disassembly.specs.Search.{has}
use Rattle.disassembly.specs.Disassembly.{passing, nearest, nearest_of}
use Rattle.disassembly.proofs.Members.{has_cases, has_more, has_head}
use Rattle.disassembly.proofs.Passing.{passing_passes, has_passing}
use Rattle.disassembly.proofs.Undo.{SimplePart, ends_in}

-- ---- of a table and a list

pub nearest_or : (rank : ℕ → ℕ) (b : ℕ) (l : List ℕ) → (nearest rank b l ≡ b) ⊎ (has l (nearest rank b l) ≡ true)
nearest_or rank b [] = inl refl
nearest_or rank b (x ∷ l) =
    ⊎_elim
    (λ (e : ltb (rank x) (rank b) ≡ true). rw e (inr (⊎_elim (λ k. rw k (has_head x l)) (λ k. has_more x l (nearest rank x l) k) (nearest_or rank x l))))
    (λ (e : ltb (rank x) (rank b) ≡ false). rw e (⊎_elim inl (λ k. inr (has_more x l (nearest rank b l) k)) (nearest_or rank b l)))
    (cases_Bool (ltb (rank x) (rank b)))

pub nearest_start : (rank : ℕ → ℕ) (b : ℕ) (l : List ℕ) → rank (nearest rank b l) ≤ rank b
nearest_start rank b [] = omega arith
nearest_start rank b (x ∷ l) =
    ⊎_elim
    (λ (e : ltb (rank x) (rank b) ≡ true). rw e (omega (arith, nearest_start rank x l, ltb-true (rank x) (rank b) e)))
    (λ (e : ltb (rank x) (rank b) ≡ false). rw e (nearest_start rank b l))
    (cases_Bool (ltb (rank x) (rank b)))

pub nearest_least : (rank : ℕ → ℕ) (b : ℕ) (l : List ℕ) (y : ℕ) → has l y ≡ true → rank (nearest rank b l) ≤ rank y
nearest_least rank b [] y h = absurd (false≢true h)
nearest_least rank b (x ∷ l) y h =
    ⊎_elim
    (λ (q : y ≡ x). rw q
    (⊎_elim
    (λ (e : ltb (rank x) (rank b) ≡ true). rw e (nearest_start rank x l))
    (λ (e : ltb (rank x) (rank b) ≡ false). rw e (omega (arith, nearest_start rank b l, ltb-false (rank x) (rank b) e)))
    (cases_Bool (ltb (rank x) (rank b)))))
    (λ q. nearest_least rank (cond (ltb (rank x) (rank b)) x b) l y q)
    (has_cases x l y h)

-- ---- among the neighbours of a table

pub nearest_joined : (parent rank : ℕ → ℕ) (u : ℕ) (p : Part) → p.joins u (parent u) ≡ true → p.joins u (nearest_of parent rank u p) ≡ true
unfolding nearest_of
nearest_joined parent rank u p j =
    ⊎_elim
    (λ (e : nearest_of parent rank u p ≡ parent u). ap (p.joins u) e ∙ j)
    (λ e. (passing_passes 0 64 (p.joins u) (nearest_of parent rank u p) e).0)
    (nearest_or rank (parent u) (passing (p.joins u)))

pub nearest_lowest : (parent rank : ℕ → ℕ) (u : ℕ) (p : Part) → SimplePart p → (b : ℕ) → p.joins u b ≡ true → rank (nearest_of parent rank u p) ≤ rank b
unfolding nearest_of
nearest_lowest parent rank u p s b j =
    nearest_least rank (parent u) (passing (p.joins u)) b (has_passing 0 64 (p.joins u) b j (omega arith) (s.few b (ends_in p s u b j).1))

pub nearest_all : (parent rank : ℕ → ℕ) (u : ℕ) (p : Part) → SimplePart p → p.joins u (parent u) ≡ true
    → (p.joins u (nearest_of parent rank u p) ≡ true) × ((b : ℕ) → p.joins u b ≡ true → rank (nearest_of parent rank u p) ≤ rank b)
nearest_all parent rank u p s j = (nearest_joined parent rank u p j, nearest_lowest parent rank u p s)
