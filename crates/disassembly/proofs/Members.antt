-- Lists of tables, and the lowest number that passes a test.
--
--   has_cases, has_more, has_head, has_not, absent   membership
--   Distinct                                         no table stands twice in a list
--   first_below                                      the lowest number below n that passes, or none passes
--   lowest_cases, lowest_some, lowest_is, lowest_none, none_is, lowest_same
--                                                    `lowest_from` finds exactly that
use Rattle.std.proofs.Common.{◌≡◌, ℕ, zero, suc, ◌+◌, ◌<◌, ◌≤◌, Bool, true, false, ◌⊎◌, List, [], ◌∷◌, Some, None, Option, sym, refl, inl, inr, ⊎_elim, arith}
use Rattle.std.proofs.lemmas.Bool.{cases_eq, cases_Bool}
use Rattle.std.proofs.lemmas.Bool.Decides.{nat_tests}
use Rattle.theory.specs.Graph.{Lowest}
use Rattle.disassembly.specs.Search.{has, lowest_from}

pub has_cases : (x : ℕ) (l : List ℕ) (a : ℕ) → has (x ∷ l) a ≡ true → (a ≡ x) ⊎ (has l a ≡ true)
has_cases x l a h = grind (arith, nat_tests)

pub has_more : (x : ℕ) (l : List ℕ) (a : ℕ) → has l a ≡ true → has (x ∷ l) a ≡ true
has_more x l a h = grind (arith, nat_tests)

pub has_head : (x : ℕ) (l : List ℕ) → has (x ∷ l) x ≡ true
has_head x l = grind (arith, nat_tests)

pub has_not : (x : ℕ) (l : List ℕ) (a : ℕ) → has (x ∷ l) a ≡ false → (a ≡ x → ⊥) × (has l a ≡ false)
has_not x l a h = grind (arith, nat_tests)

pub absent : (l : List ℕ) (x : ℕ) → (has l x ≡ true → ⊥) → has l x ≡ false
absent l x h = ⊎_elim (λ e. absurd (h e)) (λ e. e) (cases_Bool (has l x))

abbrev pub Distinct : List ℕ → Type 0
Distinct [] = Unit {0}
Distinct (v ∷ vs) = (has vs v ≡ false) × Distinct vs

-- ---- the lowest number that passes

pub first_below : (n : ℕ) (t : ℕ → Bool) → ((x : ℕ) × (x < n) × (t x ≡ true) × ((y : ℕ) → y < x → t y ≡ false)) ⊎ ((x : ℕ) → x < n → t x ≡ false)
first_below zero t = inr (λ x l. absurd (omega arith))
first_below (suc n) t = ⊎_elim (λ q. inl (q.0, omega (arith, q.1), q.2, q.3))
    (λ none. ⊎_elim (λ e. inl (n, omega arith, e, none))
    (λ (e : t n ≡ false). inr (λ x l. ⊎_elim (λ (q : x ≡ n). rw q e) (λ q. none x (omega arith)) (cases_eq x n))) (cases_Bool (t n))) (first_below n t)

pub lowest_cases : (k n : ℕ) (p : ℕ → Bool) → ((u : ℕ) × (lowest_from k n p ≡ Some u)) ⊎ (lowest_from k n p ≡ None)
lowest_cases k zero p = inr refl
lowest_cases k (suc n) p =
    ⊎_elim (λ (e : p k ≡ true). inl (k, rw e refl)) (λ (e : p k ≡ false). rw e (lowest_cases (k + 1) n p)) (cases_Bool (p k))

apart : (u : ℕ) → ◌≡◌ {A = Option ℕ} None (Some u) → ⊥
apart u e = let z : ◌≡◌ {A = ℕ} 0 1 = cc in omega arith

pub lowest_some : (k n : ℕ) (p : ℕ → Bool) (u : ℕ) → lowest_from k n p ≡ Some u → Lowest p k u × (u < k + n)
lowest_some k zero p u e = absurd (apart u e)
lowest_some k (suc n) p u e =
    ⊎_elim
    (λ (h : p k ≡ true).
    let e' : ◌≡◌ {A = Option ℕ} (Some k) (Some u) = rw h at e in
    let q : k ≡ u = cc in
    (record { holds = rw (sym q) h; above = omega arith; none = λ j a b. absurd (omega arith) }, omega arith))
    (λ (h : p k ≡ false).
    let e' : lowest_from (k + 1) n p ≡ Some u = rw h at e in
    let ih : Lowest p (k + 1) u × (u < k + 1 + n) = lowest_some (k + 1) n p u e' in (
      record {
        holds = ih.0.holds;
        above = omega (arith, ih.0.above);
        none = λ j a b. ⊎_elim (λ (z : j ≡ k). rw z h) (λ z. ih.0.none j (omega arith) b) (cases_eq j k);
      },
      omega (arith, ih.1),
    ))
    (cases_Bool (p k))

pub lowest_is : (k n : ℕ) (p : ℕ → Bool) (u : ℕ) → Lowest p k u → u < k + n → lowest_from k n p ≡ Some u
lowest_is k zero p u low l = absurd (omega (arith, low.above))
lowest_is k (suc n) p u low l =
    ⊎_elim
    (λ (e : k ≡ u). rw e (let h : p u ≡ true = low.holds in rw h refl))
    (λ (e : k ≡ u → ⊥).
    let a : k ≤ u = low.above in
    let h : p k ≡ false = low.none k (omega arith) (omega arith) in
    rw h (lowest_is (k + 1) n p u (record { holds = low.holds; above = omega arith; none = λ j b. low.none j (omega arith) }) (omega arith)))
    (cases_eq k u)

pub lowest_none : (k n : ℕ) (p : ℕ → Bool) → lowest_from k n p ≡ None → (x : ℕ) → k ≤ x → x < k + n → p x ≡ false
lowest_none k zero p e x a b = absurd (omega arith)
lowest_none k (suc n) p e x a b =
    ⊎_elim
    (λ (h : p k ≡ true). let e' : ◌≡◌ {A = Option ℕ} (Some k) None = rw h at e in absurd (apart k (sym e')))
    (λ (h : p k ≡ false).
    let e' : lowest_from (k + 1) n p ≡ None = rw h at e in
    ⊎_elim (λ (z : x ≡ k). rw z h) (λ z. lowest_none (k + 1) n p e' x (omega arith) (omega arith)) (cases_eq x k))
    (cases_Bool (p k))

pub none_is : (k n : ℕ) (p : ℕ → Bool) → ((x : ℕ) → k ≤ x → x < k + n → p x ≡ false) → lowest_from k n p ≡ None
none_is k zero p h = refl
none_is k (suc n) p h =
    let e : p k ≡ false = h k (omega arith) (omega arith) in
    rw e (none_is (k + 1) n p (λ x a b. h x (omega arith) (omega arith)))

pub lowest_same : (k n : ℕ) (p q : ℕ → Bool) → ((x : ℕ) → k ≤ x → x < k + n → p x ≡ q x) → lowest_from k n p ≡ lowest_from k n q
lowest_same k zero p q h = refl
lowest_same k (suc n) p q h =
    let e : p k ≡ q k = h k (omega arith) (omega arith) in
    let ih : lowest_from (k + 1) n p ≡ lowest_from (k + 1) n q = lowest_same (k + 1) n p q (λ x a b. h x (omega arith) (omega arith)) in
    rw (e, ih) refl
