-- The numbers that pass a test, listed in rising order: that the enumeration is such a list, and the only one.
--
--   passing_passes       what the enumeration has passes, and lies in its span
--   has_passing          it has all that pass there
--   passing_distinct     it has none twice
--   passing_rising       it is the rising list of the numbers that pass, where all of them are below 64
--   rising_unique        there is no other rising list of the numbers that pass
--   rising_distinct      a rising list has no number twice
use Rattle.std.proofs.Common.{◌≡◌, ℕ, zero, suc, ◌+◌, ◌<◌, ◌≤◌, Bool, true, false, List, [], ◌∷◌, length, get_or, sym, refl, ◌∙◌, subst, ap₂, ⊎_elim, arith}
use Rattle.std.specs.Cmp.{both_ways as same_test}
use Rattle.std.proofs.lemmas.Bool.{cases_eq, cases_Bool, cases_order, false≢true}
use Rattle.disassembly.specs.Search.{has}
use Rattle.disassembly.specs.Disassembly.{RisingList, passing_from, passing}
use Rattle.disassembly.proofs.Members.{has_cases, has_more, has_head, absent, Distinct}

-- ---- what the enumeration has

pub passing_passes : (k n : ℕ) (t : ℕ → Bool) (x : ℕ) → has (passing_from k n t) x ≡ true → (t x ≡ true) × (k ≤ x) × (x < k + n)
passing_passes k zero t x h = absurd (false≢true h)
passing_passes k (suc n) t x h =
    let ih : has (passing_from (k + 1) n t) x ≡ true → (t x ≡ true) × (k + 1 ≤ x) × (x < k + 1 + n) = passing_passes (k + 1) n t x in
    ⊎_elim
    (λ (e : t k ≡ true).
    ⊎_elim
    (λ (q : x ≡ k). (rw q e, omega arith, omega arith))
    (λ q. ((ih q).0, omega (arith, (ih q).1), omega (arith, (ih q).2)))
    (has_cases k (passing_from (k + 1) n t) x (rw e at h)))
    (λ (e : t k ≡ false). let h' : has (passing_from (k + 1) n t) x ≡ true = rw e at h in ((ih h').0, omega (arith, (ih h').1), omega (arith, (ih h').2)))
    (cases_Bool (t k))

pub has_passing : (k n : ℕ) (t : ℕ → Bool) (x : ℕ) → t x ≡ true → k ≤ x → x < k + n → has (passing_from k n t) x ≡ true
has_passing k zero t x h l m = absurd (omega arith)
has_passing k (suc n) t x h l m =
    ⊎_elim
    (λ (q : x ≡ k). let e : t k ≡ true = rw q at h in rw (e, q) (has_head k (passing_from (k + 1) n t)))
    (λ q.
    let ih : has (passing_from (k + 1) n t) x ≡ true = has_passing (k + 1) n t x h (omega arith) (omega arith) in
    ⊎_elim (λ (e : t k ≡ true). rw e (has_more k (passing_from (k + 1) n t) x ih)) (λ (e : t k ≡ false). rw e ih) (cases_Bool (t k)))
    (cases_eq x k)

pub passing_distinct : (k n : ℕ) (t : ℕ → Bool) → Distinct (passing_from k n t)
passing_distinct k zero t = tt
passing_distinct k (suc n) t =
    ⊎_elim
    (λ (e : t k ≡ true). rw e (absent (passing_from (k + 1) n t) k (λ q. omega (arith, (passing_passes (k + 1) n t k q).1)), passing_distinct (k + 1) n t))
    (λ (e : t k ≡ false). rw e (passing_distinct (k + 1) n t))
    (cases_Bool (t k))

-- ---- places in a list

-- what stands at a place of a list is in it
at_has : (l : List ℕ) (i : ℕ) → i < length l → has l (get_or l i 0) ≡ true
at_has [] i h = absurd (omega arith)
at_has (x ∷ l) zero h = has_head x l
at_has (x ∷ l) (suc i) h = has_more x l (get_or l i 0) (at_has l i (omega arith))

-- what is in a list stands at a place of it
has_at : (l : List ℕ) (x : ℕ) → has l x ≡ true → (i : ℕ) × (i < length l) × (get_or l i 0 ≡ x)
has_at [] x h = absurd (false≢true h)
has_at (y ∷ l) x h =
    ⊎_elim
    (λ (e : x ≡ y). (0, omega arith, sym e))
    (λ q. let at = has_at l x q in (suc at.0, omega (arith, at.1), at.2))
    (has_cases y l x h)

-- each number is below all that follow it
abbrev Sorted : List ℕ → Type 0
Sorted [] = Unit {0}
Sorted (x ∷ l) = ((y : ℕ) → has l y ≡ true → x < y) × Sorted l

sorted_rises : (l : List ℕ) → Sorted l → (i j : ℕ) → i < j → j < length l → get_or l i 0 < get_or l j 0
sorted_rises [] s i j h u = absurd (omega arith)
sorted_rises (x ∷ l) s i zero h u = absurd (omega arith)
sorted_rises (x ∷ l) s zero (suc j) h u = s.0 (get_or l j 0) (at_has l j (omega arith))
sorted_rises (x ∷ l) s (suc i) (suc j) h u = sorted_rises l s.1 i j (omega arith) (omega arith)

rises_sorted : (l : List ℕ) → ((i j : ℕ) → i < j → j < length l → get_or l i 0 < get_or l j 0) → Sorted l
rises_sorted [] h = tt
rises_sorted (x ∷ l) h = (
  λ y q. let at = has_at l y q in subst (λ z. x < z) at.2 (h 0 (suc at.0) (omega arith) (omega (arith, at.1))),
  rises_sorted l (λ i j k u. h (suc i) (suc j) (omega arith) (omega arith)),
)

passing_sorted : (k n : ℕ) (t : ℕ → Bool) → Sorted (passing_from k n t)
passing_sorted k zero t = tt
passing_sorted k (suc n) t =
    ⊎_elim
    (λ (e : t k ≡ true). rw e ((λ y q. let above : k + 1 ≤ y = (passing_passes (k + 1) n t y q).1 in omega arith), passing_sorted (k + 1) n t))
    (λ (e : t k ≡ false). rw e (passing_sorted (k + 1) n t))
    (cases_Bool (t k))

pub passing_rising : (t : ℕ → Bool) → ((x : ℕ) → t x ≡ true → x < 64) → RisingList t (passing t)
passing_rising t few = record {
  only = λ x. same_test (has (passing t) x) (t x) (λ h. (passing_passes 0 64 t x h).0) (λ h. has_passing 0 64 t x h (omega arith) (few x h));
  rises = sorted_rises (passing t) (passing_sorted 0 64 t);
}

sorted_distinct : (l : List ℕ) → Sorted l → Distinct l
sorted_distinct [] s = tt
sorted_distinct (x ∷ l) s = (absent l x (λ h. let less : x < x = s.0 x h in omega arith), sorted_distinct l s.1)

pub rising_distinct : (t : ℕ → Bool) (l : List ℕ) → RisingList t l → Distinct l
rising_distinct t l r = sorted_distinct l (rises_sorted l r.rises)

-- ---- one rising list

-- the first of a sorted list is not below the first of another that has it
not_below : (x y : ℕ) (k : List ℕ) → Sorted (y ∷ k) → has (y ∷ k) x ≡ true → x < y → ⊥
not_below x y k s h l = ⊎_elim (λ (e : x ≡ y). omega arith) (λ q. let less : y < x = s.0 x q in omega arith) (has_cases y k x h)

-- what is in the rest of one list is in the rest of the other
in_rest : (x y : ℕ) (l k : List ℕ) → x ≡ y → Sorted (x ∷ l) → (z : ℕ) → has (x ∷ l) z ≡ has (y ∷ k) z → has l z ≡ true → has k z ≡ true
in_rest x y l k e s z same h =
    ⊎_elim
    (λ (q : z ≡ y). absurd (let less : x < z = s.0 z h in omega arith))
    (λ q. q)
    (has_cases y k z (sym same ∙ has_more x l z h))

sorted_unique : (l k : List ℕ) → Sorted l → Sorted k → ((z : ℕ) → has l z ≡ has k z) → l ≡ k
sorted_unique [] [] s t same = refl
sorted_unique [] (y ∷ k) s t same = absurd (false≢true (same y ∙ has_head y k))
sorted_unique (x ∷ l) [] s t same = absurd (false≢true (sym (same x) ∙ has_head x l))
sorted_unique (x ∷ l) (y ∷ k) s t same =
    let first : x ≡ y =
    ⊎_elim
    (λ e. e)
    (⊎_elim
    (λ low. absurd (not_below x y k t (sym (same x) ∙ has_head x l) low))
    (λ low. absurd (not_below y x l s (same y ∙ has_head y k) low)))
    (cases_order x y) in
    ap₂ ◌∷◌ first
    (sorted_unique l k s.1 t.1 (λ z. same_test (has l z) (has k z) (in_rest x y l k first s z (same z)) (in_rest y x k l (sym first) t z (sym (same z)))))

pub rising_unique : (t : ℕ → Bool) (l k : List ℕ) → RisingList t l → RisingList t k → l ≡ k
rising_unique t l k r s = sorted_unique l k (rises_sorted l r.rises) (rises_sorted k s.rises) (λ z. r.only z ∙ sym (s.only z))
