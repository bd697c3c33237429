-- The best of the driving tables, found from the lowest on.
--
--   Ahead c a d y   the table a of count c is picked before the table y of count d, or is that table
--   Best p o a k    a drives, below k, and is picked before each other table that does
--   Found p o r k   the answer r of the search below k: the best of the driving tables, or none where none drives
--   found           what the search finds
--   picks_found     that is the pick
--   picks_one       there is no other
use Rattle.std.proofs.Common.{◌≡◌, ℕ, zero, suc, ◌+◌, ◌<◌, ◌≤◌, Bool, true, false, cond, ltb, ◌⊎◌, inl, inr, List, ◌∷◌, Some, None, Option, sym, refl, ap, ◌∙◌, subst, ⊎_elim, slice_index_or, arith}
use Rattle.std.proofs.lemmas.Bool.{cases_lt, cond_both, ltb-true, ltb-false, lt-ltb, true≢false, false≢true, and_parts, and_from, both_ways}
use Rattle.std.proofs.lemmas.Option.{none-some}
use Rattle.std.specs.List.{filter, range_with_len, fold, reduce}
use Rattle.catalogue.specs.Rows.{count_of}
use Rattle.catalogue.specs.declared.catalogue.RowRecord.{RowRecord}
use Rattle.reports.specs.Pick.{silent, drives_in, LowestCount, LowestTable, Picks, is_lower, picked}
use Rattle.reports.specs.declared.record.ReportRecord.{ReportRecord}

-- ---- two tables

-- a lower count goes first, and of equal counts the lower table
abbrev pub Ahead : Option ℕ → ℕ → Option ℕ → ℕ → Type 0
Ahead (Some c) a (Some d) y = (c < d) ⊎ ((c ≡ d) × (a ≤ y))
Ahead (Some c) a None y = Unit {0}
Ahead None a (Some d) y = ⊥
Ahead None a None y = a ≤ y

itself : (c : Option ℕ) (a : ℕ) → Ahead c a c a
itself (Some c) a = inr (refl, omega arith)
itself None a = omega arith

-- no lower count: the lower table stays
stays : (c d : Option ℕ) (a x : ℕ) → is_lower d c ≡ false → a ≤ x → Ahead c a d x
stays (Some c) (Some d) a x e h =
    let most : c ≤ d = ltb-false d c e in
    ⊎_elim (λ (l : c < d). inl l) (λ (l : d ≤ c). inr (omega arith, h)) (cases_lt c d)
stays (Some c) None a x e h = tt
stays None (Some d) a x e h = absurd (true≢false e)
stays None None a x e h = h

-- a lower count goes before all that the other went before
passes : (c d e : Option ℕ) (a x y : ℕ) → is_lower d c ≡ true → Ahead c a e y → Ahead d x e y
passes c None e a x y l h = absurd (false≢true l)
passes (Some c) (Some d) (Some e) a x y l h =
    let less : d < c = ltb-true d c l in
    ⊎_elim (λ (k : c < e). inl (omega arith)) (λ (k : (c ≡ e) × (a ≤ y)). let same : c ≡ e = k.0 in inl (omega arith)) h
passes None (Some d) (Some e) a x y l h = absurd h
passes c (Some d) None a x y l h = tt

-- ---- the search

-- p says which tables drive, o has their counts
module _ (p : ℕ → Bool) (o : ℕ → Option ℕ) where
  pub record Best (a k : ℕ) : Type 0 where
    small : a < k
    drives : p a ≡ true
    ahead : (y : ℕ) → y < k → p y ≡ true → Ahead (o a) a (o y) y

  abbrev pub Found : Option ℕ → ℕ → Type 0
  Found (Some a) k = Best a k
  Found None k = (y : ℕ) → y < k → p y ≡ false

  -- of a driving table and a higher one the one to be picked
  abbrev of_two : ℕ → ℕ → ℕ
  of_two a b = cond (is_lower (o b) (o a)) b a

  -- what holds of each driving table below k, and of k, holds of each below k + 1
  one_more : (P : ℕ → Type 0) (k : ℕ) → ((y : ℕ) → y < k → P y) → P k → (y : ℕ) → y < k + 1 → P y
  one_more P k below this y h = ⊎_elim (λ (l : y < k). below y l) (λ (l : k ≤ y). let same : k ≡ y = omega arith in subst P same this) (cases_lt y k)

  goes_on : (a k : ℕ) → Best a k → p k ≡ true → Best (of_two a k) (k + 1)
  goes_on a k b t =
      cond_both (is_lower (o k) (o a)) k a (λ z. Best z (k + 1))
      (λ l. record {
        small = omega arith;
        drives = t;
        ahead = one_more (λ y. p y ≡ true → Ahead (o k) k (o y) y) k (λ y h d. passes (o a) (o k) (o y) a k y l (b.ahead y h d)) (λ d. itself (o k) k);
      })
      (λ l. record {
        small = let s = b.small in omega arith;
        drives = b.drives;
        ahead = one_more (λ y. p y ≡ true → Ahead (o a) a (o y) y) k b.ahead (λ d. stays (o a) (o k) a k l (let s = b.small in omega arith));
      })

  goes_by : (a k : ℕ) → Best a k → p k ≡ false → Best a (k + 1)
  goes_by a k b f =
      record {
        small = let s = b.small in omega arith;
        drives = b.drives;
        ahead = one_more (λ y. p y ≡ true → Ahead (o a) a (o y) y) k b.ahead (λ d. absurd (both_ways (p k) f d));
      }

  -- the driving ones of the n tables after k
  abbrev after : ℕ → ℕ → List ℕ
  after k n = filter p (range_with_len (k + 1) n)

  -- the table k is gone through, by whether it drives
  on_by : (n k a : ℕ) (t : Bool) → p k ≡ t → Best a k → ((z : ℕ) → Best z (k + 1) → Best (fold of_two z (after k n)) (k + suc n))
      → Best (fold of_two a (cond t (k ∷ after k n) (after k n))) (k + suc n)
  on_by n k a true t b on = on (of_two a k) (goes_on a k b t)
  on_by n k a false t b on = on a (goes_by a k b t)

  -- from the best below k on
  found_on : (n k a : ℕ) → Best a k → Best (fold of_two a (filter p (range_with_len k n))) (k + n)
  found_on zero k a b = subst (Best a) (omega arith) b
  found_on (suc n) k a b = on_by n k a (p k) refl b (λ z c. subst (Best (fold of_two z (after k n))) (omega arith) (found_on n (k + 1) z c))

  -- where none drives below k, the first that does is the best so far
  first : (k : ℕ) → Found None k → p k ≡ true → Best k (k + 1)
  first k none t =
      record {
        small = omega arith;
        drives = t;
        ahead = one_more (λ y. p y ≡ true → Ahead (o k) k (o y) y) k (λ y h d. absurd (both_ways (p y) (none y h) d)) (λ d. itself (o k) k);
      }

  found_by : (n k : ℕ) (t : Bool) → p k ≡ t → Found None k → (Found None (k + 1) → Found (reduce of_two (after k n)) (k + suc n))
      → Found (reduce of_two (cond t (k ∷ after k n) (after k n))) (k + suc n)
  found_by n k true t none on = subst (Best (fold of_two k (after k n))) (omega arith) (found_on n (k + 1) k (first k none t))
  found_by n k false t none on = on (one_more (λ y. p y ≡ false) k none t)

  pub found : (n k : ℕ) → Found None k → Found (reduce of_two (filter p (range_with_len k n))) (k + n)
  found zero k none = λ y h. none y (omega arith)
  found (suc n) k none = found_by n k (p k) refl none (λ h. subst (Found (reduce of_two (after k n))) (omega arith) (found n (k + 1) h))

-- ---- the pick

module _ (l : List ReportRecord) (rows : List RowRecord) where
  abbrev says : ℕ → Bool
  says x = (slice_index_or l x silent).drives

  -- a driving table is below 64, and its record says that it drives
  driven : (x : ℕ) → drives_in l x ≡ true → (x < 64) × (says x ≡ true)
  driven x t = let both = and_parts (ltb x 64) (says x) t in (ltb-true x 64 both.0, both.1)

  -- the best of all is the pick, by whether its count is known
  best_picked : (a : ℕ) → Best says (count_of rows) a 64 → LowestCount l rows a ⊎ LowestTable l rows a
  best_picked a b = by (count_of rows a) refl
    where
      drives-a : drives_in l a ≡ true
      drives-a = and_from (ltb a 64) (says a) (lt-ltb a 64 b.small) b.drives

      ahead-of : (c d : Option ℕ) (y : ℕ) → count_of rows a ≡ c → count_of rows y ≡ d → drives_in l y ≡ true → Ahead c a d y
      ahead-of c d y e k t =
          let h = driven y t in
          subst (λ v. Ahead v a d y) e (subst (λ v. Ahead (count_of rows a) a v y) k (b.ahead y h.0 h.1))

      lower : (y : ℕ) (d : Option ℕ) → count_of rows a ≡ None → count_of rows y ≡ d → drives_in l y ≡ true → (a ≤ y) × (d ≡ None)
      lower y None e k t = (ahead-of None None y e k t, refl)
      lower y (Some d) e k t = absurd (ahead-of None (Some d) y e k t)

      by : (c : Option ℕ) → count_of rows a ≡ c → LowestCount l rows a ⊎ LowestTable l rows a
      by (Some c) e = inl (c, (drives-a, e), λ y d k. ahead-of (Some c) (Some d) y e k.1 k.0)
      by None e =
          inr (
            drives-a,
            (λ y t. (lower y (count_of rows y) e refl t).0),
            (λ y c k. none-some c (sym (lower y (count_of rows y) e refl k.0).1 ∙ k.1)),
          )

  picks_of : (r : Option ℕ) → Found says (count_of rows) r 64 → Picks l rows r
  picks_of (Some a) b = best_picked a b
  picks_of None none = λ x. by x (drives_in l x) refl
    where
      by : (x : ℕ) (t : Bool) → drives_in l x ≡ t → drives_in l x ≡ false
      by x true t = let h = driven x t in absurd (both_ways (says x) (none x h.0) h.1)
      by x false t = t

  pub picks_found : Picks l rows (picked l rows)
  picks_found = picks_of (picked l rows) (found says (count_of rows) 64 0 (λ y h. absurd (omega arith)))

  -- ---- no other

  drives_of : (x : ℕ) → LowestCount l rows x ⊎ LowestTable l rows x → drives_in l x ≡ true
  drives_of x (inl k) = k.1.0
  drives_of x (inr k) = k.0

  both_picked : (x y : ℕ) → LowestCount l rows x ⊎ LowestTable l rows x → LowestCount l rows y ⊎ LowestTable l rows y → x ≡ y
  both_picked x y (inl h) (inl k) = by (h.2 y k.0 k.1) (k.2 x h.0 h.1)
    where
      by : (h.0 < k.0) ⊎ ((h.0 ≡ k.0) × (x ≤ y)) → (k.0 < h.0) ⊎ ((k.0 ≡ h.0) × (y ≤ x)) → x ≡ y
      by (inl a) (inl b) = absurd (omega arith)
      by (inl a) (inr b) = let same = b.0 in absurd (omega arith)
      by (inr a) (inl b) = let same = a.0 in absurd (omega arith)
      by (inr a) (inr b) = let left = a.1 in let right = b.1 in omega arith
  both_picked x y (inl h) (inr k) = absurd (k.2 x h.0 h.1)
  both_picked x y (inr h) (inl k) = absurd (h.2 y k.0 k.1)
  both_picked x y (inr h) (inr k) = let left : x ≤ y = h.1 y k.0 in let right : y ≤ x = k.1 x h.0 in omega arith

  pub picks_one : (o r : Option ℕ) → Picks l rows o → Picks l rows r → o ≡ r
  picks_one None None h k = refl
  picks_one None (Some y) h k = absurd (both_ways (drives_in l y) (h y) (drives_of y k))
  picks_one (Some x) None h k = absurd (both_ways (drives_in l x) (k x) (drives_of x h))
  picks_one (Some x) (Some y) h k = ap Some (both_picked x y h k)
