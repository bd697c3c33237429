-- How many tables are in sets, and sets without a common table.
--
--   taken_fewer, set_most    how many tables are in a set, where one is taken out, and at most
--   apart_none, none_apart   no number passes two tests that are apart, and the other way round
--   both_empty               a set of the tables that pass two tests is empty where these are apart
use Rattle.std.proofs.Common.{◌≡◌, ℕ, zero, suc, ◌+◌, ◌^◌, ◌<◌, ◌≤◌, Bool, true, false, cond, not, ◌&&◌, eqb, sym, ap, ◌∙◌, refl, ⊎_elim, arith}
use Rattle.std.specs.Cmp.{both_ways as same_test}
use Rattle.std.proofs.lemmas.Bool.{cases_lt, cases_eq, eq-eqb, eqb-true}
use Rattle.std.proofs.lemmas.Bool.Decides.{nat_tests}
use Rattle.theory.specs.Graph.{count}
use Rattle.theory.proofs.Sizes.{count_le, count_one}
use Rattle.sets.specs.Set.{bit, bits_set}
use Rattle.sets.proofs.Bit.{zero_bit, none_above}
use Rattle.sets.proofs.Lowest.{no_bits}
use Rattle.traversal.specs.Sets.{apart}

fewer_below : (n x y u : ℕ) → u < n → bit x u ≡ true → ((k : ℕ) → bit y k ≡ (not (eqb k u) && bit x k)) → count (bit x) n ≡ count (bit y) n + 1
fewer_below n x y u h held out = count_one (bit y) (bit x) u n h (out u ∙ (grind (arith, nat_tests))) held (λ k _ ne. out k ∙ (grind (arith, nat_tests)))

pub taken_fewer : (x y u : ℕ) → u < 64 → bit x u ≡ true → ((k : ℕ) → bit y k ≡ (not (eqb k u) && bit x k)) → bits_set x ≡ bits_set y + 1
unfolding bits_set
taken_fewer x y u h held out = fewer_below 64 x y u h held out

pub set_most : (x : ℕ) → bits_set x ≤ 64
unfolding bits_set
set_most x = count_le (bit x) 64

-- ---- sets without a common table

none_counted : (p : ℕ → Bool) (n k : ℕ) → count p n ≡ 0 → k < n → p k ≡ false
none_counted p zero k e l = absurd (omega arith)
none_counted p (suc n) k e l = ⊎_elim
    (λ (q : k ≡ n). ap p q ∙ off (p n) (count p n) e)
    (λ (ne : k ≡ n → ⊥). none_counted p n k (omega arith) (omega arith))
    (cases_eq k n)
  where
    off : (c : Bool) (m : ℕ) → m + cond c 1 0 ≡ 0 → c ≡ false
    off c m h = grind (arith, nat_tests)

counted_none : (p : ℕ → Bool) (n : ℕ) → ((k : ℕ) → p k ≡ false) → count p n ≡ 0
counted_none p zero none = refl
counted_none p (suc n) none =
    let ih : count p n ≡ 0 = counted_none p n none in
    let here : p n ≡ false = none n in
    rw (ih, here) refl

test_none : (p : ℕ → Bool) (n k : ℕ) → eqb (count p n) 0 ≡ true → k < n → p k ≡ false
test_none p n k h l = none_counted p n k (eqb-true (count p n) 0 h) l

none_test : (p : ℕ → Bool) (n : ℕ) → ((k : ℕ) → p k ≡ false) → eqb (count p n) 0 ≡ true
none_test p n none = eq-eqb (count p n) 0 (counted_none p n none)

pub apart_none : (p q : ℕ → Bool) (k : ℕ) → apart p q ≡ true → k < 64 → (p k && q k) ≡ false
unfolding apart
apart_none p q k h l = test_none (λ j. p j && q j) 64 k h l

pub none_apart : (p q : ℕ → Bool) → ((k : ℕ) → (p k && q k) ≡ false) → apart p q ≡ true
unfolding apart
none_apart p q none = none_test (λ j. p j && q j) 64 none

pub both_empty : (m : ℕ) (p q : ℕ → Bool) → m < 2 ^ 64 → ((k : ℕ) → bit m k ≡ (p k && q k)) → eqb m 0 ≡ apart p q
both_empty m p q low both = same_test (eqb m 0) (apart p q)
    (λ h. none_apart p q (λ k. sym (both k) ∙ ap (λ v. bit v k) (eqb-true m 0 h) ∙ zero_bit k))
    (λ h. eq-eqb m 0 (no_bits m low (λ k. ⊎_elim
    (λ (l : k < 64). both k ∙ apart_none p q k h l)
    (λ (l : 64 ≤ k). none_above m k low l)
    (cases_lt k 64))))
