-- The number of trailing zeros is the lowest bit that is set; so, after a shift, the lowest that is not below a bound.
--
--   lowest_below, lowest_bit       of a number of 64 digits that is not 0: the count is below 64, and it is the lowest bit
--   none_below, set_at             of any number and any bound k: below the count no bit is set; at it one is, unless it is all k
--   no_bits                        a number without bits is 0
--   no_high, lowest_high           the bits of x not below bound: none where x shifted down is 0, else the lowest
use Rattle.std.proofs.Common.{◌≡◌, ℕ, zero, suc, ◌+◌, ◌-◌, ◌/◌, ◌%◌, ◌^◌, ◌<◌, ◌≤◌, true, false, eqb, sym, refl, ap, ◌∙◌, ⊎_elim, div-one, w64, arith}
use lib.Count.{count_trailing_zeros, under}
use Rattle.std.proofs.lemmas.Nat.Bits.{bit_at-trailing_zeros}
use Rattle.std.proofs.lemmas.Bool.{cases_lt, false≢true}
use Rattle.theory.specs.Graph.{Lowest}
use Rattle.sets.specs.Set.{bit}
use Rattle.sets.proofs.Bit.{zero_bit, shr_bit}

pub lowest_below : (x : ℕ) → x < 2 ^ 64 → 0 < x → count_trailing_zeros 64 x < 64
lowest_below x low some = (bit_at-trailing_zeros w64 x some low).0

pub lowest_bit : (x : ℕ) → x < 2 ^ 64 → 0 < x → Lowest (bit x) 0 (count_trailing_zeros 64 x)
lowest_bit x low some =
    let parts = bit_at-trailing_zeros w64 x some low in
    record {
      holds = ap (λ v. eqb v 1) parts.1;
      above = omega arith;
      none = λ j _ l. ap (λ v. eqb v 1) (parts.2 j l);
    }

-- the lowest bit of x, and the others, which are those of x / 2
bit_first : (x d : ℕ) → x % 2 ≡ d → bit x 0 ≡ eqb d 1
bit_first x d e = ap (λ v. eqb (v % 2) 1) (div-one x) ∙ ap (λ v. eqb v 1) e

bit_later : (x k : ℕ) → bit (x / 2) k ≡ bit x (suc k)
bit_later x k = let e : 1 + k ≡ suc k = omega arith in shr_bit x 1 k ∙ ap (bit x) e

-- each step is on one digit d of x, from what is known of the others
below_step : (k x d j : ℕ) → x % 2 ≡ d → ((i : ℕ) → i < count_trailing_zeros k (x / 2) → bit (x / 2) i ≡ false) → j < under d (count_trailing_zeros k (x / 2)) → bit x j ≡ false
below_step k x zero zero e rest l = bit_first x 0 e
below_step k x zero (suc j) e rest l = sym (bit_later x j) ∙ rest j (omega arith)
below_step k x (suc d) j e rest l = absurd (omega arith)

pub none_below : (k x j : ℕ) → j < count_trailing_zeros k x → bit x j ≡ false
unfolding count_trailing_zeros
none_below zero x j h = absurd (omega arith)
none_below (suc k) x j h = below_step k x (x % 2) j refl (λ i l. none_below k (x / 2) i l) h

at_step : (k x d : ℕ) → x % 2 ≡ d → (count_trailing_zeros k (x / 2) < k → bit (x / 2) (count_trailing_zeros k (x / 2)) ≡ true) → under d (count_trailing_zeros k (x / 2)) < suc k
    → bit x (under d (count_trailing_zeros k (x / 2))) ≡ true
at_step k x zero e rest l = sym (bit_later x (count_trailing_zeros k (x / 2))) ∙ rest (omega arith)
at_step k x (suc d) e rest l = let one : x % 2 ≡ 1 = omega arith in bit_first x 1 one

pub set_at : (k x : ℕ) → count_trailing_zeros k x < k → bit x (count_trailing_zeros k x) ≡ true
unfolding count_trailing_zeros
set_at zero x h = absurd (omega arith)
set_at (suc k) x h = at_step k x (x % 2) refl (λ l. set_at k (x / 2) l) h

pub no_bits : (x : ℕ) → x < 2 ^ 64 → ((k : ℕ) → bit x k ≡ false) → x ≡ 0
no_bits x h none = ⊎_elim
    (λ (some : 0 < x). absurd (false≢true (sym (none (count_trailing_zeros 64 x)) ∙ (lowest_bit x h some).holds)))
    (λ (nought : x ≤ 0). omega arith)
    (cases_lt 0 x)

-- a bit of x not below bound is a bit of x shifted down
high_bit : (x bound j : ℕ) → bound ≤ j → bit x j ≡ bit (x / 2 ^ bound) (j - bound)
high_bit x bound j h = let e : j ≡ bound + (j - bound) = omega arith in ap (bit x) e ∙ sym (shr_bit x bound (j - bound))

pub no_high : (x bound : ℕ) → x / 2 ^ bound ≡ 0 → (j : ℕ) → bound ≤ j → bit x j ≡ false
no_high x bound e j h = high_bit x bound j h ∙ ap (λ v. bit v (j - bound)) e ∙ zero_bit (j - bound)

pub lowest_high : (x bound : ℕ) → x / 2 ^ bound < 2 ^ 64 → 0 < x / 2 ^ bound → Lowest (bit x) bound (bound + count_trailing_zeros 64 (x / 2 ^ bound))
lowest_high x bound low some =
    let high = x / 2 ^ bound in
    let lowest = lowest_bit high low some in
    record {
      holds = sym (shr_bit x bound (count_trailing_zeros 64 high)) ∙ lowest.holds;
      above = omega arith;
      none = λ j h l. high_bit x bound j h ∙ lowest.none (j - bound) (omega arith) (omega arith);
    }
