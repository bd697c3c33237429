-- One bit of a number that is shifted, masked, or has bits put in or cleared.
--
--   zero_bit, shr_bit            no bit of 0; the bits of a number shifted down
--   and_bits, or_bits            the bits of both, and of either
--   none_above, bit_small        a word has 64 bits; a number of k digits has none from k on
--   xor_bit                      bit j, which is set, cleared
--   removed_bits                 the bits of one number and not of the other
--   single_bit, inserted_bits, cleared_bits
--                                one bit alone, as the code shifts it; put in; taken out
--   ones_bit, first_bits         2 ^ k - 1 has the first k bits; so has, shifted down, the number of 64 ones
use Rattle.std.proofs.Common.{◌≡◌, ℕ, zero, suc, ◌+◌, ◌-◌, ◌/◌, ◌%◌, ◌^◌, ◌<◌, ◌≤◌, min, max, Bool, true, false, cond, not, ◌&&◌, ◌||◌, eqb, ltb, sym, refl, ap, ◌∙◌, ⊎_elim, w64, arith}
use lib.Bits.{bit_and, bit_or, bit_xor}
use Rattle.std.specs.Int.{bit_at}
use Rattle.std.proofs.lemmas.Nat.{shr-shr, one_shl}
use Rattle.std.proofs.lemmas.Nat.Bits.{bit_at-zero, bit_at-lt, bit_at_and, bit_at_or, bit_at_xor, bit_at_not, bit_at_above, bit_at-pow_same, bit_at-pow_other, bit_at_ones, bit_at_ones_above}
use Rattle.std.proofs.lemmas.Bool.{cases_lt, cases_eq, ne_eqb, eq-eqb, eqb-true, false≢true}
use Rattle.std.proofs.lemmas.Bool.Decides.{nat_tests}
use Rattle.sets.specs.Set.{bit, one_bit}

pub zero_bit : (k : ℕ) → bit 0 k ≡ false
zero_bit k = ap (λ v. eqb v 1) (bit_at-zero k)

pub shr_bit : (x j k : ℕ) → bit (x / 2 ^ j) k ≡ bit x (j + k)
shr_bit x j k = ap (λ v. eqb (v % 2) 1) (shr-shr x j k)

-- 2 ^ j has bit j and no other
pow_digit : (j k : ℕ) → bit_at (2 ^ j) k ≡ cond (eqb j k) 1 0
pow_digit j k = ⊎_elim
    (λ (e : j ≡ k). ap (λ i. bit_at (2 ^ i) k) e ∙ bit_at-pow_same k ∙ sym (ap (λ c. cond c 1 0) (eq-eqb j k e)))
    (λ (ne : j ≡ k → ⊥). bit_at-pow_other j k (λ e. ne (sym e)) ∙ sym (ap (λ c. cond c 1 0) (ne_eqb j k ne)))
    (cases_eq j k)

pub and_bits : (x y k : ℕ) → bit (bit_and x y) k ≡ (bit x k && bit y k)
and_bits x y k = ap (λ v. eqb v 1) (bit_at_and x y k) ∙ both (bit_at x k) (bit_at y k) (bit_at-lt x k) (bit_at-lt y k)
  where
    both : (d e : ℕ) → d < 2 → e < 2 → eqb (min d e) 1 ≡ (eqb d 1 && eqb e 1)
    both d e h k = grind (arith, nat_tests)

pub or_bits : (x y k : ℕ) → bit (bit_or x y) k ≡ (bit x k || bit y k)
or_bits x y k = ap (λ v. eqb v 1) (bit_at_or x y k) ∙ either (bit_at x k) (bit_at y k) (bit_at-lt x k) (bit_at-lt y k)
  where
    either : (d e : ℕ) → d < 2 → e < 2 → eqb (max d e) 1 ≡ (eqb d 1 || eqb e 1)
    either d e h k = grind (arith, nat_tests)

pub none_above : (x k : ℕ) → x < 2 ^ 64 → 64 ≤ k → bit x k ≡ false
none_above x k h l = ap (λ v. eqb v 1) (bit_at_above x 64 k h l)

pub bit_small : (x k j : ℕ) → x < 2 ^ k → bit x j ≡ true → j < k
bit_small x k j h t =
    ⊎_elim (λ l. l)
    (λ (l : k ≤ j). absurd (false≢true (sym (ap (λ v. eqb v 1) (bit_at_above x k j h l)) ∙ t)))
    (cases_lt j k)

pub xor_bit : (x j : ℕ) → bit x j ≡ true → (k : ℕ) → bit (bit_xor x (2 ^ j)) k ≡ (not (eqb j k) && bit x k)
xor_bit x j held k =
    ap (λ v. eqb v 1) (bit_at_xor x (2 ^ j) k ∙ ap (λ v. (bit_at x k + v) % 2) (pow_digit j k))
    ∙ cleared (bit_at x k) (eqb j k) (bit_at-lt x k) (λ e. ap (bit_at x) (sym (eqb-true j k e)) ∙ eqb-true (bit_at x j) 1 held)
  where
    cleared : (d : ℕ) (c : Bool) → d < 2 → (c ≡ true → d ≡ 1) → eqb ((d + cond c 1 0) % 2) 1 ≡ (not c && eqb d 1)
    cleared d true h one = ap (λ v. eqb ((v + 1) % 2) 1) (one refl)
    cleared zero false h one = refl
    cleared (suc zero) false h one = refl
    cleared (suc (suc d)) false h one = absurd (omega arith)

pub single_bit : (u : ℕ) → u < 64 → (k : ℕ) → bit (one_bit u) k ≡ eqb k u
single_bit u h k = ap (λ v. bit v k) (one_shl u 64 h) ∙ ⊎_elim
    (λ (e : k ≡ u). ap (λ i. bit (2 ^ u) i) e ∙ ap (λ v. eqb v 1) (bit_at-pow_same u) ∙ sym (eq-eqb k u e))
    (λ (ne : k ≡ u → ⊥). ap (λ v. eqb v 1) (bit_at-pow_other u k ne) ∙ sym (ne_eqb k u ne))
    (cases_eq k u)

-- what is left of the first 64 bits
rest_bit : (d x : ℕ) → d < 2 ^ 64 → x < 64 → bit (18446744073709551615 - d) x ≡ not (bit d x)
rest_bit d x low l = ap (λ v. eqb v 1) (bit_at_not w64 d x low l) ∙ other (bit_at d x) (bit_at-lt d x)
  where
    other : (v : ℕ) → v < 2 → eqb (1 - v) 1 ≡ not (eqb v 1)
    other v h = grind (arith, nat_tests)

pub removed_bits : (m d : ℕ) → m < 2 ^ 64 → d < 2 ^ 64 → (x : ℕ) → bit (bit_and m (18446744073709551615 - d)) x ≡ (bit m x && not (bit d x))
removed_bits m d high low x =
    and_bits m (18446744073709551615 - d) x ∙ ⊎_elim
    (λ (l : x < 64). let rest = rest_bit d x low l in grind (arith, nat_tests))
    (λ (l : 64 ≤ x). let none = none_above m x high l in grind (arith, nat_tests))
    (cases_lt x 64)

-- d is the bit of u, or nothing where u is no bit
module _ (m d u : ℕ) (one : (x : ℕ) → bit d x ≡ (eqb x u && ltb x 64)) where
  pub inserted_bits : (x : ℕ) → bit (bit_or m d) x ≡ ((eqb x u && ltb x 64) || bit m x)
  inserted_bits x = or_bits m d x ∙ ap (λ (b : Bool). bit m x || b) (one x) ∙ flip (bit m x) (eqb x u && ltb x 64)
    where
      flip : (a b : Bool) → (a || b) ≡ (b || a)
      flip a b = grind (arith, nat_tests)

  pub cleared_bits : m < 2 ^ 64 → d < 2 ^ 64 → (x : ℕ) → bit (bit_and m (18446744073709551615 - d)) x ≡ (not (eqb x u) && bit m x)
  cleared_bits high low x =
      removed_bits m d high low x ∙ ⊎_elim
      (λ (l : x < 64). let here = one x in grind (arith, nat_tests))
      (λ (l : 64 ≤ x). let none = none_above m x high l in grind (arith, nat_tests))
      (cases_lt x 64)

pub ones_bit : (k j : ℕ) → bit (2 ^ k - 1) j ≡ ltb j k
ones_bit k j = ⊎_elim
    (λ (l : j < k). ap (λ v. eqb v 1) (bit_at_ones k j l) ∙ (grind (arith, nat_tests)))
    (λ (l : k ≤ j). ap (λ v. eqb v 1) (bit_at_ones_above k j l) ∙ (grind (arith, nat_tests)))
    (cases_lt j k)

high_end : (n k x : ℕ) → k ≡ 64 - n → 1 ≤ n → ltb (k + x) 64 ≡ (ltb x n && ltb x 64)
high_end n k x e some = grind (arith, nat_tests)

pub first_bits : (n k : ℕ) → k ≡ 64 - n → 1 ≤ n → (x : ℕ) → bit (18446744073709551615 / 2 ^ k) x ≡ (ltb x n && ltb x 64)
first_bits n k e some x = shr_bit 18446744073709551615 k x ∙ ones_bit 64 (k + x) ∙ high_end n k x e some
