-- How many tables a set has: as many as its number has ones.
--
--   counted_first   numbers that pass a test, the first of them counted apart
--   bits_counted    the bits of a number of so many digits, counted
--   bits_are        the ones of a word are the tables of the set
use Rattle.std.proofs.Common.{◌≡◌, ℕ, zero, suc, ◌+◌, ◌/◌, ◌%◌, ◌^◌, ◌<◌, Bool, cond, eqb, refl, mod-lt, zero-lt-suc, pow-suc, sym, ap, ◌∙◌, arith}
use lib.Count.{ones, ones_step}
use Rattle.std.proofs.lemmas.Bool.Decides.{nat_tests}
use Rattle.theory.specs.Graph.{count}
use Rattle.theory.proofs.Sizes.{count_same}
use Rattle.sets.specs.Set.{bit, bits_set}
use Rattle.sets.proofs.Bit.{shr_bit}

abbrev digit : Bool → ℕ
digit b = cond b 1 0

last_same : (p : ℕ → Bool) (n : ℕ) → digit (p (suc n)) ≡ digit (p (1 + n))
last_same p n = let e : suc n ≡ 1 + n = omega arith in ap (λ (k : ℕ). digit (p k)) e

counted_first : (p : ℕ → Bool) (n : ℕ) → count p (suc n) ≡ digit (p 0) + count (λ k. p (1 + k)) n
counted_first p zero = omega arith
counted_first p (suc n) =
    let ih : count p (suc n) ≡ digit (p 0) + count (λ k. p (1 + k)) n = counted_first p n in
    let last : digit (p (suc n)) ≡ digit (p (1 + n)) = last_same p n in
    omega arith

lowest_one : (d : ℕ) → d < 2 → digit (eqb d 1) ≡ d
lowest_one d h = grind (arith, nat_tests)

-- the bits of a number halved are its other bits
halved_bit : (x k : ℕ) → bit x (1 + k) ≡ bit (x / 2) k
halved_bit x k = sym (shr_bit x 1 k)

no_ones : ones 0 ≡ 0
unfolding ones
no_ones = refl

pub bits_counted : (k x : ℕ) → x < 2 ^ k → ones x ≡ count (bit x) k
bits_counted zero x h = let e : x ≡ 0 = omega arith in ap ones e ∙ no_ones
bits_counted (suc k) x h =
    let rest : ones (x / 2) ≡ count (bit (x / 2)) k = bits_counted k (x / 2) (omega (arith, pow-suc 2 k)) in
    let others : count (bit (x / 2)) k ≡ count (λ j. bit x (1 + j)) k = count_same (bit (x / 2)) (λ j. bit x (1 + j)) k (λ j _. sym (halved_bit x j)) in
    let whole : x / 1 ≡ x = omega arith in
    let first : digit (bit x 0) ≡ x % 2 = ap (λ (v : ℕ). digit (eqb (v % 2) 1)) whole ∙ lowest_one (x % 2) (mod-lt x (zero-lt-suc 1)) in
    let all : count (bit x) (suc k) ≡ digit (bit x 0) + count (λ j. bit x (1 + j)) k = counted_first (bit x) k in
    let step : ones x ≡ x % 2 + ones (x / 2) = ones_step x in
    omega arith

pub bits_are : (x : ℕ) → x < 2 ^ 64 → ones x ≡ bits_set x
unfolding bits_set
bits_are x h = bits_counted 64 x h
