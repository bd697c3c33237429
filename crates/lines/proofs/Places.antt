-- The places of a decimal number, by what is left of it from a place up: the byte at a place, and what a byte there tells.
--
--   q is v / 10 ^ k, so that v / 10 ^ suc k is q / 10
use Rattle.std.proofs.Common.{◌≡◌, ℕ, zero, suc, pred, ◌+◌, ◌-◌, ◌*◌, ◌/◌, ◌%◌, ◌^◌, ◌<◌, ◌≤◌, Bool, true, false, cond, not, ◌&&◌, eqb, ◌⊎◌, ◌↔◌, sym, refl, ap, ◌∙◌, inl, inr, pow-suc, div-one, arith}
use native.Mathlib.Nat.{div-div-eq-div-mul, mul-div_left}
use Rattle.std.proofs.lemmas.Bool.Decides.{nat_tests}
use Rattle.lines.specs.Read.{digit_may, blank_may}
use Rattle.lines.proofs.Steps.{count_digit_may, count_blank_may, sign_may}

-- one place up
pub place_up : (v k : ℕ) → v / 10 ^ suc k ≡ v / 10 ^ k / 10
place_up v k = ap (λ m. v / m) (pow-suc 10 k) ∙ sym (div-div-eq-div-mul v (10 ^ k) 10)

-- a power of ten is not 0
pub ten_pos : (k : ℕ) → 0 < 10 ^ k
ten_pos zero = omega arith
ten_pos (suc k) = let h = ten_pos k in let e = pow-suc 10 k in omega arith

-- some number has any value from a place up
pub some_place : (k value : ℕ) → value * 10 ^ k / 10 ^ k ≡ value
some_place k value = mul-div_left value (ten_pos k)

-- the byte at the place of 10 ^ k
abbrev pub place : ℕ → ℕ → ℕ
place k q = cond (eqb q 0 && not (eqb k 0)) 32 (48 + q % 10)

-- a digit gives the value one place on
pub digit_tells : (k value b q : ℕ) → digit_may k value b ≡ true → ((q / 10 ≡ value) × (place k q ≡ b)) ↔ (q ≡ value * 10 + (b - 48))
digit_tells k value b q d = (λ h. grind (arith, nat_tests), λ h. grind (arith, nat_tests))

-- a blank leaves the value as it is
pub blank_tells : (k value b q : ℕ) → blank_may k value b ≡ true → ((q / 10 ≡ value) × (place k q ≡ b)) ↔ (q ≡ value)
blank_tells k value b q d = (λ h. grind (arith, nat_tests), λ h. grind (arith, nat_tests))

-- no number has any other byte there
pub none_tells : (k value b q : ℕ) → digit_may k value b ≡ false → blank_may k value b ≡ false → q / 10 ≡ value → place k q ≡ b → ⊥
none_tells k value b q d n e h = grind (arith, nat_tests)

-- below zero: q' is v / 10 ^ pred k, for the place after
abbrev pub Next : ℕ → ℕ → ℕ → Type 0
Next k q q' = ((k ≡ 0) × (1 ≤ q) × (q' ≡ q)) ⊎ ((1 ≤ k) × (q' / 10 ≡ q))

-- so it is of any number below zero
pub next : (n k : ℕ) → Next k (suc n / 10 ^ k) (suc n / 10 ^ pred k)
next n zero = let e = div-one (suc n) in inl (refl, omega arith, refl)
next n (suc k) = inr (omega arith, sym (place_up (suc n) k))

-- the byte at a place, where the number is below zero
abbrev pub below : ℕ → ℕ → ℕ → ℕ
below k q q' = cond (eqb q 0 && not (eqb q' 0)) 45 (place k q)

module _ (k : ℕ) (neg : Bool) (value b : ℕ) where
  -- what is known of a row count before a place, if it is not below zero, and if it is; q is from that place up
  abbrev WasAbove : ℕ → Type 0
  WasAbove q = ((neg ≡ false) × (q / 10 ≡ value)) × (place k q ≡ b)

  abbrev WasBelow : ℕ → ℕ → Type 0
  WasBelow q q' = ((q / 10 ≡ value) × (neg ≡ not (eqb q 0))) × (below k q q' ≡ b)

  -- and after it
  abbrev Above : Bool → ℕ → ℕ → Type 0
  Above s more q = (s ≡ false) × (q ≡ more)

  abbrev Below : Bool → ℕ → ℕ → ℕ → Type 0
  Below s more q q' = (q ≡ more) × (s ≡ not (eqb q' 0))

  -- a digit
  pub count_digit_above : count_digit_may k neg value b ≡ true → (q : ℕ) → WasAbove q ↔ Above neg (value * 10 + (b - 48)) q
  count_digit_above d q = (λ h. grind (arith, nat_tests), λ h. grind (arith, nat_tests))

  pub count_digit_below : count_digit_may k neg value b ≡ true → (q q' : ℕ) → Next k q q' → WasBelow q q' ↔ Below neg (value * 10 + (b - 48)) q q'
  count_digit_below d q q' n = (λ h. grind (arith, nat_tests), λ h. grind (arith, nat_tests))

  -- a blank
  pub count_blank_above : count_blank_may k neg value b ≡ true → (q : ℕ) → WasAbove q ↔ Above false value q
  count_blank_above d q = (λ h. grind (arith, nat_tests), λ h. grind (arith, nat_tests))

  pub count_blank_below : count_blank_may k neg value b ≡ true → (q q' : ℕ) → Next k q q' → WasBelow q q' ↔ Below false value q q'
  count_blank_below d q q' n = (λ h. grind (arith, nat_tests), λ h. grind (arith, nat_tests))

  -- the minus sign
  pub sign_above : sign_may k neg value b ≡ true → (q : ℕ) → WasAbove q ↔ Above true value q
  sign_above d q = (λ h. grind (arith, nat_tests), λ h. grind (arith, nat_tests))

  pub sign_below : sign_may k neg value b ≡ true → (q q' : ℕ) → Next k q q' → WasBelow q q' ↔ Below true value q q'
  sign_below d q q' n = (λ h. grind (arith, nat_tests), λ h. grind (arith, nat_tests))

  module _ (d : count_digit_may k neg value b ≡ false) (n : count_blank_may k neg value b ≡ false) (s : sign_may k neg value b ≡ false) where
    -- no row count has any other byte there
    pub none_above : (q : ℕ) → WasAbove q → ⊥
    none_above q h = grind (arith, nat_tests)

    pub none_below : (q q' : ℕ) → Next k q q' → WasBelow q q' → ⊥
    none_below q q' x h = grind (arith, nat_tests)
