-- The readers of Read.antt one byte at a time: what each does at a byte, with the outcome of its tests given.
use Rattle.std.proofs.Common.{◌≡◌, ℕ, suc, ◌+◌, ◌-◌, ◌*◌, Bool, true, false, not, ◌&&◌, ◌||◌, eqb, List, Ok, Err, refl}
use Rattle.lines.specs.Read.{bad, byte, is_digit, digit_may, blank_may, number_from, signed, count_from, blank_from}

-- a digit of a row count: a zero may be the first digit only at the last place and with no sign before it
abbrev pub count_digit_may : ℕ → Bool → ℕ → ℕ → Bool
count_digit_may k neg v b = is_digit b && not (eqb v 0 && (eqb b 48 && (neg || not (eqb k 0))))

-- a blank of a row count: before the sign and the first digit
abbrev pub count_blank_may : ℕ → Bool → ℕ → ℕ → Bool
count_blank_may k neg v b = blank_may k v b && not neg

-- the minus sign: one, before the first digit, and not at the last place
abbrev pub sign_may : ℕ → Bool → ℕ → ℕ → Bool
sign_may k neg v b = eqb b 45 && (not neg && (eqb v 0 && not (eqb k 0)))

module _ (text : List ℕ) (i : ℕ) where
  -- no place is left
  pub number_done : (v : ℕ) → number_from text i 0 v ≡ Ok v
  unfolding number_from
  number_done v = refl

  -- a digit
  pub number_digit : (k v : ℕ) → digit_may k v (byte text i) ≡ true → number_from text i (suc k) v ≡ number_from text (i + 1) k (v * 10 + (byte text i - 48))
  unfolding number_from
  number_digit k v d = rw d

  -- a blank before the first digit
  pub number_blank : (k v : ℕ) → digit_may k v (byte text i) ≡ false → blank_may k v (byte text i) ≡ true → number_from text i (suc k) v ≡ number_from text (i + 1) k v
  unfolding number_from
  number_blank k v d b = rw (d, b)

  -- any other byte is refused at its place
  pub number_stop : (k v : ℕ) → digit_may k v (byte text i) ≡ false → blank_may k v (byte text i) ≡ false → number_from text i (suc k) v ≡ Err (bad i)
  unfolding number_from
  number_stop k v d b = rw (d, b)

  -- no place is left
  pub count_done : (neg : Bool) (v : ℕ) → count_from text i 0 neg v ≡ Ok (signed neg v)
  unfolding count_from
  count_done neg v = refl

  -- a digit
  pub count_digit : (k : ℕ) (neg : Bool) (v : ℕ) → count_digit_may k neg v (byte text i) ≡ true
      → count_from text i (suc k) neg v ≡ count_from text (i + 1) k neg (v * 10 + (byte text i - 48))
  unfolding count_from
  count_digit k neg v d = rw d

  -- a blank before the sign and the first digit
  pub count_blank : (k : ℕ) (neg : Bool) (v : ℕ) → count_digit_may k neg v (byte text i) ≡ false → count_blank_may k neg v (byte text i) ≡ true
      → count_from text i (suc k) neg v ≡ count_from text (i + 1) k false v
  unfolding count_from
  count_blank k neg v d b = rw (d, b)

  -- the minus sign
  pub count_sign : (k : ℕ) (neg : Bool) (v : ℕ) → count_digit_may k neg v (byte text i) ≡ false → count_blank_may k neg v (byte text i) ≡ false → sign_may k neg v (byte text i) ≡ true
      → count_from text i (suc k) neg v ≡ count_from text (i + 1) k true v
  unfolding count_from
  count_sign k neg v d b s = rw (d, b, s)

  -- any other byte is refused at its place
  pub count_stop : (k : ℕ) (neg : Bool) (v : ℕ) → count_digit_may k neg v (byte text i) ≡ false → count_blank_may k neg v (byte text i) ≡ false → sign_may k neg v (byte text i) ≡ false
      → count_from text i (suc k) neg v ≡ Err (bad i)
  unfolding count_from
  count_stop k neg v d b s = rw (d, b, s)

  -- no place is left
  pub blank_done : blank_from text i 0 ≡ Ok tt
  unfolding blank_from
  blank_done = refl

  -- a blank
  pub blank_more : (k : ℕ) → eqb (byte text i) 32 ≡ true → blank_from text i (suc k) ≡ blank_from text (i + 1) k
  unfolding blank_from
  blank_more k b = rw b

  -- any other byte is refused at its place
  pub blank_stop : (k : ℕ) → eqb (byte text i) 32 ≡ false → blank_from text i (suc k) ≡ Err (bad i)
  unfolding blank_from
  blank_stop k b = rw b
