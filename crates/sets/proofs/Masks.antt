-- The tables of a mask, taken from it one after another, the lowest first.
--
--   passing_agree, passing_none, passing_lowest
--                              the enumeration depends on the tests in its span alone; it is empty where none passes; the lowest comes first
--   no_table, first_below, has_tables
--                              the mask 0 has no table; the first table of another is below 64; a mask has the tables of its bits
--   lowest_taken, none_first, first_taken
--                              the trailing zeros of a mask count up to its lowest table, which `&` with the mask before it takes out
use Rattle.std.proofs.Common.{◌≡◌, ℕ, zero, suc, ◌+◌, ◌-◌, ◌^◌, ◌<◌, ◌≤◌, Bool, true, false, eqb, List, [], ◌∷◌, Some, None, sym, refl, ap, ◌∙◌, ⊎_elim, arith}
use mathlib.Core.Path.{fun_ext}
use lib.Bits.{bit_and, bit_xor}
use lib.Count.{count_trailing_zeros}
use Rattle.std.proofs.lemmas.Bool.{cases_eq, cases_lt, eq-eqb, ne_eqb, false≢true}
use Rattle.std.proofs.lemmas.Bool.Decides.{nat_tests}
use Rattle.theory.specs.Graph.{Lowest}
use Rattle.sets.specs.Set.{bit}
use Rattle.std.proofs.lemmas.Nat.Bits.{bit_at_above}
use Rattle.sets.proofs.Bit.{zero_bit, xor_bit}
use Rattle.sets.proofs.Lowest.{lowest_below, lowest_bit}
use Rattle.disassembly.specs.Walks.{without}
use Rattle.disassembly.specs.Search.{has}
use Rattle.disassembly.specs.Disassembly.{passing_from, passing}
use Rattle.disassembly.proofs.Members.{has_head}
use Rattle.disassembly.proofs.Passing.{passing_passes, passing_rising}
use Rattle.sets.specs.Set.{lowest_in, tables_of}
use Rattle.sets.proofs.Cleared.{lowest_cleared}

-- ---- the enumeration

passing_agree : (k n : ℕ) (p q : ℕ → Bool) → ((x : ℕ) → k ≤ x → p x ≡ q x) → passing_from k n p ≡ passing_from k n q
passing_agree k zero p q same = refl
passing_agree k (suc n) p q same =
    let here : p k ≡ q k = same k (omega arith) in
    let ih : passing_from (k + 1) n p ≡ passing_from (k + 1) n q = passing_agree (k + 1) n p q (λ x l. same x (omega arith)) in
    rw (here, ih) refl

passing_none : (k n : ℕ) (p : ℕ → Bool) → ((x : ℕ) → p x ≡ false) → passing_from k n p ≡ []
passing_none k zero p none = refl
passing_none k (suc n) p none = let here : p k ≡ false = none k in rw here (passing_none (k + 1) n p none)

passing_lowest : (k n : ℕ) (p : ℕ → Bool) (t : ℕ) → Lowest p k t → t < k + n → passing_from k n p ≡ t ∷ passing_from k n (without t p)
passing_lowest k zero p t low l = absurd (omega (arith, low.above))
passing_lowest k (suc n) p t low l =
    ⊎_elim
    (λ (e : k ≡ t).
    let here : p k ≡ true = ap p e ∙ low.holds in
    let same : eqb t k ≡ true = eq-eqb t k (sym e) in
    rw (here, same)
    (ap (λ x. x ∷ passing_from (k + 1) n p) e
    ∙ ap (λ l. t ∷ l) (passing_agree (k + 1) n p (without t p) (λ x h. let ne : t ≡ x → ⊥ = omega arith in grind (arith, nat_tests)))))
    (λ (ne : k ≡ t → ⊥).
    let a : k ≤ t = low.above in
    let here : p k ≡ false = low.none k (omega arith) (omega arith) in
    let apart : eqb t k ≡ false = ne_eqb t k (λ e. ne (sym e)) in
    let later : Lowest p (k + 1) t = record { holds = low.holds; above = omega arith; none = λ j b. low.none j (omega arith) } in
    rw (here, apart) (passing_lowest (k + 1) n p t later (omega arith)))
    (cases_eq k t)

-- what comes first lies in the span
passing_first : (k n : ℕ) (p : ℕ → Bool) (x : ℕ) (l : List ℕ) → passing_from k n p ≡ x ∷ l → x < k + n
passing_first k n p x l e = (passing_passes k n p x (ap (λ r. has r x) e ∙ has_head x l)).2

-- ---- masks

pub no_table : (m : ℕ) → m ≡ 0 → tables_of m ≡ []
unfolding tables_of
no_table m e = passing_none 0 64 (bit m) (λ x. ap (λ v. bit v x) e ∙ zero_bit x)

pub first_below : (m x : ℕ) (l : List ℕ) → tables_of m ≡ x ∷ l → x < 64
unfolding tables_of
first_below m x l e = passing_first 0 64 (bit m) x l e

pub has_tables : (m : ℕ) → m < 18446744073709551616 → (x : ℕ) → has (tables_of m) x ≡ bit m x
unfolding tables_of
has_tables m low = (passing_rising (bit m) below).only
  where
    below : (x : ℕ) → bit m x ≡ true → x < 64
    below x h = ⊎_elim (λ l. l) (λ (l : 64 ≤ x). absurd (false≢true (sym (ap (λ d. eqb d 1) (bit_at_above m 64 x low l)) ∙ h))) (cases_lt x 64)

module _ (m : ℕ) (low : m < 18446744073709551616) (some : m ≡ 0 → ⊥) where
  lowest : Lowest (bit m) 0 (count_trailing_zeros 64 m)
  lowest = lowest_bit m low (omega arith)

  -- without its lowest table, as the code computes it
  past_lowest : bit_and m (m - 1) ≡ bit_xor m (2 ^ count_trailing_zeros 64 m)
  past_lowest = lowest_cleared 64 m low (omega arith)

  lowest_out : (k : ℕ) → bit (bit_and m (m - 1)) k ≡ without (count_trailing_zeros 64 m) (bit m) k
  lowest_out k = ap (λ v. bit v k) past_lowest ∙ xor_bit m (count_trailing_zeros 64 m) lowest.holds k

  pub lowest_taken : tables_of m ≡ count_trailing_zeros 64 m ∷ tables_of (bit_and m (m - 1))
  unfolding tables_of
  lowest_taken =
      passing_lowest 0 64 (bit m) (count_trailing_zeros 64 m) lowest (lowest_below m low (omega arith))
      ∙ ap (λ p. count_trailing_zeros 64 m ∷ passing p) (sym (fun_ext lowest_out))

-- the same, by what the lowest table is told to be
pub none_first : (m : ℕ) → None ≡ lowest_in m → tables_of m ≡ []
none_first m is = no_table m (nought is)
  where
    nought : None ≡ lowest_in m → m ≡ 0
    nought is = grind (arith, nat_tests)

pub first_taken : (m k : ℕ) → m < 18446744073709551616 → Some k ≡ lowest_in m → tables_of m ≡ k ∷ tables_of (bit_and m (m - 1))
first_taken m k low is = rw (told is) (lowest_taken m low (some is))
  where
    told : Some k ≡ lowest_in m → k ≡ count_trailing_zeros 64 m
    told is = grind (arith, nat_tests)

    some : Some k ≡ lowest_in m → m ≡ 0 → ⊥
    some is e = grind (arith, nat_tests)
