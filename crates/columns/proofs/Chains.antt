-- Reading a field place after place.
--
--   Reading           a field's reading: one place, and then the rest
--   kept, cut, over   what a field's reading amounts to after one more place, where that place is refused, and after the last
--   low, more         how large a number of k digits is
--   numbers, counts, blanks                  the readings of the three kinds of field
--   firsts, firsts_all                       that of the first five places of a row count, and that these are all of its places
--   marks_split                              the ten places of a row count are its first five and then its last five
--   last_kept, last_cut                      the last two places of a number
--   short_number, blank_marks, blank_field   a field whose first three, or all five, places are blank
use Rattle.std.proofs.Common.{◌≡◌, ℕ, zero, suc, ◌+◌, ◌-◌, ◌*◌, ◌^◌, ◌<◌, ◌≤◌, Bool, true, false, cond, not, ◌&&◌, ◌||◌, eqb, List, ℤ, Ok, Err, Result, sym, refl, ap, ◌∙◌, arith}
use native.Mathlib.Nat.{pow-le-pow_right}
use Rattle.std.proofs.lemmas.Grind.{pow_more}
use Rattle.std.proofs.lemmas.Bool.Decides.{nat_tests}
use Rattle.lines.specs.declared.line.BadByte.{BadByte}
use Rattle.lines.specs.Read.{bad, then, byte, is_digit, digit_may, blank_may, number_from, number_at, count_from, count_at, blank_from, unused_at}
use Rattle.lines.proofs.Steps.{number_blank, blank_more, blank_done}
use Rattle.columns.specs.Place.{place_at, mark_at, first_marks_at, marks_left, blank_at, Blank}

-- a field's reading from the place i on, where k more places are to come and s is what those before tell
pub record Reading (S X : Type 0) : Type 0 where
  pub from : ℕ → ℕ → S → Result X BadByte
  pub one : ℕ → ℕ → S → Result S BadByte
  pub step : (i j k : ℕ) (s : S) → j ≡ i + 1 → from i (suc k) s ≡ then (one i k s) (λ w. from j k w)

-- whole is the reading of m + 1 places from `at` on, and what s tells is known after k of them
module _ {S X : Type 0} (R : Reading S X) (at m : ℕ) (whole : Result X BadByte) (k : ℕ) (s : S)
    (so : whole ≡ R.from (at + k) (suc m - k) s) where
  -- the places after the next one
  abbrev after : S → Result X BadByte
  after w = R.from (at + (k + 1)) (suc m - (k + 1)) w

  next : k < suc m → whole ≡ then (R.one (at + k) (m - k) s) after
  next h =
      let e : suc m - k ≡ suc (m - k) = omega arith in
      let d : suc m - (k + 1) ≡ m - k = omega arith in
      let one : R.from (at + k) (suc m - k) s ≡ then (R.one (at + k) (m - k) s) (λ w. R.from (at + (k + 1)) (suc m - (k + 1)) w) =
      rw (e, d) (R.step (at + k) (at + (k + 1)) (m - k) s (omega arith)) in
      so ∙ one

  module _ (h : k < suc m) (r : Result S BadByte) (is : r ≡ R.one (at + k) (m - k) s) where
    pub kept : (w : S) → r ≡ Ok w → whole ≡ R.from (at + (k + 1)) (suc m - (k + 1)) w
    kept w e = next h ∙ ap (λ q. then q after) (sym is ∙ e)

    pub cut : (b : BadByte) → r ≡ Err b → whole ≡ Err b
    cut b e = next h ∙ ap (λ q. then q after) (sym is ∙ e)

  pub over : suc m ≤ k → whole ≡ R.from (at + k) 0 s
  over h = let e : suc m - k ≡ 0 = omega arith in so ∙ ap (λ n. R.from (at + k) n s) e

-- a number of k digits, and of one more
pub low : (k n v : ℕ) → k ≤ n → v < 10 ^ k → v < 10 ^ n
low k n v h l = let e : 10 ^ k ≤ 10 ^ n = pow-le-pow_right (omega arith) h in omega arith

pub more : (k v w : ℕ) → v < 10 ^ k → w ≤ v * 10 + 9 → w < 10 ^ (k + 1)
more k v w l h = let e = pow_more 10 k in omega arith

-- the value of the first test that holds goes on
way : {X Y : Type 0} (f : X → Result Y BadByte) (d : Bool) (x : X) (r : Result X BadByte) (q : Result Y BadByte) → q ≡ then r f
    → cond d (f x) q ≡ then (cond d (Ok x) r) f
way f true x r q e = refl
way f false x r q e = e

then_on : {X Y Z : Type 0} (r : Result X BadByte) (f : X → Result Y BadByte) (g : Y → Result Z BadByte)
    → then (then r f) g ≡ then r (λ x. then (f x) g)
then_on (Ok x) f g = refl
then_on (Err b) f g = refl

then_same : {X Y : Type 0} (r : Result X BadByte) (f g : X → Result Y BadByte) → ((x : X) → f x ≡ g x) → then r f ≡ then r g
then_same (Ok x) f g h = h x
then_same (Err b) f g h = refl

then_ok : {X : Type 0} (r : Result X BadByte) → then r Ok ≡ r
then_ok (Ok x) = refl
then_ok (Err b) = refl

module _ (text : List ℕ) where
  pub number_step : (i j k v : ℕ) → j ≡ i + 1
      → number_from text i (suc k) v ≡ then (place_at text i k v) (λ w. number_from text j k w)
  unfolding number_from
  number_step i j k v e =
      let b = byte text i in
      let on : ℕ → Result ℕ BadByte = λ w. number_from text (i + 1) k w in
      way on (digit_may k v b) (v * 10 + (b - 48)) _ _ (way on (blank_may k v b) v (Err (bad i)) _ refl)
      ∙ ap (λ n. then (place_at text i k v) (λ w. number_from text n k w)) (sym e)

  abbrev pub numbers : Reading ℕ ℕ
  numbers = record { from = number_from text; one = place_at text; step = number_step }

  -- the last two places of a number, by the answer of the first of them
  module _ (i : ℕ) (r : Result ℕ BadByte) (is : r ≡ place_at text (i + 3) 1 0) where
    last_two : number_from text (i + 3) 2 0 ≡ then r (λ w. number_from text (i + 4) 1 w)
    last_two = number_step (i + 3) (i + 4) 1 0 (omega arith) ∙ ap (λ q. then q (λ w. number_from text (i + 4) 1 w)) (sym is)

    pub last_kept : (w : ℕ) → r ≡ Ok w → number_from text (i + 3) 2 0 ≡ place_at text (i + 4) 0 w
    unfolding number_from
    last_kept w e = last_two ∙ ap (λ q. then q (λ w. number_from text (i + 4) 1 w)) e

    pub last_cut : (b : BadByte) → r ≡ Err b → number_from text (i + 3) 2 0 ≡ Err b
    last_cut b e = last_two ∙ ap (λ q. then q (λ w. number_from text (i + 4) 1 w)) e

  abbrev pub count_on : ℕ → ℕ → Bool × ℕ → Result ℤ BadByte
  count_on i k s = count_from text i k s.0 s.1

  pub count_step : (i j k : ℕ) (s : Bool × ℕ) → j ≡ i + 1
      → count_on i (suc k) s ≡ then (mark_at text i k s) (λ w. count_on j k w)
  unfolding count_from
  count_step i j k s e =
      let b = byte text i in
      let on : Bool × ℕ → Result ℤ BadByte = λ w. count_on (i + 1) k w in
      way on (is_digit b && not (eqb s.1 0 && (eqb b 48 && (s.0 || not (eqb k 0))))) (s.0, s.1 * 10 + (b - 48)) _ _
      (way on (blank_may k s.1 b && not s.0) (false, s.1) _ _
      (way on (eqb b 45 && (not s.0 && (eqb s.1 0 && not (eqb k 0)))) (true, s.1) (Err (bad i)) _ refl))
      ∙ ap (λ n. then (mark_at text i k s) (λ (w : Bool × ℕ). count_on n k w)) (sym e)

  abbrev pub counts : Reading (Bool × ℕ) ℤ
  counts = record { from = count_on; one = mark_at text; step = count_step }

  -- one place, and then places that are known to be split off the rest
  count_more : (i j k : ℕ) (s : Bool × ℕ) (rest : Bool × ℕ → Result ℤ BadByte) (front : Bool × ℕ → Result (Bool × ℕ) BadByte) → j ≡ i + 1
      → ((w : Bool × ℕ) → then (front w) rest ≡ count_on j k w) → then (then (mark_at text i k s) front) rest ≡ count_on i (suc k) s
  count_more i j k s rest front e split =
      then_on (mark_at text i k s) front rest
      ∙ then_same (mark_at text i k s) (λ w. then (front w) rest) (λ w. count_on j k w) split
      ∙ sym (count_step i j k s e)

  pub marks_split : (i : ℕ) → then (first_marks_at text i) (marks_left text i) ≡ count_at text i
  marks_split i =
      count_more i (i + 1) 9 (false, 0) (marks_left text i) _ refl (λ a.
      count_more (i + 1) (i + 2) 8 a (marks_left text i) _ (omega arith) (λ b.
      count_more (i + 2) (i + 3) 7 b (marks_left text i) _ (omega arith) (λ c.
      count_more (i + 3) (i + 4) 6 c (marks_left text i) _ (omega arith) (λ d.
      sym (count_step (i + 4) (i + 5) 5 d (omega arith))))))

  -- the last k of the first five places, from the place i on
  abbrev pub firsts_from : ℕ → ℕ → Bool × ℕ → Result (Bool × ℕ) BadByte
  firsts_from i zero s = Ok s
  firsts_from i (suc k) s = then (mark_at text i (k + 5) s) (λ w. firsts_from (i + 1) k w)

  pub firsts_step : (i j k : ℕ) (s : Bool × ℕ) → j ≡ i + 1
      → firsts_from i (suc k) s ≡ then (mark_at text i (k + 5) s) (λ w. firsts_from j k w)
  firsts_step i j k s e = ap (λ n. then (mark_at text i (k + 5) s) (λ w. firsts_from n k w)) (sym e)

  abbrev pub firsts : Reading (Bool × ℕ) (Bool × ℕ)
  firsts = record { from = firsts_from; one = λ i k s. mark_at text i (k + 5) s; step = firsts_step }

  pub firsts_all : (i : ℕ) → first_marks_at text i ≡ firsts_from i 5 (false, 0)
  firsts_all i = sym
      (firsts_step i (i + 1) 4 (false, 0) refl ∙ then_same _ _ _ (λ a.
      firsts_step (i + 1) (i + 2) 3 a (omega arith) ∙ then_same _ _ _ (λ b.
      firsts_step (i + 2) (i + 3) 2 b (omega arith) ∙ then_same _ _ _ (λ c.
      firsts_step (i + 3) (i + 4) 1 c (omega arith) ∙ then_same _ _ _ (λ d.
      then_ok (mark_at text (i + 4) 5 d))))))

  pub blank_step : (i j k : ℕ) (u : Unit {0}) → j ≡ i + 1
      → blank_from text i (suc k) ≡ then (blank_at text i) (λ _. blank_from text j k)
  unfolding blank_from
  blank_step i j k u e =
      way (λ _. blank_from text (i + 1) k) (eqb (byte text i) 32) tt (Err (bad i)) _ refl
      ∙ ap (λ n. then (blank_at text i) (λ _. blank_from text n k)) (sym e)

  abbrev pub blanks : Reading (Unit {0}) (Unit {0})
  blanks = record { from = λ i k _. blank_from text i k; one = λ i k _. blank_at text i; step = blank_step }

  -- a blank before the first digit
  number_past : (i j k : ℕ) → j ≡ i + 1 → byte text i ≡ 32
      → number_from text i (suc (suc k)) 0 ≡ number_from text j (suc k) 0
  number_past i j k e b =
      number_blank text i (suc k) 0 (grind (arith, nat_tests)) (grind (arith, nat_tests))
      ∙ ap (λ n. number_from text n (suc k) 0) (sym e)

  pub short_number : (i : ℕ) → byte text i ≡ 32 → byte text (i + 1) ≡ 32 → byte text (i + 2) ≡ 32
      → number_at text i ≡ number_from text (i + 3) 2 0
  short_number i a b c =
      number_past i (i + 1) 3 refl a
      ∙ number_past (i + 1) (i + 2) 2 (omega arith) b
      ∙ number_past (i + 2) (i + 3) 1 (omega arith) c

  pub blank_marks : (i : ℕ) → Blank text i → first_marks_at text i ≡ Ok (false, 0)
  blank_marks i b = rw (b.first, b.second, b.third, b.fourth, b.fifth) refl

  blank_past : (i j k : ℕ) → j ≡ i + 1 → byte text i ≡ 32 → blank_from text i (suc k) ≡ blank_from text j k
  blank_past i j k e b = blank_more text i k (rw b refl) ∙ ap (λ n. blank_from text n k) (sym e)

  pub blank_field : (i : ℕ) → Blank text i → unused_at text i ≡ Ok tt
  blank_field i b =
      blank_past i (i + 1) 4 refl b.first
      ∙ blank_past (i + 1) (i + 2) 3 (omega arith) b.second
      ∙ blank_past (i + 2) (i + 3) 2 (omega arith) b.third
      ∙ blank_past (i + 3) (i + 4) 1 (omega arith) b.fourth
      ∙ blank_past (i + 4) (i + 5) 0 (omega arith) b.fifth
      ∙ blank_done text (i + 5)
