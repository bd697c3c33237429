-- Reading a stored row count, ten characters with a minus sign or none: what it amounts to, and that it fits.
use Rattle.std.proofs.Common.{◌≡◌, ℕ, zero, suc, pred, ◌+◌, ◌-◌, ◌*◌, ◌/◌, ◌^◌, Bool, true, false, not, eqb, ◌↔◌, List, [], ◌∷◌, ℤ, pos, negsuc, sym, refl, ap, ◌∙◌, subst, ⊎_elim, div-one, arith}
use mathlib.Core.Path.{fun_ext}
use Rattle.std.proofs.lemmas.Bool.{cases_Bool, false≢true, true≢false}
use Rattle.std.proofs.lemmas.Bool.Decides.{nat_tests}
use Rattle.lines.specs.Text.{place_text, place_below, count_text, CountFits}
use Rattle.lines.specs.Read.{byte, count_from, count_at}
use Rattle.lines.proofs.Steps.{count_digit_may, count_blank_may, sign_may, count_done, count_digit, count_blank, count_sign, count_stop}
use Rattle.lines.proofs.Places.{place_up, ten_pos, some_place, next, count_digit_above, count_digit_below, count_blank_above, count_blank_below, sign_above, sign_below, none_above, none_below}
use Rattle.lines.proofs.Pieces.{Kind, Piece, refit, here, step, stop}

-- the row counts that k places can still give, after a sign or none and the places before
abbrev pub Left : ℕ → Bool → ℕ → ℤ → Type 0
Left k neg value (pos n) = (neg ≡ false) × (n / 10 ^ k ≡ value)
Left k neg value (negsuc n) = (suc n / 10 ^ k ≡ value) × (neg ≡ not (eqb (suc n / 10 ^ pred k) 0))

-- the byte at the place of 10 ^ k
abbrev pub first : ℕ → ℤ → ℕ
first k (pos n) = place_text k n
first k (negsuc n) = place_below k (suc n)

-- the last k bytes
abbrev pub last : ℕ → ℤ → List ℕ
last zero z = []
last (suc k) z = first k z ∷ last k z

-- the kind of the row counts that are left
abbrev pub count_places : ℕ → Bool → ℕ → Kind ℤ
count_places k neg value = record { Fit = Left k neg value; text_of = last k; width = k }

-- a sign is read only where a place is left for a digit
abbrev pub Open : ℕ → Bool → ℕ → Type 0
Open k neg value = neg ≡ true → value ≡ 0 → k ≡ 0 → ⊥

-- some row count is left
some_count : (k : ℕ) (neg : Bool) (value : ℕ) → Open k neg value → (z : ℤ) × Left k neg value z
some_count k false value o = (pos (value * 10 ^ k), (refl, some_place k value))
some_count k true (suc value) o =
    let m = suc value * 10 ^ k in
    let whole : suc (pred m) ≡ m = omega (arith, ten_pos k) in
    let q : suc (pred m) / 10 ^ k ≡ suc value = ap (λ x. x / 10 ^ k) whole ∙ some_place k (suc value) in
    let n = next (pred m) k in
    (negsuc (pred m), (q, grind (arith, nat_tests)))
some_count zero true zero o = absurd (o refl refl refl)
some_count (suc k) true zero o =
    let m = 1 * 10 ^ k in
    let whole : suc (pred m) ≡ m = omega (arith, ten_pos k) in
    let q : suc (pred m) / 10 ^ k ≡ 1 = ap (λ x. x / 10 ^ k) whole ∙ some_place k 1 in
    let up = place_up (suc (pred m)) k in
    (negsuc (pred m), (omega arith, grind (arith, nat_tests)))

-- at the end one is left
done_above : (value : ℕ) (z : ℤ) → Left 0 false value z → z ≡ pos value
done_above value (pos n) l = ap pos (sym (div-one n) ∙ l.1)
done_above value (negsuc n) l = let e = div-one (suc n) in absurd (grind (arith, nat_tests))

done_below : (value : ℕ) (z : ℤ) → Left 0 true value z → z ≡ negsuc (pred value)
done_below value (pos n) l = absurd (true≢false l.0)
done_below value (negsuc n) l = let e = div-one (suc n) in ap negsuc (omega arith)

-- the sign and the value so far, with the byte at a place
abbrev Was : ℕ → Bool → ℕ → ℕ → ℤ → Type 0
Was k neg value b z = Left (suc k) neg value z × (first k z ≡ b)

module _ (k : ℕ) (neg : Bool) (value b : ℕ) where
  -- what each byte leaves
  digit : count_digit_may k neg value b ≡ true → (z : ℤ) → Was k neg value b z ↔ Left k neg (value * 10 + (b - 48)) z
  digit d (pos n) = rw (place_up n k) (count_digit_above k neg value b d (n / 10 ^ k))
  digit d (negsuc n) = rw (place_up (suc n) k) (count_digit_below k neg value b d (suc n / 10 ^ k) (suc n / 10 ^ pred k) (next n k))

  blank : count_blank_may k neg value b ≡ true → (z : ℤ) → Was k neg value b z ↔ Left k false value z
  blank d (pos n) = rw (place_up n k) (count_blank_above k neg value b d (n / 10 ^ k))
  blank d (negsuc n) = rw (place_up (suc n) k) (count_blank_below k neg value b d (suc n / 10 ^ k) (suc n / 10 ^ pred k) (next n k))

  sign : sign_may k neg value b ≡ true → (z : ℤ) → Was k neg value b z ↔ Left k true value z
  sign d (pos n) = rw (place_up n k) (sign_above k neg value b d (n / 10 ^ k))
  sign d (negsuc n) = rw (place_up (suc n) k) (sign_below k neg value b d (suc n / 10 ^ k) (suc n / 10 ^ pred k) (next n k))

  none : count_digit_may k neg value b ≡ false → count_blank_may k neg value b ≡ false → sign_may k neg value b ≡ false → (z : ℤ) → Was k neg value b z → ⊥
  none d s m (pos n) = rw (place_up n k) (none_above k neg value b d s m (n / 10 ^ k))
  none d s m (negsuc n) = rw (place_up (suc n) k) (none_below k neg value b d s m (suc n / 10 ^ k) (suc n / 10 ^ pred k) (next n k))

-- reading the last k places
pub count_places_read : (text : List ℕ) (k i : ℕ) (neg : Bool) (value : ℕ) → Open k neg value → Piece (count_places k neg value) text i (count_from text i k neg value)
count_places_read text zero i false value o = rw (count_done text i false value) (here text i (Left 0 false value) (last 0) (pos value) (refl, div-one value) (done_above value))
count_places_read text zero i true value o =
    let e = div-one (suc (pred value)) in
    let v : value ≡ 0 → ⊥ = λ z. o refl z refl in
    rw (count_done text i true value) (here text i (Left 0 true value) (last 0) (negsuc (pred value)) (omega arith, grind (arith, nat_tests)) (done_below value))
count_places_read text (suc k) i neg value o =
    let b = byte text i in
    let one = step text i (Left (suc k) neg value) (first k) (last k) k in
    ⊎_elim
    (λ (d : count_digit_may k neg value b ≡ true).
    let more = value * 10 + (b - 48) in
    let o' : Open k neg more = λ n e z. grind (arith, nat_tests) in
    rw (count_digit text i k neg value d) (one (Left k neg more) (digit k neg value b d) (count_from text (i + 1) k neg more) (count_places_read text k (i + 1) neg more o')))
    (λ (d : count_digit_may k neg value b ≡ false).
    ⊎_elim
    (λ (n : count_blank_may k neg value b ≡ true).
    rw (count_blank text i k neg value d n) (one (Left k false value) (blank k neg value b n) (count_from text (i + 1) k false value) (count_places_read text k (i + 1) false value (λ f. absurd (false≢true f)))))
    (λ (n : count_blank_may k neg value b ≡ false).
    ⊎_elim
    (λ (s : sign_may k neg value b ≡ true).
    let o' : Open k true value = λ n e z. grind (arith, nat_tests) in
    rw (count_sign text i k neg value d n s) (one (Left k true value) (sign k neg value b s) (count_from text (i + 1) k true value) (count_places_read text k (i + 1) true value o')))
    (λ (s : sign_may k neg value b ≡ false).
    let x = some_count (suc k) neg value o in
    rw (count_stop text i k neg value d n s) (stop text i (Left (suc k) neg value) (first k) (last k) k x.0 x.1 (λ z l h. none k neg value b d n s z (l, h))))
    (cases_Bool (sign_may k neg value b)))
    (cases_Bool (count_blank_may k neg value b)))
    (cases_Bool (count_digit_may k neg value b))

-- a row count in its ten characters
abbrev pub counts : Kind ℤ
counts = record { Fit = CountFits; text_of = count_text; width = 10 }

-- its text by places
count_same : (z : ℤ) → last 10 z ≡ count_text z
count_same (pos n) = refl
count_same (negsuc n) = refl

-- at the start those that fit are left
count_left : (z : ℤ) → Left 10 false 0 z ↔ CountFits z
count_left (pos n) = (λ l. omega arith, λ l. (refl, omega arith))
count_left (negsuc n) = (λ l. grind (arith, nat_tests), λ l. grind (arith, nat_tests))

-- reading it
pub count_read : (text : List ℕ) (i : ℕ) → Piece counts text i (count_at text i)
count_read text i =
    subst (λ t. Piece (record { Fit = CountFits; text_of = t; width = 10 }) text i (count_at text i)) (fun_ext count_same)
    (refit (count_places 10 false 0) CountFits count_left text i (count_at text i) (count_places_read text 10 i false 0 (λ f. absurd (false≢true f))))
