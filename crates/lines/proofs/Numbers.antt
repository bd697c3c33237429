-- Reading a number in its field: what it amounts to, and that it is below 100,000.
use Rattle.std.proofs.Common.{◌≡◌, ℕ, zero, suc, ◌+◌, ◌-◌, ◌*◌, ◌/◌, ◌^◌, ◌≤◌, true, false, List, sym, ◌∙◌, ⊎_elim, div-one, arith}
use Rattle.std.proofs.lemmas.Bool.{cases_Bool}
use Rattle.lines.specs.Text.{place_text, numeral, number_text}
use Rattle.lines.specs.Read.{byte, digit_may, blank_may, number_from, number_at}
use Rattle.lines.proofs.Steps.{number_done, number_digit, number_blank, number_stop}
use Rattle.lines.proofs.Places.{place_up, some_place, digit_tells, blank_tells, none_tells}
use Rattle.lines.proofs.Pieces.{Kind, Piece, refit, here, step, stop}

-- the last k places of a number whose places before have this value
abbrev pub places : ℕ → ℕ → Kind ℕ
places k value = record { Fit = λ v. v / 10 ^ k ≡ value; text_of = numeral k; width = k }

-- reading them
pub places_read : (text : List ℕ) (k i value : ℕ) → Piece (places k value) text i (number_from text i k value)
places_read text zero i value = rw (number_done text i value) (here text i (λ v. v / 1 ≡ value) (numeral 0) value (div-one value) (λ y e. sym (div-one y) ∙ e))
places_read text (suc k) i value =
    let b = byte text i in
    let one = step text i (λ v. v / 10 ^ suc k ≡ value) (place_text k) (numeral k) k in
    ⊎_elim
    (λ (d : digit_may k value b ≡ true).
    let more = value * 10 + (b - 48) in
    rw (number_digit text i k value d) (one (λ v. v / 10 ^ k ≡ more) (λ v. rw (place_up v k) (digit_tells k value b (v / 10 ^ k) d)) (number_from text (i + 1) k more) (places_read text k (i + 1) more)))
    (λ (d : digit_may k value b ≡ false).
    ⊎_elim
    (λ (n : blank_may k value b ≡ true).
    rw (number_blank text i k value d n) (one (λ v. v / 10 ^ k ≡ value) (λ v. rw (place_up v k) (blank_tells k value b (v / 10 ^ k) n)) (number_from text (i + 1) k value) (places_read text k (i + 1) value)))
    (λ (n : blank_may k value b ≡ false).
    rw (number_stop text i k value d n) (stop text i (λ v. v / 10 ^ suc k ≡ value) (place_text k) (numeral k) k (value * 10 ^ suc k) (some_place (suc k) value)
    (λ v e h. none_tells k value b (v / 10 ^ k) d n (sym (place_up v k) ∙ e) h)))
    (cases_Bool (blank_may k value b)))
    (cases_Bool (digit_may k value b))

-- a number in its field
abbrev pub numbers : Kind ℕ
numbers = record { Fit = λ v. v ≤ 99999; text_of = number_text; width = 5 }

-- reading it
pub number_read : (text : List ℕ) (i : ℕ) → Piece numbers text i (number_at text i)
number_read text i = refit (places 5 0) (λ v. v ≤ 99999) (λ v. (λ e. omega arith, λ e. omega arith)) text i (number_at text i) (places_read text 5 i 0)
