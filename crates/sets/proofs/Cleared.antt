-- The lowest bit that is set goes out of a number where it is masked with the number before it.
--
--   lowest_cleared   as if it were taken out by itself
use Rattle.std.proofs.Common.{◌≡◌, ℕ, zero, suc, ◌+◌, ◌-◌, ◌*◌, ◌/◌, ◌%◌, ◌^◌, ◌<◌, min, sym, refl, ap, ◌∙◌, pow-suc, arith}
use lib.Bits.{bit_and, bit_xor, differ, and_step, xor_step, and_self, xor_zero_r}
use lib.Count.{count_trailing_zeros, under}

odd : (m : ℕ) → m % 2 ≡ 1 → bit_and m (m - 1) ≡ bit_xor m 1
odd m e =
    let half : (m - 1) / 2 ≡ m / 2 = omega arith in
    let even : (m - 1) % 2 ≡ 0 = omega arith in
    and_step m (m - 1)
    ∙ ap (λ h. bit_and (m / 2) h * 2 + min (m % 2) ((m - 1) % 2)) half
    ∙ ap (λ h. h * 2 + min (m % 2) ((m - 1) % 2)) (and_self (m / 2))
    ∙ ap (λ d. m / 2 * 2 + min (m % 2) d) even
    ∙ ap (λ d. m / 2 * 2 + min d 0) e
    ∙ sym (xor_step m 1 ∙ ap (λ h. h * 2 + differ (m % 2) 1) (xor_zero_r (m / 2)) ∙ ap (λ d. m / 2 * 2 + differ d 1) e)

even : (m t : ℕ) → m % 2 ≡ 0 → 0 < m → bit_and (m / 2) (m / 2 - 1) ≡ bit_xor (m / 2) (2 ^ t) → bit_and m (m - 1) ≡ bit_xor m (2 ^ suc t)
even m t e some rest =
    let half : (m - 1) / 2 ≡ m / 2 - 1 = omega arith in
    let last : (m - 1) % 2 ≡ 1 = omega arith in
    let twice : 2 ^ suc t ≡ 2 ^ t * 2 = pow-suc 2 t in
    let high : 2 ^ suc t / 2 ≡ 2 ^ t = omega arith in
    let low : 2 ^ suc t % 2 ≡ 0 = omega arith in
    and_step m (m - 1)
    ∙ ap (λ h. bit_and (m / 2) h * 2 + min (m % 2) ((m - 1) % 2)) half
    ∙ ap (λ h. h * 2 + min (m % 2) ((m - 1) % 2)) rest
    ∙ ap (λ d. bit_xor (m / 2) (2 ^ t) * 2 + min (m % 2) d) last
    ∙ ap (λ d. bit_xor (m / 2) (2 ^ t) * 2 + min d 1) e
    ∙ sym
    (xor_step m (2 ^ suc t)
    ∙ ap (λ h. bit_xor (m / 2) h * 2 + differ (m % 2) (2 ^ suc t % 2)) high
    ∙ ap (λ d. bit_xor (m / 2) (2 ^ t) * 2 + differ (m % 2) d) low
    ∙ ap (λ d. bit_xor (m / 2) (2 ^ t) * 2 + differ d 0) e)

one_digit : (k m d : ℕ) → m % 2 ≡ d → 0 < m → (0 < m / 2 → bit_and (m / 2) (m / 2 - 1) ≡ bit_xor (m / 2) (2 ^ count_trailing_zeros k (m / 2)))
    → bit_and m (m - 1) ≡ bit_xor m (2 ^ under d (count_trailing_zeros k (m / 2)))
one_digit k m zero e some rest = let h : 0 < m / 2 = omega arith in even m (count_trailing_zeros k (m / 2)) e some (rest h)
one_digit k m (suc d) e some rest = let one : m % 2 ≡ 1 = omega arith in odd m one

pub lowest_cleared : (k m : ℕ) → m < 2 ^ k → 0 < m → bit_and m (m - 1) ≡ bit_xor m (2 ^ count_trailing_zeros k m)
unfolding count_trailing_zeros
lowest_cleared zero m low some = absurd (omega arith)
lowest_cleared (suc k) m low some =
    let twice : 2 ^ suc k ≡ 2 ^ k * 2 = pow-suc 2 k in
    let half : m / 2 < 2 ^ k = omega arith in
    one_digit k m (m % 2) refl some (λ h. lowest_cleared k (m / 2) half h)
