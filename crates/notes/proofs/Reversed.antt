-- Lists in reverse, and the tables to take away as the code has them.
--
--   reversed_is      the two ways to say it
--   reversed_length, reversed_past
--                    as long as before; without the first records it is the reverse without the last ones
--   turned           the first records turned round, and the later ones
--   away_taken       the first tables left, all but three, are those to take away
use Rattle.std.proofs.Common.{◌≡◌, ℕ, zero, suc, ◌-◌, ◌≤◌, List, [], ◌∷◌, ◌++◌, reverse, length, take, drop, sym, refl, ap, ◌∙◌, arith}
use mathlib.Core.List.{reverse_aux-eq}
use Rattle.std.proofs.lemmas.List.{length-append, take_all, take-append-le}
use Rattle.disassembly.specs.Search.{Place}
use Rattle.disassembly.specs.Disassembly.{reversed, past, away_of}

pub reversed_is : {A : Type 0} (l : List A) → reverse l ≡ reversed l
reversed_is [] = refl
reversed_is (x ∷ l) = reverse_aux-eq l (x ∷ []) ∙ ap (λ r. r ++ (x ∷ [])) (reversed_is l)

pub reversed_length : {A : Type 0} (l : List A) → length (reversed l) ≡ length l
reversed_length [] = refl
reversed_length (x ∷ l) = let ih : length (reversed l) ≡ length l = reversed_length l in omega (arith, length-append (reversed l) (x ∷ []))

pub reversed_past : {A : Type 0} (n : ℕ) (l : List A) → reversed (drop n l) ≡ take (length l - n) (reversed l)
reversed_past zero l = sym (take_all (length l - 0) (reversed l) (omega (arith, reversed_length l)))
reversed_past (suc n) [] = let k : 0 - suc n ≡ 0 = omega arith in sym (ap (λ m. take m []) k)
reversed_past (suc n) (x ∷ l) =
    let e : length l - n ≤ length (reversed l) = omega (arith, reversed_length l) in
    let k : length l - n ≡ suc (length l) - suc n = omega arith in
    reversed_past n l ∙ sym (take-append-le (length l - n) (reversed l) (x ∷ []) e) ∙ ap (λ m. take m (reversed l ++ (x ∷ []))) k

-- what `reverse` leaves of the first records, and the later ones
pub turned : {A : Type 0} (l after : List A) (n : ℕ) → after ≡ reverse (take n l) → after ++ drop n l ≡ reversed (take n l) ++ drop n l
turned l after n h = ap (λ r. r ++ drop n l) (h ∙ reversed_is (take n l))

past_drop : (n : ℕ) (l : List ℕ) → past n l ≡ drop n l
past_drop zero l = refl
past_drop (suc n) [] = refl
past_drop (suc n) (x ∷ l) = past_drop n l

pub away_taken : (p : Place) (left : List ℕ) → left ≡ reversed p.left → take (length left - 3) left ≡ away_of p
away_taken p left e =
    let n : length left ≡ length p.left = ap length e ∙ reversed_length p.left in
    ap (take (length left - 3)) e
    ∙ ap (λ k. take (k - 3) (reversed p.left)) n
    ∙ sym (ap reversed (past_drop 3 p.left) ∙ reversed_past 3 p.left)
