-- Bytes laid over a buffer.
--
--   laid_two      bytes laid one piece after another are laid at once
--   put_more      one element put in, and more laid after it
--   laid_parts    what was there before, the bytes laid, and what was there after them
use Rattle.std.proofs.Common.{◌≡◌, ℕ, ◌+◌, ◌<◌, ◌≤◌, List, [], ◌∷◌, ◌++◌, length, take, drop, set, sym, ap, ◌∙◌, append_assoc, arith, length-set, take-append-drop}
use Rattle.std.proofs.lemmas.List.{take_more_set, drop-set-lt}
use Rattle.writer.specs.Laid.{laid}

pub laid_two : (xs : List ℕ) (at i : ℕ) (a b : List ℕ) → i ≡ at + length a → laid (laid xs at a) i b ≡ laid xs at (a ++ b)
laid_two xs at i [] b e = ap (λ n. laid xs n b) (e ∙ omega arith)
laid_two xs at i (y ∷ a) b e = laid_two (set xs at y) (at + 1) i a b (e ∙ omega arith)

pub put_more : {X : Type 0} (xs : List X) (at n : ℕ) (y : X) (ys : List X) → at < length xs → at < n
    → take (at + 1) (set xs at y) ++ (ys ++ drop n (set xs at y)) ≡ take at xs ++ y ∷ (ys ++ drop n xs)
put_more xs at n y ys h k = rw (take_more_set xs at y h, drop-set-lt n xs at y k, append_assoc)

pub laid_parts : (xs : List ℕ) (at : ℕ) (ys : List ℕ) → at + length ys ≤ length xs → laid xs at ys ≡ take at xs ++ (ys ++ drop (at + length ys) xs)
laid_parts xs at [] h = sym (take-append-drop at xs) ∙ ap (λ n. take at xs ++ drop n xs) (omega arith)
laid_parts xs at (y ∷ ys) h =
    laid_parts (set xs at y) (at + 1) ys (simp length-set (omega arith))
    ∙ put_more xs at (at + 1 + length ys) y ys (omega arith) (omega arith)
    ∙ ap (λ n. take at xs ++ y ∷ (ys ++ drop n xs)) (omega arith)
