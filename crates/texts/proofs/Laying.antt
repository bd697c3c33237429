-- Bytes laid over a buffer: what stands where afterwards.
--
--   laid_length   a buffer keeps its length
--   laid_agrees   the bytes laid stand from their place on
--   laid_whole    the same from the buffer's start on
--   laid_front    the first bytes are then the bytes laid
use Rattle.std.proofs.Common.{◌≡◌, ℕ, ◌+◌, ◌≤◌, List, [], ◌∷◌, ◌++◌, length, get_or, take, drop, set, sym, refl, ap, ◌∙◌, arith, length-set}
use Rattle.std.proofs.lemmas.List.{take_at, length-take-le, get_or_append_left, get_or-append_right}
use Rattle.lines.specs.Form.{Agrees}
use Rattle.writer.specs.Laid.{laid}
use Rattle.writer.proofs.Lays.{laid_parts}

pub laid_length : (xs : List ℕ) (at : ℕ) (ys : List ℕ) → length (laid xs at ys) ≡ length xs
laid_length xs at [] = refl
laid_length xs at (y ∷ ys) = laid_length (set xs at y) (at + 1) ys ∙ length-set xs at y

pub laid_agrees : (out : List ℕ) (at : ℕ) (text : List ℕ) → at + length text ≤ length out → Agrees text (laid out at text) at (length text)
laid_agrees out at text h j k =
    let rest = drop (at + length text) out in
    let front : length (take at out) ≡ at = length-take-le at out (omega arith) in
    sym
    (ap (λ l. get_or l (at + j) 0) (laid_parts out at text h)
    ∙ get_or-append_right (take at out) (text ++ rest) at (at + j) 0 front (omega arith)
    ∙ ap (λ n. get_or (text ++ rest) n 0) (omega arith)
    ∙ get_or_append_left text rest 0 j k)

pub laid_whole : (out text : List ℕ) → length text ≤ length out → laid out 0 text ≡ text ++ drop (length text) out
laid_whole out text h = laid_parts out 0 text (omega arith) ∙ ap (λ n. text ++ drop n out) (omega arith)

pub laid_front : (out text : List ℕ) (r : ℕ) → r ≡ length text → length text ≤ length out → take r (laid out 0 text) ≡ text
laid_front out text r e room =
    ap (λ k. take k (laid out 0 text)) e ∙ ap (take (length text)) (laid_whole out text room) ∙ take_at text (drop (length text) out) (length text) refl
