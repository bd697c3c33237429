-- The list that stands in the records at the end, and its triangle.
--
--   list_is      the notes, laid from the first record on, and those turned round
--   list_whole   where there is room, that is all notes
--   corners_in   the triangle of a mask
use Rattle.std.proofs.Common.{◌≡◌, ℕ, ◌+◌, ◌-◌, ◌<◌, ◌≤◌, min, Bool, List, ◌++◌, length, take, drop, sym, ap, ◌∙◌, ⊎_elim, arith}
use Rattle.std.proofs.lemmas.Bool.{cases_lt}
use Rattle.std.proofs.lemmas.List.{take_all, drop_all}
use Rattle.theory.specs.declared.step.Step.{Step}
use Rattle.sets.specs.Set.{bit}
use Rattle.disassembly.specs.Disassembly.{reversed, passing, corners}
use Rattle.sets.specs.Set.{tables_of}
use Rattle.notes.specs.Notes.{poured, corners_of, list_laid}
use Rattle.notes.proofs.Poured.{poured_length, poured_front, poured_back}

pub list_is : (first laid after notes : List Step) (n : ℕ) → laid ≡ poured first 0 notes → n ≡ min (length notes) (length first)
    → after ≡ reversed (take n laid) ++ drop n laid → after ≡ list_laid notes first
list_is first laid after notes n was many turned =
    let m : n ≡ min (0 + length notes) (length first) = omega arith in
    turned
    ∙ ap (λ s. reversed (take n s) ++ drop n s) was
    ∙ ap (λ i. reversed (take i (poured first 0 notes)) ++ drop n (poured first 0 notes)) m
    ∙ ap (λ l. reversed l ++ drop n (poured first 0 notes)) (poured_front first 0 notes (omega arith))
    ∙ ap (λ i. reversed (take i notes) ++ drop n (poured first 0 notes)) all
    ∙ ap (λ l. reversed (take (length first) notes) ++ l) later
  where
    all : length first - 0 ≡ length first
    all = omega arith

    later : drop n (poured first 0 notes) ≡ drop (length notes) first
    later = ⊎_elim
        (λ (over : length first < length notes).
        drop_all n (poured first 0 notes) (omega (arith, many, poured_length first 0 notes)) ∙ sym (drop_all (length notes) first (omega arith)))
        (λ (fits : length notes ≤ length first).
        let e : n ≡ 0 + length notes = omega (arith, many) in
        let z : 0 + length notes ≡ length notes = omega arith in
        ap (λ i. drop i (poured first 0 notes)) e ∙ poured_back first 0 notes ∙ ap (λ i. drop i first) z)
        (cases_lt (length first) (length notes))

pub list_whole : (notes l : List Step) → length notes ≤ length l → list_laid notes l ≡ reversed notes ++ drop (length notes) l
list_whole notes l fits = ap (λ k. reversed k ++ drop (length notes) l) (take_all (length l) notes fits)

pub corners_in : (m : ℕ) (U : ℕ → Bool) → bit m ≡ U → corners (tables_of m) ≡ corners_of U
unfolding tables_of corners_of
corners_in m U e = ap (λ (p : ℕ → Bool). corners (passing p)) e
