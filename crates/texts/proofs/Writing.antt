-- Lines laid one after another, as the writers of texts do it.
--
--   laid_room       a line with room for it is laid whole
--   over_first      what the first step with a number that is too large tells of the steps
--   joined_length   the text of k lines has 17 * k bytes
--   lines_more      one more line, after those of the first i of a list
--   list_laid       heading, triangle and steps, laid one after another, are the whole text of a list
use Rattle.std.proofs.Common.{◌≡◌, ℕ, ◌+◌, ◌*◌, ◌<◌, ◌≤◌, Bool, true, false, cond, List, [], ◌∷◌, ◌++◌, length, get_or, take, Some, None, Option, Ok, Err, Result, sym, refl, ap, ◌∙◌, arith, length-append}
use Rattle.std.specs.List.{flat_map, position, position_from}
use Rattle.std.proofs.lemmas.List.{take_more, flat_map_more, length-take-le}
use Rattle.std.proofs.lemmas.Bool.{le-leb}
use Rattle.std.proofs.lemmas.Iterator.Adapters.{position_from-zero}
use Rattle.lines.specs.Text.{line_text}
use Rattle.lines.specs.declared.line.Line.{Line}
use Rattle.lines.proofs.Bytes.{line_length}
use Rattle.writer.specs.Laid.{laid, laid_line}
use Rattle.writer.proofs.Lays.{laid_two}
use Rattle.theory.specs.declared.step.Step.{Step}
use Rattle.theory.specs.declared.step.Triangle.{Triangle}
use Rattle.texts.specs.ListText.{head_line, triangle_line, step_text, list_text}
use Rattle.texts.specs.ListWrite.{step_over, steps_over, list_length}
use Rattle.texts.proofs.Laying.{laid_length}
use Rattle.texts.specs.declared.fault.TextFault.{TextFault}
use Rattle.texts.specs.declared.fault.TextFault.TheVariants.{OutOfLimits}

pub laid_room : (xs : List ℕ) (at : ℕ) (l : Line) → at + 17 ≤ length xs → laid_line xs at l ≡ laid xs at (line_text l)
laid_room xs at l h = ap (λ b. cond b (laid xs at (line_text l)) xs) (le-leb (at + 17) (length xs) h)

-- what is told of the first step with a number that is too large
abbrev pub told_over : Option ℕ → Result Unit TextFault
told_over None = Ok tt
told_over (Some i) = Err (OutOfLimits (34 + 17 * i))

over_next : (b : Bool) (i : ℕ) (r : Result Unit TextFault) (o : Option ℕ) → r ≡ told_over o → cond b (Err (OutOfLimits (34 + 17 * i))) r ≡ told_over (cond b (Some i) o)
over_next true i r o e = refl
over_next false i r o e = e

over_from : (l : List Step) (i : ℕ) → steps_over (34 + 17 * i) l ≡ told_over (position_from step_over i l)
unfolding steps_over
over_from [] i = refl
over_from (s ∷ l) i =
    over_next (step_over s) i (steps_over (34 + 17 * i + 17) l) (position_from step_over (i + 1) l)
    (ap (λ n. steps_over n l) (omega arith) ∙ over_from l (i + 1))

pub over_first : (l : List Step) (o : Option ℕ) → o ≡ position step_over l → told_over o ≡ steps_over 34 l
over_first l o e =
    ap told_over (e ∙ position_from-zero step_over l)
    ∙ sym (over_from l 0)
    ∙ ap (λ n. steps_over n l) (omega arith)

pub joined_length : {X : Type 0} (f : X → Line) (l : List X) → length (flat_map (λ x. line_text (f x)) l) ≡ 17 * length l
joined_length f [] = refl
joined_length f (x ∷ l) =
    let ih : length (flat_map (λ y. line_text (f y)) l) ≡ 17 * length l = joined_length f l in
    let one : length (line_text (f x)) ≡ 17 = line_length (f x) in
    length-append (line_text (f x)) (flat_map (λ y. line_text (f y)) l) ∙ omega arith

-- one more line, after those of the first i of a list
pub lines_more : {X : Type 0} (f : X → Line) (xs out after : List ℕ) (at i : ℕ) (l : List X) (d : X) → i < length l → at + 17 * (i + 1) ≤ length out
    → out ≡ laid xs at (flat_map (λ x. line_text (f x)) (take i l)) → after ≡ laid_line out (at + 17 * i) (f (get_or l i d))
    → after ≡ laid xs at (flat_map (λ x. line_text (f x)) (take (i + 1) l))
lines_more {X} f xs out after at i l d h room inv did =
    let text : X → List ℕ = λ x. line_text (f x) in
    let x = get_or l i d in
    let long : length (flat_map text (take i l)) ≡ 17 * i = joined_length f (take i l) ∙ ap (λ n. 17 * n) (length-take-le i l (omega arith)) in
    did
    ∙ laid_room out (at + 17 * i) (f x) (omega arith)
    ∙ ap (λ o. laid o (at + 17 * i) (text x)) inv
    ∙ laid_two xs at (at + 17 * i) (flat_map text (take i l)) (text x) (omega arith)
    ∙ ap (laid xs at) (flat_map_more text [] (take i l) x ∙ sym (ap (flat_map text) (take_more l i d h)))

-- the heading, the triangle and the steps are the whole text
pub list_laid : (n : ℕ) (t : Triangle) (l : List Step) (out : List ℕ) → list_length l ≤ length out
    → laid (laid_line (laid_line out 0 (head_line n (length l))) 17 (triangle_line t)) 34 (flat_map step_text l) ≡ laid out 0 (list_text n t l)
list_laid n t l out room =
    let h = line_text (head_line n (length l)) in
    let x = line_text (triangle_line t) in
    let s = flat_map step_text l in
    let one : laid_line out 0 (head_line n (length l)) ≡ laid out 0 h = laid_room out 0 (head_line n (length l)) (omega arith) in
    let long : length (laid out 0 h) ≡ length out = laid_length out 0 h in
    let two : laid_line (laid out 0 h) 17 (triangle_line t) ≡ laid (laid out 0 h) 17 x = laid_room (laid out 0 h) 17 (triangle_line t) (omega arith) in
    ap (λ o. laid (laid_line o 17 (triangle_line t)) 34 s) one
    ∙ ap (λ o. laid o 34 s) two
    ∙ laid_two (laid out 0 h) 17 34 x s refl
    ∙ laid_two out 0 17 h (x ++ s) refl
