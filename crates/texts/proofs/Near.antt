-- No place or amount that a refusal names is far beyond the text.
--
--   here_inside      a line that stands there lies in the text
--   near_list        a list refused
use Rattle.std.proofs.Common.{◌≡◌, ℕ, zero, suc, ◌+◌, ◌*◌, ◌≤◌, false, List, length, IfErr, Ok, Err, Result, arith}
use Rattle.std.proofs.lemmas.Bool.Decides.{nat_tests}
use Rattle.lines.specs.declared.line.Line.{Line}
use Rattle.lines.proofs.Bytes.{begins_within}
use Rattle.texts.specs.Fault.{text_value}
use Rattle.texts.specs.ListLaw.{Here, Stood, RefusedFor, RefusedText}
use Rattle.texts.specs.ListRead.{outside_limits}
use Rattle.texts.specs.declared.fault.TextFault.{TextFault}
use Rattle.texts.specs.declared.fault.TextFault.TheVariants.{BadForm, Misplaced, OutOfLimits, TooFew}

pub here_inside : (text : List ℕ) (p : ℕ) (l : Line) → Here text p l → p + 17 ≤ length text
here_inside text p l here = begins_within text p 17 (omega arith) (l, here.written, here.agrees) (omega arith)

-- the i-th line begins no further on than the text goes
line_near : (text : List ℕ) (at room i : ℕ) → Stood text at room i → at + 17 * i ≤ at + length text
line_near text at room zero stood = omega arith
line_near text at room (suc i) stood =
    let last = stood.lines i (omega arith) in
    let inside = here_inside text (at + 17 * i) last.line last.here in
    omega arith

few_steps : (n m k : ℕ) → outside_limits n m k ≡ false → k ≤ 2013
few_steps n m k q = grind (arith, nat_tests)

near_fault : (text : List ℕ) (at room : ℕ) (f : TextFault) → RefusedFor text at room f → text_value f ≤ at + length text + 2013
near_fault text at room (BadForm p) h = let is = h.breaks.is_place in omega (arith, line_near text at room h.line h.stood, h.breaks.short)
near_fault text at room (Misplaced p) h = let is = h.is_place in omega (arith, line_near text at room h.line h.stood)
near_fault text at room (OutOfLimits p) h = let is = h.is_place in omega arith
near_fault text at room (TooFew k) h = omega (arith, few_steps h.tables h.joins k h.inside)

pub near_list : {X : Type 0} (text : List ℕ) (at room : ℕ) (r : Result X TextFault) → RefusedText text at room r → IfErr r (λ f. text_value f ≤ at + length text + 2013)
near_list text at room (Ok x) h = tt
near_list text at room (Err f) h = near_fault text at room f h
