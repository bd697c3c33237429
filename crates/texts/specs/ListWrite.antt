-- Writing a build list: the refusal, or the text laid over the bytes lent.
--
--   over v                     a number is over 99,999
--   steps_over at l            the offset of the first step line, the first of them at `at`, that has such a number
--   list_length l              the bytes of a list's text
--   list_write_answer n t l b  17 with the line's offset, 9 with the bytes needed where b are lent, or the bytes written
--   list_written n t l out     the bytes lent, afterwards
use Rattle.std.specs.Prelude.{ℕ, ◌+◌, ◌*◌, Bool, cond, ◌||◌, List, [], ◌∷◌, length, Ok, Err, Result, nat_lt}
use Rattle.writer.specs.Laid.{laid}
use Rattle.theory.specs.declared.step.Step.{Step}
use Rattle.theory.specs.declared.step.Step.TheVariants.{Edge, Node}
use Rattle.theory.specs.declared.step.Triangle.{Triangle}
use Rattle.texts.specs.ListText.{list_text}
use Rattle.texts.specs.declared.fault.TextFault.{TextFault}
use Rattle.texts.specs.declared.fault.TextFault.TheVariants.{OutOfLimits, TooFew}

abbrev pub over : ℕ → Bool
over v = nat_lt 99999 v

abbrev pub triangle_over : Triangle → Bool
triangle_over t = over t.a || (over t.b || over t.c)

abbrev pub step_over : Step → Bool
step_over (Edge v w) = over v || over w
step_over (Node u v w) = over u || (over v || over w)

unfoldable pub steps_over : ℕ → List Step → Result Unit TextFault
steps_over at [] = Ok tt
steps_over at (s ∷ l) = cond (step_over s) (Err (OutOfLimits at)) (steps_over (at + 17) l)

abbrev pub list_length : List Step → ℕ
list_length l = 34 + 17 * length l

abbrev pub room_for : ℕ → ℕ → Result ℕ TextFault
room_for needed b = cond (nat_lt b needed) (Err (TooFew needed)) (Ok needed)

abbrev pub roomy : Result Unit TextFault → ℕ → ℕ → Result ℕ TextFault
roomy (Ok u) needed b = room_for needed b
roomy (Err e) needed b = Err e

abbrev pub list_write_answer : ℕ → Triangle → List Step → ℕ → Result ℕ TextFault
list_write_answer n t l b =
    cond (nat_lt n 3 || (nat_lt 64 n || nat_lt 2013 (length l))) (Err (OutOfLimits 0))
    (cond (triangle_over t) (Err (OutOfLimits 17))
    (roomy (steps_over 34 l) (list_length l) b))

abbrev pub laid_if : {X : Type 0} → Result X TextFault → List ℕ → List ℕ → List ℕ
laid_if (Ok x) out text = laid out 0 text
laid_if (Err e) out text = out

abbrev pub list_written : ℕ → Triangle → List Step → List ℕ → List ℕ
list_written n t l out = laid_if (list_write_answer n t l (length out)) out (list_text n t l)
