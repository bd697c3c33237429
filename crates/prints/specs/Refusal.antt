-- The line of a refusal: X with its number, its layer and its place.
--
--   refusal_line r l p          X: refusal, layer, place
--   refusal_answer r l p b      17 a number over 99,999; 9 fewer than 17 bytes lent; or the bytes written
--   refusal_written r l p out   the bytes lent, afterwards
use Rattle.std.specs.Prelude.{ℕ, cond, ◌||◌, List, length, Err, Result}
use Rattle.lines.specs.Text.{line_text}
use Rattle.lines.specs.declared.line.Line.{Line}
use Rattle.lines.specs.declared.line.Fields.TheVariants.{Three}
use Rattle.texts.specs.ListWrite.{over, room_for, laid_if}
use Rattle.texts.specs.declared.fault.TextFault.{TextFault}
use Rattle.texts.specs.declared.fault.TextFault.TheVariants.{OutOfLimits}

abbrev pub refusal_line : ℕ → ℕ → ℕ → Line
refusal_line r l p = record { letter = 88; fields = Three r l p }

abbrev pub refusal_answer : ℕ → ℕ → ℕ → ℕ → Result ℕ TextFault
refusal_answer r l p b = cond (over r || (over l || over p)) (Err (OutOfLimits 0)) (room_for 17 b)

abbrev pub refusal_written : ℕ → ℕ → ℕ → List ℕ → List ℕ
refusal_written r l p out = laid_if (refusal_answer r l p (length out)) out (line_text (refusal_line r l p))
