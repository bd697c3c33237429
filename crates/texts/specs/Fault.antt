-- The number of each refusal of a text, and the place or amount that it names.
--
--   text_number f   the number
--   text_value f    the place, or the amount
--   next r f        the value goes on to what follows, and a refusal ends it
--   in_form r       the reading of a line, with 15 at the place where it fails
use Rattle.std.specs.Prelude.{ℕ, Ok, Err, Result}
use Rattle.lines.specs.declared.line.BadByte.{BadByte}
use Rattle.lines.specs.declared.line.Line.{Line}
use Rattle.texts.specs.declared.fault.TextFault.{TextFault}
use Rattle.texts.specs.declared.fault.TextFault.TheVariants.{BadForm, Misplaced, OutOfLimits, TooFew}

abbrev pub text_number : TextFault → ℕ
text_number (BadForm p) = 15
text_number (Misplaced p) = 16
text_number (OutOfLimits p) = 17
text_number (TooFew n) = 9

abbrev pub text_value : TextFault → ℕ
text_value (BadForm p) = p
text_value (Misplaced p) = p
text_value (OutOfLimits p) = p
text_value (TooFew n) = n

abbrev pub next : {X Y F : Type 0} → Result X F → (X → Result Y F) → Result Y F
next (Ok x) f = f x
next (Err e) f = Err e

abbrev pub in_form : Result Line BadByte → Result Line TextFault
in_form (Ok l) = Ok l
in_form (Err bad) = Err (BadForm bad.place)
