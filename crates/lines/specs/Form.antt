-- What it means that bytes are a line in form, and where bytes stop to be the beginning of one.
--
--   Agrees t text at k    the first k bytes of t are those of the text from `at` on
--   Begins text at k      some line that can be written begins with the k bytes from `at` on; past its end a text has the
--                         byte 0, which no line has
--   LineRead text at r    the answer r to reading the line at `at`: the line whose text stands there, or the place of the
--                         first byte that no line begun so can have, which is the text's end where the line is cut off
use Rattle.std.specs.Prelude.{◌≡◌, ℕ, ◌+◌, ◌<◌, List, Ok, Err, Result, slice_index}
use Rattle.lines.specs.Text.{line_text, Written}
use Rattle.lines.specs.declared.line.Line.{Line}
use Rattle.lines.specs.declared.line.BadByte.{BadByte}

abbrev pub Agrees : List ℕ → List ℕ → ℕ → ℕ → Type 0
Agrees t text at k = (j : ℕ) → j < k → slice_index t j ≡ slice_index text (at + j)

abbrev pub Begins : List ℕ → ℕ → ℕ → Type 0
Begins text at k = (l : Line) × Written l × Agrees (line_text l) text at k

-- the longest beginning of some line in form
pub record Longest (text : List ℕ) (at place : ℕ) : Type 0 where
  pub length_of : ℕ
  pub is_place : place ≡ at + length_of
  pub short : length_of < 17
  pub begins : Begins text at length_of
  pub no_more : Begins text at (length_of + 1) → ⊥

abbrev pub LineRead : List ℕ → ℕ → Result Line BadByte → Type 0
LineRead text at (Ok l) = Written l × Agrees (line_text l) text at 17
LineRead text at (Err bad) = Longest text at bad.place
