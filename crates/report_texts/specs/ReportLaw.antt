-- What writing a report amounts to: each line written reads back as the line of its table, or as that of the pick, and a refusal is told
-- of what is there and leaves all bytes.
--
--   line_of_turn l o i        the i-th line, from 0 on: the D line of the table i, and after the last table the P line
--   Told l o before after k   k bytes were written: a line for each record and one for the pick, each of which reads as what it tells
--   NumberOver l o place      the line at `place` is the first with a number too large for its field
--   Short l o room needed     the text needs so many bytes, and fewer are lent
--   RefusedFor l o room f     what the fault f says
--   Reports l o before after r   the answer r, and the bytes lent before and after
use Rattle.std.specs.Prelude.{◌≡◌, ℕ, ◌+◌, ◌*◌, ◌<◌, ◌≤◌, cond, List, length, drop, Option, Ok, Err, Result, nat_lt, slice_index_or}
use Rattle.lines.specs.Read.{line_at}
use Rattle.lines.specs.Text.{Fits}
use Rattle.lines.specs.declared.line.Line.{Line}
use Rattle.reports.specs.Pick.{silent}
use Rattle.reports.specs.declared.record.ReportRecord.{ReportRecord}
use Rattle.texts.specs.declared.fault.TextFault.{TextFault}
use Rattle.texts.specs.declared.fault.TextFault.TheVariants.{BadForm, Misplaced, OutOfLimits, TooFew}
use Rattle.report_texts.specs.ReportText.{record_line, pick_line, report_length}

abbrev pub line_of_turn : List ReportRecord → Option ℕ → ℕ → Line
line_of_turn l o i = cond (nat_lt i (length l)) (record_line (i, slice_index_or l i silent)) (pick_line o)

pub record Told (l : List ReportRecord) (o : Option ℕ) (before after : List ℕ) (k : ℕ) : Type 0 where
  -- a line has 17 bytes
  pub whole : k ≡ 17 * (length l + 1)
  pub room : k ≤ length before
  -- as many bytes as before
  pub same_length : length after ≡ length before
  -- the line that stands there is in form, and tells this
  pub reads : (i : ℕ) → i ≤ length l → line_at after (17 * i) ≡ Ok (line_of_turn l o i)
  -- bytes past the text
  pub others : drop k after ≡ drop k before

-- 17
pub record NumberOver (l : List ReportRecord) (o : Option ℕ) (place : ℕ) : Type 0 where
  -- which line
  pub turn : ℕ
  pub is_place : place ≡ 17 * turn
  pub one_of : turn ≤ length l
  -- some number is too large for its field
  pub over : Fits (line_of_turn l o turn).fields → ⊥
  -- and none before it
  pub first : (j : ℕ) → j < turn → Fits (line_of_turn l o j).fields

-- 9
pub record Short (l : List ReportRecord) (o : Option ℕ) (room needed : ℕ) : Type 0 where
  -- no number is too large
  pub fits : (i : ℕ) → i ≤ length l → Fits (line_of_turn l o i).fields
  pub whole : needed ≡ report_length l
  pub less : room < needed

abbrev pub RefusedFor : List ReportRecord → Option ℕ → ℕ → TextFault → Type 0
RefusedFor l o room (BadForm p) = ⊥
RefusedFor l o room (Misplaced p) = ⊥
RefusedFor l o room (OutOfLimits p) = NumberOver l o p
RefusedFor l o room (TooFew k) = Short l o room k

abbrev pub Reports : List ReportRecord → Option ℕ → List ℕ → List ℕ → Result ℕ TextFault → Type 0
Reports l o before after (Ok k) = Told l o before after k
Reports l o before after (Err f) = (after ≡ before) × RefusedFor l o (length before) f
