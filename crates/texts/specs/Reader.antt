-- Where a reader of a text stands after a line.
--
--   past r           r, with one line passed
--   past_lines k r   r, with k lines passed
--   left_by a r      r after the answer a: past the line that it is of, or where it was
use Rattle.std.specs.Prelude.{ℕ, ◌+◌, ◌*◌, Ok, Err, Result}
use Rattle.texts.specs.declared.reader.Reader.{Reader}

abbrev pub past : Reader → Reader
past r = record r { at = r.at + 17 }

abbrev pub past_lines : ℕ → Reader → Reader
past_lines k r = record r { at = r.at + 17 * k }

abbrev pub left_by : {X E : Type 0} → Result X E → Reader → Reader
left_by (Ok x) r = past r
left_by (Err e) r = r
