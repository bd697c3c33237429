use Rattle.std.proofs.Common.{◌≡◌, ◌-◌, length}
use Rattle.texts.specs.Reader.{past_lines}
use Rattle.queries.specs.QueryRead.{mark_step, lines_read, marks_read}
use Rattle.queries.proofs.query.read_marks.Given as goal

-- what is left of the lines gives the whole
abbrev pub invariant-loop-mark : goal.invariant-loop-mark
invariant-loop-mark l =
    let r = l.initial.reader in
    let n = length l.initial.marks in
    (marks_read r.text.now r.at n l.initial.marks ≡ lines_read (mark_step r.text.now r.at) l.mark-index (n - l.mark-index) l.marks)
    × (l.reader ≡ past_lines l.mark-index r)
