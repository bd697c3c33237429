use Rattle.std.proofs.Common.{◌≡◌, ◌-◌}
use Rattle.texts.specs.Reader.{past_lines}
use Rattle.queries.specs.QueryRead.{row_step, lines_read, rows_read}
use Rattle.queries.proofs.query.read_row_lines.Given as goal

-- what is left of the lines gives the whole
abbrev pub invariant-loop : goal.invariant-loop
invariant-loop l =
    let r = l.initial.reader in
    (rows_read l.graph.count r.text.now r.at l.count l.initial.rows.records
    ≡ lines_read (row_step l.graph.count r.text.now r.at) l.counter (l.count - l.counter) l.rows.records)
    × (l.reader ≡ past_lines l.counter r)
