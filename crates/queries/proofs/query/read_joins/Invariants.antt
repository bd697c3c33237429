use Rattle.std.proofs.Common.{◌≡◌, ◌-◌}
use Rattle.texts.specs.Reader.{past_lines}
use Rattle.queries.specs.QueryRead.{join_step, lines_read, joins_read}
use Rattle.queries.proofs.query.read_joins.Given as goal

-- what is left of the lines gives the whole
abbrev pub invariant-loop : goal.invariant-loop
invariant-loop g l =
    let m = g.G.ReadableGraph.meaning in
    let n = g.G.EditableGraph.limit in
    let r = l.initial.reader in
    (n l.graph ≡ n l.initial.graph)
    × (joins_read (n l.initial.graph) r.text.now r.at l.count (m l.initial.graph)
    ≡ lines_read (join_step (n l.initial.graph) r.text.now r.at) l.counter (l.count - l.counter) (m l.graph))
    × (l.reader ≡ past_lines l.counter r)
