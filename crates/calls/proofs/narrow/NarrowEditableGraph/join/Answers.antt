use Rattle.std.proofs.Common.{sym, ap, ◌∙◌, arith}
use Rattle.theory.specs.Graph.{size}
use Rattle.bits.specs.Table.{graph_of}
use Rattle.bits.specs.contracts.table.BitTableReadableGraph.TheImpl.Laws.{simple-law}
use Rattle.calls.proofs.Few.{with_room, without_room}
use Rattle.calls.proofs.narrow.NarrowEditableGraph.join.Goals as goal

-- the table of bits took the pair, and it is one too many
pub returns-then-joins-self-clause-answer : goal.returns-then-joins-self-clause-answer
returns-then-joins-self-clause-answer c =
    let s = c.args.self.now in
    let made = c.joins.ensures ∙ ap size c.in_ok-join.ensures.meant in
    without_room (graph_of s.graph) 2016 c.args.a c.args.b s.most (simple-law s.graph) (sym c.in_ok-join.ensures.answer) (omega (arith, made, c.if-joins-self.true))

-- or it is not
pub returns-clause-answer : goal.returns-clause-answer
returns-clause-answer c =
    let s = c.args.self.now in
    let made = c.joins.ensures ∙ ap size c.in_ok-join.ensures.meant in
    with_room (graph_of s.graph) 2016 c.args.a c.args.b s.most (simple-law s.graph) (sym c.in_ok-join.ensures.answer) (omega (arith, made, c.if-joins-self.false))
