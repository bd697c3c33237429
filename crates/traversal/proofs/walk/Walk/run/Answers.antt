-- Each turn is one move; a search that has ended stays where it is.
use Rattle.std.proofs.Common.{◌+◌, arith, sym, ◌∙◌}
use Rattle.disassembly.specs.Search.{moves, at_start}
use Rattle.sets.specs.Rows.{in_row}
use Rattle.traversal.proofs.Stacks.{none_on_top}
use Rattle.traversal.proofs.Moves.{no_moves, turned, ended_stands}
use Rattle.traversal.proofs.walk.Walk.run.Goals as goal

pub loop-table-init : goal.loop-table-init
loop-table-init c = λ U r few q.
    let w = c.args.self.now in
    (0, omega (arith, w.room, w.shares, q.next), no_moves U (in_row c.args.rows.now) (at_start r) w q)

pub loop-table-preserved : goal.loop-table-preserved
loop-table-preserved c = λ U r few q.
    let J = in_row c.args.rows.now in
    let i = c.loop-table.invariant U r few q in (
      i.0 + 1,
      omega (arith, i.1, c.turn.ensures.fewer),
      turned U J r i.0 c.turn.new.self (c.turn.ensures.moves U (moves i.0 U J (at_start r)) few i.2),
    )

pub returns : goal.returns
returns c = λ U r few q.
    let w = c.loop-table.self in
    let i = c.loop-table.invariant U r few q in
    ended_stands U (in_row c.args.rows.now) r i.0 w (omega (arith, i.1))
    (none_on_top w.path.slots.now w.path.len w.path.fits (sym c.top.ensures ∙ c.in_default.is)) i.2
