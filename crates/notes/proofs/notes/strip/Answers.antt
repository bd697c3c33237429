use Rattle.std.proofs.Common.{ap, arith}
use Rattle.sets.specs.Set.{tables_of}
use Rattle.sets.specs.Rows.{in_row}
use Rattle.disassembly.specs.Disassembly.{edges}
use Rattle.notes.specs.Notes.{others}
use Rattle.notes.proofs.Poured.{lays_as}
use Rattle.notes.proofs.Strip.{others_has, others_of, all_out}
use Rattle.notes.proofs.notes.strip.Goals as goal

pub returns-clause-joins : goal.returns-clause-joins
returns-clause-joins c =
    let rows = c.args.rows.now in
    let u = c.args.u in
    let f = c.args.f in
    let a = c.args.a in
    let k = c.without-2.result in
    all_out (in_row rows) _ _ _ _ u f a (tables_of k) c.requires.symmetric
    (others_has rows u f a c.row.result c.without.result k c.row.ensures c.without.ensures c.without-2.ensures (omega arith))
    c.strip_others.ensures.joins c.remove.ensures c.remove-2.ensures c.clear.ensures

pub returns-clause-notes : goal.returns-clause-notes
returns-clause-notes c =
    let rows = c.args.rows.now in
    let u = c.args.u in
    let f = c.args.f in
    let a = c.args.a in
    let k = c.without-2.result in
    lays_as c.args.notes.now c.strip_others.new.notes (edges u (tables_of k)) (edges u (others (in_row rows) u f a))
    (ap (edges u) (others_of rows u f a c.row.result c.without.result k c.row.ensures c.without.ensures c.without-2.ensures)) c.strip_others.ensures.notes
