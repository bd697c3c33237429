-- All tables of the graph are searched.
use Rattle.std.proofs.Common.{◌-◌, min, arith}
use Rattle.bits.proofs.Edits.{simple_of}
use Rattle.sets.specs.Set.{bit}
use Rattle.sets.specs.Rows.{in_row}
use Rattle.sets.proofs.Bit.{bit_small}
use Rattle.traversal.proofs.Surveying.{told, search_of}
use Rattle.traversal.proofs.surveys.search.Goals as goal

pub returns : goal.returns
returns c =
    let g = c.args.graph.now in
    let w = c.run.new.self in
    let U = bit c.all_tables.result in
    let J = in_row c.rows.result in
    search_of g.count g.rows (simple_of g) c.rows.result c.rows.ensures.is c.all_tables.result c.all_tables.ensures c.min.result (min c.args.start (g.count - 1)) w.survey (omega arith)
    (told U J c.min.result w.survey (c.run.ensures U c.min.result (λ a. bit_small c.all_tables.result 64 a (omega arith)) c.new-walk.ensures) w.untold)
