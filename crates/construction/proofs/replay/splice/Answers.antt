-- The third edit of a node step is never refused: there is room, since the first was accepted.
use Rattle.std.proofs.Common.{sym, ap, ◌∙◌}
use Rattle.theory.specs.Graph.{joining, unjoining}
use Rattle.construction.proofs.Joins.{join_room, third_ok}
use Rattle.construction.proofs.Inner.{passed, never, became, join_at, is_held}
use Rattle.construction.proofs.replay.splice.Goals as goal

pub returns-in_err-at_place-3 : goal.returns-in_err-at_place-3
returns-in_err-at_place-3 g c =
    let u = c.args.node.u in
    let v = c.args.node.ends.v in
    let w = c.args.node.ends.w in
    let m = g.G.ReadableGraph.meaning c.args.graph.now in
    let m₁ = g.G.ReadableGraph.meaning c.join.new.self in
    let n = g.G.EditableGraph.limit c.args.graph.now in
    let k = c.args.node.ends.step in
    let held = is_held m v w
    (sym c.held.ensures ∙ passed k c.held.result c.at_place.result c.at_place.ensures c.in_ok-at_place.field-0 c.in_ok-at_place.was) in
    let ok₁ = passed k c.join.result c.at_place-2.result c.at_place-2.ensures c.in_ok-at_place-2.field-0 c.in_ok-at_place-2.was in
    let e₁ = became m m₁ (joining m u v) c.join.result c.join.ensures.meant ok₁ in
    absurd (never k c.join-2.result c.at_place-3.result c.at_place-3.ensures c.in_err-at_place-3.field-0.0
    (c.join-2.ensures.answer
    ∙ join_at (unjoining (joining m u v) v w) (g.G.ReadableGraph.meaning c.take_out.new.graph) n (g.G.EditableGraph.limit c.take_out.new.graph) u w
    (c.take_out.ensures.meant ∙ ap (λ x. unjoining x v w) e₁) (c.take_out.ensures.same ∙ c.join.ensures.same)
    ∙ third_ok m n u v w (g.met.G.ReadableGraph.simple c.args.graph.now) c.requires.tables.0 c.requires.tables.1.0 c.requires.tables.1.1
    c.requires.apart.0 c.requires.apart.1.0 c.requires.apart.1.1 c.requires.alone held (join_room m n u v (sym c.join.ensures.answer ∙ ok₁)))
    c.in_err-at_place-3.was)
