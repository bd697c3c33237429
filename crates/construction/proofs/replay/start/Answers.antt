-- None of the three joins of an accepted triangle is refused.
use Rattle.std.proofs.Common.{sym, ◌∙◌}
use Rattle.construction.proofs.Inner.{never, first_goes, second_goes, third_goes}
use Rattle.construction.proofs.replay.start.Goals as goal

pub returns-in_err-at_place : goal.returns-in_err-at_place
returns-in_err-at_place g c =
    absurd (never 0 c.join.result c.at_place.result c.at_place.ensures c.in_err-at_place.field-0.0
    (c.join.ensures.answer
    ∙ first_goes (g.G.ReadableGraph.meaning c.args.graph.now) (g.G.EditableGraph.limit c.args.graph.now) c.args.t (g.met.G.ReadableGraph.simple c.args.graph.now)
    (sym c.judge_start.ensures ∙ c.in_ok-judge_start.was))
    c.in_err-at_place.was)

pub returns-in_err-at_place-2 : goal.returns-in_err-at_place-2
returns-in_err-at_place-2 g c =
    absurd (never 0 c.join-2.result c.at_place-2.result c.at_place-2.ensures c.in_err-at_place-2.field-0.0
    (c.join-2.ensures.answer
    ∙ second_goes (g.G.ReadableGraph.meaning c.args.graph.now) (g.G.EditableGraph.limit c.args.graph.now) c.args.t (g.met.G.ReadableGraph.simple c.args.graph.now)
    (sym c.judge_start.ensures ∙ c.in_ok-judge_start.was)
    (g.G.ReadableGraph.meaning c.join.new.self) (g.G.EditableGraph.limit c.join.new.self) c.join.result c.join.ensures.answer c.join.ensures.meant c.join.ensures.same)
    c.in_err-at_place-2.was)

pub returns-in_err-at_place-3 : goal.returns-in_err-at_place-3
returns-in_err-at_place-3 g c =
    absurd (never 0 c.join-3.result c.at_place-3.result c.at_place-3.ensures c.in_err-at_place-3.field-0.0
    (c.join-3.ensures.answer
    ∙ third_goes (g.G.ReadableGraph.meaning c.args.graph.now) (g.G.EditableGraph.limit c.args.graph.now) c.args.t (g.met.G.ReadableGraph.simple c.args.graph.now)
    (sym c.judge_start.ensures ∙ c.in_ok-judge_start.was)
    (g.G.ReadableGraph.meaning c.join.new.self) (g.G.EditableGraph.limit c.join.new.self) c.join.result c.join.ensures.answer c.join.ensures.meant c.join.ensures.same
    (g.G.ReadableGraph.meaning c.join-2.new.self) (g.G.EditableGraph.limit c.join-2.new.self) c.join-2.result c.join-2.ensures.answer c.join-2.ensures.meant c.join-2.ensures.same)
    c.in_err-at_place-3.was)
