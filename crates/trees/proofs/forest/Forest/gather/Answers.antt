-- Each turn leaves what the rest of the marks gives, and the first refusal is the whole's.
use Rattle.std.proofs.Common.{sym, ap, ◌∙◌}
use Rattle.std.proofs.lemmas.Result.{err_from_is_err_and}
use Rattle.theory.specs.Graph.{Graph}
use Rattle.theory.specs.declared.mark.Mark.{Mark}
use Rattle.bits.specs.Table.{graph_of}
use Rattle.trees.specs.Tree.{marks_judged}
use Rattle.trees.specs.Forest.{with_marks}
use Rattle.trees.proofs.Turns.{goes_on, adds_on, stops, ends}
use Rattle.trees.proofs.forest.Forest.gather.Goals as goal

pub loop-i-preserved : goal.loop-i-preserved
loop-i-preserved g c =
    let m = g.G.ReadableGraph.meaning c.args.graph.now in
    let first = graph_of c.args.self.now.marks in
    let t = graph_of c.loop-i.self.marks in
    let u = graph_of c.put.new.self.marks in
    let l = c.args.marks.now in
    let d : Mark = record { v = 0; w = 0 } in
    record {
      tables = ap (λ (k : Graph). k.tables) c.put.ensures ∙ c.loop-i.invariant.tables;
      judged = goes_on m t l c.loop-i.i d c.loop-i-test.true (marks_judged m first 0 l) c.loop-i.invariant.judged
          c.judge.result c.judge.ensures c.at_place.result c.at_place.ensures c.in_ok-at_place.was u c.put.ensures;
      gathered = adds_on m t l c.loop-i.i d c.loop-i-test.true (with_marks first l) u c.loop-i.invariant.gathered c.put.ensures;
    }

pub returns-in_err-at_place-clause-answer : goal.returns-in_err-at_place-clause-answer
returns-in_err-at_place-clause-answer g c =
    let m = g.G.ReadableGraph.meaning c.args.graph.now in
    let first = graph_of c.args.self.now.marks in
    let t = graph_of c.loop-i.self.marks in
    let l = c.args.marks.now in
    let p = err_from_is_err_and c.from_residual.result c.from_residual.ensures.1 in
    stops m t l c.loop-i.i (record { v = 0; w = 0 }) c.loop-i-test.true (marks_judged m first 0 l) c.loop-i.invariant.judged
    c.judge.result c.judge.ensures c.at_place.result c.at_place.ensures c.in_err-at_place.field-0.0 p.0 c.from_residual.result c.in_err-at_place.was p.1 p.2

pub returns-clause-answer : goal.returns-clause-answer
returns-clause-answer g c =
    let m = g.G.ReadableGraph.meaning c.args.graph.now in
    sym (c.loop-i.invariant.judged ∙ ends m (graph_of c.loop-i.self.marks) c.args.marks.now c.loop-i.i c.loop-i-test.false)
