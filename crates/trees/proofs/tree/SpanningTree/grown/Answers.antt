-- The three ways out: another number of marks, a mark that is refused, and a tree.
use Rattle.std.proofs.Common.{◌≡◌, sym, ap, ◌∙◌}
use Rattle.std.proofs.lemmas.Result.{err_from_is_err_and}
use Rattle.theory.specs.Graph.{no_joins, table_count}
use Rattle.bits.specs.Table.{graph_of}
use Rattle.trees.proofs.Fills.{count_ok, count_err, exit_told, answered, made_tree, made_fewer}
use Rattle.trees.proofs.tree.SpanningTree.grown.Goals as goal

pub returns-in_err-judge_count-clause-answer : goal.returns-in_err-judge_count-clause-answer
returns-in_err-judge_count-clause-answer g c =
    let m = g.G.ReadableGraph.meaning c.args.graph.now in
    let s = g.met.G.ReadableGraph.simple c.args.graph.now in
    let l = c.args.marks.now in
    let p = err_from_is_err_and c.from_residual.result c.from_residual.ensures.1 in
    exit_told m s l c.from_residual.result p.0 c.in_err-judge_count.field-0.0 p.1 p.2
    (count_err m s l c.judge_count.result c.in_err-judge_count.field-0.0 c.judge_count.ensures c.in_err-judge_count.was)

pub returns-in_err-gather-clause-answer : goal.returns-in_err-gather-clause-answer
returns-in_err-gather-clause-answer g c =
    let m = g.G.ReadableGraph.meaning c.args.graph.now in
    let s = g.met.G.ReadableGraph.simple c.args.graph.now in
    let l = c.args.marks.now in
    let t = graph_of c.new-forest.result.marks in
    let none : t ≡ no_joins (table_count m) = c.new-forest.ensures ∙ ap no_joins c.tables.ensures in
    let count = count_ok m s l c.judge_count.result c.judge_count.ensures c.in_ok-judge_count.was in
    let r = c.from_residual-in_err-gather.result in
    let p = err_from_is_err_and r c.from_residual-in_err-gather.ensures.1 in
    exit_told m s l r p.0 c.in_err-gather.field-0.0 p.1 p.2
    (sym (answered m s l count t t none c.gather.result c.gather.ensures.answer) ∙ c.in_err-gather.was)

pub invariant_of-result : goal.invariant_of-result
invariant_of-result g c =
    let m = g.G.ReadableGraph.meaning c.args.graph.now in
    let s = g.met.G.ReadableGraph.simple c.args.graph.now in
    let l = c.args.marks.now in
    let t = graph_of c.new-forest.result.marks in
    let u = graph_of c.gather.new.self.marks in
    let none : t ≡ no_joins (table_count m) = c.new-forest.ensures ∙ ap no_joins c.tables.ensures in
    let count = count_ok m s l c.judge_count.result c.judge_count.ensures c.in_ok-judge_count.was in
    record {
      acyclic = c.gather.new.self.acyclic;
      fewer = made_fewer m s l count t u none c.gather.result c.gather.ensures.answer c.in_ok-gather.was (c.gather.ensures.gathered c.in_ok-gather.was);
    }

pub returns-clause-answer : goal.returns-clause-answer
returns-clause-answer g c =
    let m = g.G.ReadableGraph.meaning c.args.graph.now in
    let s = g.met.G.ReadableGraph.simple c.args.graph.now in
    let l = c.args.marks.now in
    let t = graph_of c.new-forest.result.marks in
    let none : t ≡ no_joins (table_count m) = c.new-forest.ensures ∙ ap no_joins c.tables.ensures in
    let count = count_ok m s l c.judge_count.result c.judge_count.ensures c.in_ok-judge_count.was in
    sym (answered m s l count t t none c.gather.result c.gather.ensures.answer) ∙ c.in_ok-gather.was

pub returns-clause-filled : goal.returns-clause-filled
returns-clause-filled g c =
    let m = g.G.ReadableGraph.meaning c.args.graph.now in
    let s = g.met.G.ReadableGraph.simple c.args.graph.now in
    let l = c.args.marks.now in
    let t = graph_of c.new-forest.result.marks in
    let u = graph_of c.gather.new.self.marks in
    let none : t ≡ no_joins (table_count m) = c.new-forest.ensures ∙ ap no_joins c.tables.ensures in
    let count = count_ok m s l c.judge_count.result c.judge_count.ensures c.in_ok-judge_count.was in
    made_tree m s l count t u none c.gather.result c.gather.ensures.answer c.in_ok-gather.was (c.gather.ensures.gathered c.in_ok-gather.was)
