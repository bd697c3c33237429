-- The laws of the answer, at the two ways out.
use Rattle.std.proofs.Common.{Ok, Err, sym, ap, ◌∙◌}
use Rattle.std.proofs.lemmas.Result.{err_from_is_err_and}
use Rattle.trees.proofs.Fills.{fill_laws}
use Rattle.trees.proofs.tree.SpanningTree.fill.Goals as goal

pub returns-in_err-tree-clause-exactly : goal.returns-in_err-tree-clause-exactly
returns-in_err-tree-clause-exactly g c =
    let m = g.G.ReadableGraph.meaning c.args.graph.now in
    let s = g.met.G.ReadableGraph.simple c.args.graph.now in
    let p = err_from_is_err_and c.from_residual.result c.from_residual.ensures.1 in
    (fill_laws m s c.args.marks.now c.from_residual.result (p.1 ∙ ap (λ f. Err f) p.2 ∙ sym c.in_err-tree.ensures.answer)).exactly

pub returns-in_err-tree-clause-refused : goal.returns-in_err-tree-clause-refused
returns-in_err-tree-clause-refused g c =
    let m = g.G.ReadableGraph.meaning c.args.graph.now in
    let s = g.met.G.ReadableGraph.simple c.args.graph.now in
    let p = err_from_is_err_and c.from_residual.result c.from_residual.ensures.1 in
    (fill_laws m s c.args.marks.now c.from_residual.result (p.1 ∙ ap (λ f. Err f) p.2 ∙ sym c.in_err-tree.ensures.answer)).refused

pub returns-clause-exactly : goal.returns-clause-exactly
returns-clause-exactly g c =
    let m = g.G.ReadableGraph.meaning c.args.graph.now in
    let s = g.met.G.ReadableGraph.simple c.args.graph.now in
    (fill_laws m s c.args.marks.now (Ok tt) (sym c.in_ok-tree.ensures.answer)).exactly
