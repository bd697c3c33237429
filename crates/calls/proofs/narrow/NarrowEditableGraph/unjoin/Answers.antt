use Rattle.std.proofs.Common.{◌≤◌, sym, subst}
use Rattle.theory.specs.Graph.{size}
use Rattle.bits.specs.Table.{graph_of}
use Rattle.bits.specs.contracts.table.BitTableReadableGraph.TheImpl.Laws.{simple-law}
use Rattle.calls.proofs.Few.{unjoined_few}
use Rattle.calls.proofs.narrow.NarrowEditableGraph.unjoin.Goals as goal

-- there is one join less, or as many
pub invariant_of-self : goal.invariant_of-self
invariant_of-self c =
    let s = c.args.self.now in
    let few = unjoined_few (graph_of s.graph) c.args.a c.args.b s.most (simple-law s.graph) s.fits c.unjoin.result c.unjoin.ensures.answer in
    record { fits = subst (λ g. size g ≤ s.most) (sym c.unjoin.ensures.meant) few; low = s.low }
