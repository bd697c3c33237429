-- From no joins to all of them.
use Rattle.std.proofs.Common.{◌≡◌, ◌+◌, sym, ap, ◌∙◌, arith}
use Rattle.theory.specs.Graph.{table_count, no_joins, clamped}
use Rattle.bits.specs.Copy.{copied}
use Rattle.theory.proofs.Sizes.{clamped_same}
use Rattle.bits.proofs.Copies.{copied_none, copied_all}
use Rattle.bits.proofs.table.BitTable.copy_of.Goals as goal

pub loop-v-init : goal.loop-v-init
loop-v-init g c =
    let m = g.G.ReadableGraph.meaning c.args.graph.now in
    let s = g.met.G.ReadableGraph.simple c.args.graph.now in
    let as_many : clamped c.tables-tables.result ≡ table_count m = ap clamped c.tables-tables.ensures ∙ clamped_same (table_count m) s.some s.few in
    c.new-copy.ensures ∙ ap no_joins as_many ∙ sym (copied_none m s)

pub returns : goal.returns
returns g c =
    let m = g.G.ReadableGraph.meaning c.args.graph.now in
    let s = g.met.G.ReadableGraph.simple c.args.graph.now in
    let last : c.loop-v.v ≡ table_count m = omega arith in
    c.loop-v.invariant ∙ ap (λ v. copied m v (v + 1)) last ∙ copied_all m s
