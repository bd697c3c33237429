-- Without marks there is no ring, and each table is connected with itself alone.
use Rattle.std.proofs.Common.{◌≡◌, sym, ap, ◌∙◌, subst}
use Rattle.theory.specs.Graph.{no_joins}
use Rattle.theory.proofs.Sizes.{clamped_same}
use Rattle.bits.specs.Table.{graph_of}
use Rattle.spanning.specs.Laws.{Acyclic}
use Rattle.spanning.proofs.Forests.{forest_start}
use Rattle.trees.specs.Labels.{label}
use Rattle.trees.proofs.Leads.{Told, told_start}
use Rattle.trees.proofs.forest.Forest.new.Goals as goal

pub invariant_of-result : goal.invariant_of-result
invariant_of-result c =
    let n = c.args.tables in
    let means : graph_of c.new.result ≡ no_joins n = c.new.ensures ∙ ap no_joins (clamped_same n c.requires.0 c.requires.1) in
    record {
      acyclic = subst (λ t. Acyclic t) (sym means) (forest_start n c.requires.0 c.requires.1).acyclic;
      labelled = subst (λ t. Told t (label c.new-2.result)) (sym means) (told_start n c.requires.0 c.requires.1 (label c.new-2.result) c.new-2.ensures);
    }
