-- The store takes the mark, which closes no ring, and the labels of its two tables are merged.
use Rattle.std.proofs.Common.{◌≡◌, sym, subst}
use Rattle.theory.specs.Graph.{joining}
use Rattle.bits.specs.Table.{graph_of}
use Rattle.bits.proofs.Edits.{simple_of}
use Rattle.spanning.specs.Laws.{Acyclic}
use Rattle.spanning.proofs.Forests.{Forest, forest_join}
use Rattle.trees.specs.Labels.{label}
use Rattle.trees.proofs.Leads.{Told, told_join, apart_walk, put_means}
use Rattle.trees.proofs.forest.Forest.put.Goals as goal

pub returns : goal.returns
returns c =
    let forest = c.args.self.now in
    put_means (graph_of forest.marks) (simple_of forest.marks) c.args.mark.v c.args.mark.w c.requires.tables.0 c.requires.tables.1 c.requires.apart
    (graph_of c.join.new.self) c.join.result c.join.ensures.answer c.join.ensures.meant

pub invariant_of-self : goal.invariant_of-self
invariant_of-self c =
    let forest = c.args.self.now in
    let t = graph_of forest.marks in
    let a = c.args.mark.v in
    let b = c.args.mark.w in
    let f : Forest t = record { simple = simple_of forest.marks; acyclic = forest.acyclic } in
    let means : graph_of c.join.new.self ≡ joining t a b = put_means t f.simple a b c.requires.tables.0 c.requires.tables.1 c.requires.apart
    (graph_of c.join.new.self) c.join.result c.join.ensures.answer c.join.ensures.meant in
    record {
      acyclic = subst (λ k. Acyclic k) (sym means) (forest_join t f a b c.requires.tables.0 c.requires.tables.1
          (apart_walk t f.simple a b c.requires.tables.0 c.requires.apart)).acyclic;
      labelled = subst (λ k. Told k (label c.merge.new.self)) (sym means)
          (told_join t f (label forest.labels) forest.labelled a b c.requires.tables.0 c.requires.tables.1 c.requires.apart
          (label c.merge.new.self) c.merge.ensures);
    }
