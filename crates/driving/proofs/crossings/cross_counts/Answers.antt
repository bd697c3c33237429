-- What lies under the tables and the counters tell how the cross counts move along the tree.
use Rattle.std.proofs.Common.{◌≡◌, ℕ, ◌<◌, List, ℤ, ap, sym, subst}
use Rattle.theory.specs.Graph.{Graph, joined, table_count}
use Rattle.spanning.specs.Crossing.{cross_count}
use Rattle.spanning.specs.Laws.{MarksOf}
use Rattle.sets.specs.Rows.{in_row}
use Rattle.bits.specs.Table.{graph_of}
use Rattle.traversal.specs.Survey.{Searches}
use Rattle.traversal.specs.declared.survey.Survey.{Survey}
use Rattle.driving.specs.Marked.{Marked}
use Rattle.driving.specs.Subtrees.{TellsTree}
use Rattle.driving.specs.declared.subtrees.Subtrees.{Subtrees}
use Rattle.driving.specs.Counters.{Counts}
use Rattle.driving.specs.Sums.{Sums}
use Rattle.driving.proofs.Signed.{moves_along, cross_fits}
use Rattle.driving.proofs.crossings.cross_counts.Goals as goal

module _ (m t : Graph) (joins marks : List ℕ) (s : Survey) (tree : MarksOf m t) (search : Searches t 0 s)
    (j : (a b : ℕ) → in_row joins a b ≡ joined m a b) (k : (a b : ℕ) → in_row marks a b ≡ joined t a b)
    (b : Subtrees) (tells : Marked m t joins marks s → TellsTree m t b) (n : ℕ) (l : List ℤ) (is : n ≡ table_count m) (counts : Counts joins marks s b.under n l) where
  marked : Marked m t joins marks s
  marked = record { tree = tree; joins_of = j; marks_of = k; search = search }

  sums_so : Sums t s b.cross l (cross_count m t)
  sums_so = record {
    spanning = tree.spanning;
    search = search;
    root = sym (tells marked).cross;
    moves = λ x xn. moves_along m t joins marks s marked b.under l (tells marked).under (subst (λ i. Counts joins marks s b.under i l) is counts) x (rw (sym tree.same) xn);
    fits = cross_fits m t tree.simple;
  }

pub sums-requires : goal.sums-requires
sums-requires c =
    let m = graph_of c.args.graph.now in
    let t = graph_of c.args.marks.now in (
      t,
      cross_count m t,
      sums_so m t c.rows-joins.result c.rows-marked.result c.args.survey.now c.requires.0 c.requires.1
          (λ x y. ap (λ (l : List ℕ). in_row l x y) c.rows-joins.ensures.is) (λ x y. ap (λ (l : List ℕ). in_row l x y) c.rows-marked.ensures.is)
          c.subtrees_of-trees.result (c.subtrees_of-trees.ensures m t) c.tables.result c.counters-counters.result c.tables.ensures c.counters-counters.ensures,
    )

pub returns : goal.returns
returns c = λ x xn.
    let m = graph_of c.args.graph.now in
    let t = graph_of c.args.marks.now in
    let sums = sums_so m t c.rows-joins.result c.rows-marked.result c.args.survey.now c.requires.0 c.requires.1
    (λ x y. ap (λ (l : List ℕ). in_row l x y) c.rows-joins.ensures.is) (λ x y. ap (λ (l : List ℕ). in_row l x y) c.rows-marked.ensures.is)
    c.subtrees_of-trees.result (c.subtrees_of-trees.ensures m t) c.tables.result c.counters-counters.result c.tables.ensures c.counters-counters.ensures in
    c.sums.ensures t (cross_count m t) sums x (subst (λ k. x < k) (sym c.requires.0.same) xn)
