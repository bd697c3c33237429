-- Each turn counts one more table.
use Rattle.std.proofs.Common.{◌≡◌, ℕ, suc, ◌-◌, ◌<◌, true, List, length, length-set, get_or, set, pos, sym, ap, ◌∙◌, subst, arith}
use Rattle.theory.specs.Graph.{table_count}
use Rattle.disassembly.specs.Search.{has}
use Rattle.spanning.specs.Laws.{parent_in}
use Rattle.traversal.proofs.Stacks.{stacked}
use Rattle.driving.proofs.Order.{all_told, parent_told}
use Rattle.driving.proofs.Signed.{may_move, moves_to}
use Rattle.driving.proofs.Summing.{Summed, sum_begins, next_table, parent_summed, sum_more, sum_all}
use Rattle.traversal.specs.Order.{tables_in}
use Rattle.driving.proofs.sums.sums.Goals as goal

-- of the places 0 to k - 1 the last is k - 1
last_place : (k : ℕ) → 0 < k → suc (k - 1) ≡ k
last_place k h = omega arith

pub loop-k-init : goal.loop-k-init
loop-k-init c =
    let s = c.args.survey.now in
    let long : length (tables_in s.left) ≡ length c.as_slice-left.result.now = ap length (sym c.as_slice-left.ensures.value) in
    record {
      long = omega arith;
      told = λ t counts h. sum_begins t h.spanning s h.search counts c.begun-counts.result (c.begun-counts.ensures ∙ sym h.root) (length c.as_slice-left.result.now)
          (λ x l. subst (λ k. has (stacked k (tables_in s.left)) x ≡ true) long (all_told t h.spanning s h.search x l));
    }

pub moved-requires : goal.moved-requires
moved-requires c =
    let s = c.args.survey.now in
    let t = c.requires.0 in
    let counts = c.requires.1 in
    let h = c.requires.2 in
    let k = c.loop-k.k - 1 in
    let v = get_or c.as_slice-left.result.now k 0 in
    let is : v ≡ get_or (tables_in s.left) k 0 = ap (λ (l : List ℕ). get_or l k 0) c.as_slice-left.ensures.value in
    let long : length c.as_slice-left.result.now ≡ length (tables_in s.left) = ap length c.as_slice-left.ensures.value in
    let up : suc k ≡ c.loop-k.k = last_place c.loop-k.k c.loop-k-test.true in
    let low : k < length (tables_in s.left) = omega (arith, c.loop-k.auto.k) in
    let known = subst (λ j. Summed t h.spanning s h.search counts j c.loop-k.counts) (sym up) (c.loop-k.invariant.told t counts h) in
    let table : v < table_count t = subst (λ y. y < table_count t) (sym is) (next_table t h.spanning s h.search counts k low c.loop-k.counts known) in
    let small : v < 64 = subst (λ y. y < 64) (sym is) (s.low k) in
    let parent : (get_or s.found v c.index-survey-v.result).parent ≡ parent_in t v = parent_told t h.spanning s h.search v c.index-survey-v.result (omega arith) in
    may_move (counts (parent_in t v)) (counts v) _ (get_or c.args.counters.now v (pos 0))
    (ap (λ y. get_or c.loop-k.counts y 0) parent
    ∙ subst (λ y. get_or c.loop-k.counts (parent_in t y) 0 ≡ counts (parent_in t y)) (sym is) (parent_summed t h.spanning s h.search counts k low c.loop-k.counts known))
    (h.moves v table) (h.fits (parent_in t v)) (h.fits v)

pub loop-k-preserved : goal.loop-k-preserved
loop-k-preserved c = record {
  long = length-set c.loop-k.counts _ c.moved.result ∙ c.loop-k.invariant.long;
  told = λ t counts h.
      let s = c.args.survey.now in
      let k = c.loop-k.k - 1 in
      let v = get_or c.as_slice-left.result.now k 0 in
      let is : v ≡ get_or (tables_in s.left) k 0 = ap (λ (l : List ℕ). get_or l k 0) c.as_slice-left.ensures.value in
      let long : length c.as_slice-left.result.now ≡ length (tables_in s.left) = ap length c.as_slice-left.ensures.value in
      let up : suc k ≡ c.loop-k.k = last_place c.loop-k.k c.loop-k-test.true in
      let low : k < length (tables_in s.left) = omega (arith, c.loop-k.auto.k) in
      let known = subst (λ j. Summed t h.spanning s h.search counts j c.loop-k.counts) (sym up) (c.loop-k.invariant.told t counts h) in
      let table : v < table_count t = subst (λ y. y < table_count t) (sym is) (next_table t h.spanning s h.search counts k low c.loop-k.counts known) in
      let small : v < 64 = subst (λ y. y < 64) (sym is) (s.low k) in
      let parent : (get_or s.found v c.index-survey-v.result).parent ≡ parent_in t v = parent_told t h.spanning s h.search v c.index-survey-v.result (omega arith) in
      let sum : c.moved.result ≡ counts v =
      moves_to (counts (parent_in t v)) (counts v) _ c.moved.result (get_or c.args.counters.now v (pos 0))
      (ap (λ y. get_or c.loop-k.counts y 0) parent
      ∙ subst (λ y. get_or c.loop-k.counts (parent_in t y) 0 ≡ counts (parent_in t y)) (sym is) (parent_summed t h.spanning s h.search counts k low c.loop-k.counts known))
      (h.moves v table) (h.fits (parent_in t v)) (h.fits v) c.moved.ensures in
      subst (λ y. Summed t h.spanning s h.search counts k (set c.loop-k.counts y c.moved.result)) (sym is)
      (sum_more t h.spanning s h.search counts k low c.loop-k.counts known c.moved.result (let r = s.low k in omega (arith, c.loop-k.invariant.long)) (sum ∙ ap counts is));
}

pub returns : goal.returns
returns c = λ t counts h.
    let none : c.loop-k.k ≡ 0 = omega (arith, c.loop-k-test.false) in
    sum_all t h.spanning c.args.survey.now h.search counts c.loop-k.counts
    (subst (λ k. Summed t h.spanning c.args.survey.now h.search counts k c.loop-k.counts) none (c.loop-k.invariant.told t counts h))
