-- Each turn hands on what one more table touches.
use Rattle.std.proofs.Common.{◌≡◌, ℕ, ◌-◌, ◌<◌, List, length, get_or, take, ap, ◌∙◌, subst, sym, arith}
use Rattle.std.proofs.lemmas.List.{get_or-take, length-take-le}
use Rattle.sets.specs.Rows.{in_row}
use Rattle.traversal.specs.Folding.{touches}
use Rattle.traversal.proofs.Stacks.{take_small}
use Rattle.traversal.proofs.Finished.{some_left, start_last, way_start, way_on, way_end}
use Rattle.traversal.specs.Order.{tables_in}
use Rattle.traversal.proofs.articulations.articulations.Goals as goal

pub overflow_sub-last : goal.overflow_sub-last
overflow_sub-last c =
    let long : length c.as_slice-left.result.now ≡ length (tables_in c.args.survey.now.left) = ap length c.as_slice-left.ensures.value in
    omega (arith, some_left c.requires.0 (in_row c.args.rows.now) c.requires.1 c.args.survey.now c.requires.2)

pub bounds-left-last : goal.bounds-left-last
bounds-left-last c =
    let long : length c.as_slice-left.result.now ≡ length (tables_in c.args.survey.now.left) = ap length c.as_slice-left.ensures.value in
    omega (arith, some_left c.requires.0 (in_row c.args.rows.now) c.requires.1 c.args.survey.now c.requires.2)

pub loop-v-init : goal.loop-v-init
loop-v-init c = record {
  start = c.new-lows.ensures.start ∙ ap (λ (l : List ℕ). get_or l (length l - 1) 0) c.as_slice-left.ensures.value;
  folds = λ U r w. way_start c.new-lows.result c.new-lows.ensures.below c.new-lows.ensures.cuts U c.args.rows.now r c.args.survey.now;
}

pub fold-requires : goal.fold-requires
fold-requires c =
    let s = c.args.survey.now in
    let k = length c.as_slice-left.result.now - 1 in
    subst (λ (l : List ℕ). get_or (take k l) c.loop-v.v-index 0 < 64) (sym c.as_slice-left.ensures.value) (take_small 64 k (tables_in s.left) s.low c.loop-v.v-index)

pub loop-v-preserved : goal.loop-v-preserved
loop-v-preserved c =
    let s = c.args.survey.now in
    let q = c.loop-v.invariant in
    let i = c.loop-v.v-index in
    let left = c.as_slice-left.result.now in
    let v = get_or (take (length left - 1) left) i 0 in
    let long : length left ≡ length (tables_in s.left) = ap length c.as_slice-left.ensures.value in
    let most : length (take (length left - 1) left) ≡ length left - 1 = length-take-le (length left - 1) left (omega arith) in
    let low : i < length (tables_in s.left) - 1 = omega (arith, c.loop-v-test.true) in
    let here : v ≡ get_or (tables_in s.left) i 0 = get_or-take (length left - 1) left i 0 (omega arith) ∙ ap (λ (l : List ℕ). get_or l i 0) c.as_slice-left.ensures.value in
    record {
      start = c.fold.ensures.start ∙ q.start;
      folds = λ U r w. way_on U (in_row c.args.rows.now) r s w c.args.rows.now i low c.loop-v.lows (q.folds U r w) v here c.fold.new.self c.fold.ensures
          (q.start ∙ start_last U (in_row c.args.rows.now) r s w);
    }

pub returns : goal.returns
returns c = λ U r w.
    let s = c.args.survey.now in
    let left = c.as_slice-left.result.now in
    let long : length left ≡ length (tables_in s.left) = ap length c.as_slice-left.ensures.value in
    let most : length (take (length left - 1) left) ≡ length left - 1 = length-take-le (length left - 1) left (omega arith) in
    let end : c.loop-v.v-index ≡ length (tables_in s.left) - 1 = omega (arith, c.loop-v-test.false, c.loop-v.auto.v-index-end) in
    way_end U (in_row c.args.rows.now) r s w c.loop-v.v-index c.loop-v.lows.cuts (touches c.args.rows.now c.loop-v.lows) end (c.loop-v.invariant.folds U r w)
