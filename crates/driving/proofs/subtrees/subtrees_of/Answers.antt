-- Each turn goes through one more table.
use Rattle.std.proofs.Common.{◌≡◌, ℕ, ◌+◌, ◌*◌, ◌<◌, ◌≤◌, List, length, get_or, ap, sym, subst, arith}
use Rattle.std.proofs.lemmas.List.{get_or_default}
use Rattle.traversal.specs.Discoveries.{undiscovered}
use Rattle.traversal.specs.declared.discovery.Discovery.{Discovery}
use Rattle.driving.proofs.Counted.{how_many_most}
use Rattle.driving.proofs.Gathering.{gone_none}
use Rattle.driving.proofs.Order.{parent_told, turn_told, end_told}
use Rattle.traversal.specs.Order.{tables_in}
use Rattle.driving.proofs.subtrees.subtrees_of.Goals as goal

bounded : (a b c i : ℕ) → a ≡ b + c → c ≤ 64 → b ≤ 64 * i → a ≤ 64 * (i + 1)
bounded a b c i e h k = omega arith

pub loop-v-init : goal.loop-v-init
loop-v-init c = record {
  few = let e = c.new-trees.ensures.cross in omega arith;
  told = λ m t h. gone_none c.new-trees.result c.new-trees.ensures m t;
}

pub gather-requires : goal.gather-requires
gather-requires c =
    let s = c.args.survey.now in
    let v = get_or c.as_slice-v-items.result.now c.loop-v.v-index 0 in
    let low : v < 64 = subst (λ (l : List ℕ). get_or l c.loop-v.v-index 0 < 64) (sym c.as_slice-v-items.ensures.value) (s.low c.loop-v.v-index) in
    let parent : (get_or s.found v c.index-survey-v.result).parent < 64 =
    subst (λ (d : Discovery). d.parent < 64) (sym (get_or_default s.found v c.index-survey-v.result undiscovered (omega arith))) (s.small v) in
    (low, (parent, omega (arith, c.loop-v.invariant.few, c.loop-v-test.true, c.as_slice-v-items.ensures.fits)))

pub loop-v-preserved : goal.loop-v-preserved
loop-v-preserved c =
    let s = c.args.survey.now in
    let i = c.loop-v.v-index in
    let v = get_or c.as_slice-v-items.result.now i 0 in
    let long : length c.as_slice-v-items.result.now ≡ length (tables_in s.left) = ap length c.as_slice-v-items.ensures.value in
    let low : v < 64 = subst (λ (l : List ℕ). get_or l i 0 < 64) (sym c.as_slice-v-items.ensures.value) (s.low i) in
    record {
      few = bounded c.gather.new.self.cross c.loop-v.trees.cross _ i c.gather.ensures.cross (how_many_most _) c.loop-v.invariant.few;
      told = λ m t h. turn_told m t c.args.joins.now c.args.marks.now s h i v (omega (arith, c.loop-v-test.true)) (ap (λ (l : List ℕ). get_or l i 0) c.as_slice-v-items.ensures.value)
          c.loop-v.trees c.gather.new.self (c.loop-v.invariant.told m t h) c.unmarked.result _ c.unmarked.ensures
          (parent_told t h.tree.spanning s h.search v c.index-survey-v.result (omega arith)) c.gather.ensures;
    }

pub returns : goal.returns
returns c = λ m t h.
    let long : length c.as_slice-v-items.result.now ≡ length (tables_in c.args.survey.now.left) = ap length c.as_slice-v-items.ensures.value in
    end_told m t c.args.joins.now c.args.marks.now c.args.survey.now h c.loop-v.v-index (omega (arith, c.loop-v-test.false, c.loop-v.auto.v-index-end)) c.loop-v.trees (c.loop-v.invariant.told m t h)
