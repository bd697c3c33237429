-- Each turn puts in one more counter.
use Rattle.std.proofs.Common.{◌≡◌, ℕ, ◌<◌, pos, ◌-ℤ◌, get_or, length-set, ap, ap₂, ◌∙◌, arith}
use Rattle.std.proofs.lemmas.List.{get_or_default}
use Rattle.sets.specs.Set.{bit}
use Rattle.traversal.specs.Discoveries.{parent_in, undiscovered}
use Rattle.traversal.specs.declared.discovery.Discovery.{Discovery}
use Rattle.driving.specs.Counters.{gained_by, lost_by}
use Rattle.driving.proofs.Counted.{how_many_most}
use Rattle.driving.proofs.Signed.{counts_more, counter_is}
use Rattle.driving.proofs.counters.counters.Goals as goal

pub loop-s-preserved : goal.loop-s-preserved
loop-s-preserved c =
    let joins = c.args.joins.now in
    let marks = c.args.marks.now in
    let s = c.args.survey.now in
    let under = c.args.under.now in
    let i = c.loop-s.s in
    let low : i < 64 = omega (arith, c.requires, c.loop-s-test.true) in
    let row : get_or under i c.index-under-s.result ≡ get_or under i 0 = get_or_default under i c.index-under-s.result 0 (omega arith) in
    let parent : (get_or s.found i c.index-survey-s.result).parent ≡ parent_in s.found i =
    ap (λ (d : Discovery). d.parent) (get_or_default s.found i c.index-survey-s.result undiscovered (omega arith)) in
    record {
      long = length-set c.loop-s.counters i _ ∙ c.loop-s.invariant.long;
      told = counts_more joins marks s under i c.loop-s.counters _ (omega (arith, c.loop-s.auto.s)) (omega (arith, c.loop-s.invariant.long))
          (counter_is c.along.result _ _ c.along.ensures (how_many_most _) (how_many_most _)
          ∙ ap₂ (λ (w p : ℕ). pos (gained_by joins marks (bit w) p) -ℤ pos (lost_by joins marks (bit w) i)) row parent)
          c.loop-s.invariant.told;
    }
