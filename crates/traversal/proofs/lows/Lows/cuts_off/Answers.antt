-- A table of which no child is the first is judged by what the child touches of the tables discovered earlier.
use Rattle.std.proofs.Common.{◌≡◌, ℕ, ◌<◌, ◌&&◌, not, eqb, get_or, sym, ap, ◌∙◌, arith}
use Rattle.std.proofs.lemmas.Bool.{ne_eqb, cond-false}
use Rattle.sets.specs.Set.{bit}
use Rattle.traversal.specs.Sets.{apart}
use Rattle.traversal.specs.Discoveries.{number_in, earlier_in}
use Rattle.traversal.specs.Folding.{parent_of}
use Rattle.traversal.specs.declared.discovery.Discovery.{Discovery}
use Rattle.traversal.proofs.Sets.{both_empty}
use Rattle.traversal.proofs.Handing.{found_at}
use Rattle.traversal.proofs.lows.Lows.cuts_off.Goals as goal

pub returns-else-child-self : goal.returns-else-child-self
returns-else-child-self c =
    let s = c.args.survey.now in
    let v = c.args.v in
    let t = c.args.touched in
    let r = c.args.self.now.start in
    let f = (get_or s.found v c.index-survey-v.result).parent in
    let is : f ≡ parent_of s v = ap (λ (d : Discovery). d.parent) (found_at s.found v c.index-survey-v.result (omega arith)) in
    let low : f < 64 = omega (arith, s.small v) in
    let earlier = earlier_in s.found (parent_of s v) in
    let both : (x : ℕ) → bit c.intersection.result x ≡ (bit t x && bit earlier x) =
    λ x. c.intersection.ensures x ∙ ap (λ (d : Discovery). bit t x && bit d.earlier x) (found_at s.found f c.index-survey-child.result (omega arith))
    ∙ ap (λ k. bit t x && bit (earlier_in s.found k) x) is in
    c.is_empty.ensures ∙ both_empty c.intersection.result (bit t) (bit earlier) (omega arith) both
    ∙ sym (cond-false (eqb (parent_of s v) r) (not (eqb (number_in s.found v) 1)) (apart (bit t) (bit earlier)) (ne_eqb (parent_of s v) r (λ e. c.if-child-self.false (is ∙ e))))
