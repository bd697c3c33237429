-- The parent's row takes in what the table touches.
use Rattle.std.proofs.Common.{◌≡◌, ℕ, ◌<◌, ◌&&◌, ◌||◌, eqb, get_or, set, ap, ap₂, ◌∙◌, arith}
use Rattle.std.proofs.lemmas.List.{get_or_default}
use Rattle.sets.specs.Set.{bit}
use Rattle.traversal.specs.Folding.{parent_of}
use Rattle.traversal.specs.declared.discovery.Discovery.{Discovery}
use Rattle.traversal.specs.declared.lows.Lows.{Lows}
use Rattle.traversal.proofs.Handing.{found_at, put_cut, no_cut, folds_on}
use Rattle.traversal.proofs.lows.Lows.fold.Goals.{then-cuts_off, else-cuts_off}
use Rattle.traversal.proofs.lows.Lows.fold.Goals as goal

pub returns : goal.returns
returns c =
    let rows = c.args.rows.now in
    let s = c.args.survey.now in
    let v = c.args.v in
    let w = c.args.self.now in
    let t = c.union-touched.result in
    let f = (get_or s.found v c.index-survey-v.result).parent in
    let is : f ≡ parent_of s v = ap (λ (d : Discovery). d.parent) (found_at s.found v c.index-survey-v.result (omega arith)) in
    let low : f < 64 = omega (arith, s.small v) in
    let kept : (c.if-cuts_off.self.start ≡ w.start) × (c.if-cuts_off.self.below ≡ w.below) × ((x : ℕ) → bit c.if-cuts_off.self.cuts x ≡ ((eqb x f && c.cuts_off.result) || bit w.cuts x)) =
    elim c.if-cuts_off.branch [
      | then-cuts_off b ↦ (
        ap (λ (l : Lows). l.start) b.self-is,
        ap (λ (l : Lows). l.below) b.self-is,
        λ x. put_cut x f c.cuts_off.result (bit w.cuts x) (bit c.if-cuts_off.self.cuts x) low b.if-cuts_off.true (ap (λ (l : Lows). bit l.cuts x) b.self-is ∙ b.with-self.ensures x),
      )
      | else-cuts_off b ↦ (
        ap (λ (l : Lows). l.start) b.self-is,
        ap (λ (l : Lows). l.below) b.self-is,
        λ x. no_cut (eqb x f) c.cuts_off.result (bit w.cuts x) (bit c.if-cuts_off.self.cuts x) b.if-cuts_off.false (ap (λ (l : Lows). bit l.cuts x) b.self-is),
      )
    ] in
    folds_on rows s v w _ f t c.union.result c.cuts_off.result is (omega arith)
    (λ y. c.union-touched.ensures y ∙ ap₂ (λ m n. bit m y || bit n y) c.row.ensures (get_or_default w.below v c.index-self-v.result 0 (omega arith)))
    (λ y. c.union.ensures y ∙ ap (λ m. bit m y || bit t y) (ap (λ l. get_or l f c.index-self-f.result) kept.1 ∙ get_or_default w.below f c.index-self-f.result 0 (omega arith)))
    c.cuts_off.ensures kept.0 (ap (λ l. set l f c.union.result) kept.1) kept.2
