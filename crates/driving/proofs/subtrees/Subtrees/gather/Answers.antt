-- The rows of the table and of its parent are written over.
use Rattle.std.proofs.Common.{◌≡◌, ℕ, ◌+◌, ◌<◌, Bool, ◌&&◌, ◌||◌, not, eqb, ltb, get_or, ap, ap₂, ◌∙◌, arith}
use Rattle.std.proofs.lemmas.Bool.Decides.{nat_tests}
use Rattle.std.proofs.lemmas.List.{get_or_default}
use Rattle.sets.specs.Set.{bit}
use Rattle.sets.specs.Rows.{in_row}
use Rattle.traversal.proofs.Sets.{set_most}
use Rattle.driving.proofs.Counted.{counted_as}
use Rattle.driving.proofs.Gathering.{gathers_so}
use Rattle.driving.proofs.subtrees.Subtrees.gather.Goals as goal

in_range : (x v : ℕ) (u : Bool) → v < 64 → ((eqb x v && ltb x 64) || u) ≡ (eqb x v || u)
in_range x v u h = grind (arith, nat_tests)

pub overflow_add-self : goal.overflow_add-self
overflow_add-self c = let most = set_most c.difference.result in omega (arith, c.requires, c.len.ensures)

pub returns : goal.returns
returns c =
    let b = c.args.self.now in
    let v = c.args.v in
    let p = c.args.parent in
    let w = c.with-under.result in
    let vl : v < 64 = c.requires.0 in
    let pl : p < 64 = c.requires.1.0 in
    let w-is : (x : ℕ) → bit w x ≡ (eqb x v || in_row b.under v x) = λ x. c.with-under.ensures x ∙ in_range x v (bit (get_or b.under v c.index-self-v.result) x) vl
    ∙ ap (λ (y : ℕ). eqb x v || bit y x) (get_or_default b.under v c.index-self-v.result 0 (omega arith)) in
    record {
      under = gathers_so b.under p v w _ c.union.result (omega arith) vl pl w-is (λ x. ap (λ (y : ℕ). bit y x) (get_or_default _ p c.index-self-parent.result 0 (omega arith))) c.union.ensures;
      gone = λ x. c.with-self.ensures x ∙ in_range x v (bit b.gone x) vl;
      cross = ap (λ k. b.cross + k) (c.len.ensures ∙ counted_as c.difference.result _
          (λ x. c.difference.ensures x ∙ ap₂ (λ j k. j && not k) (c.intersection.ensures x) (w-is x)));
    }
