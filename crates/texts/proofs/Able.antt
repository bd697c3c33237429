-- A list that can be written is written, wherever there is room for it.
use Rattle.std.proofs.Common.{◌≡◌, ℕ, ◌+◌, ◌≤◌, Bool, false, cond, ◌||◌, ltb, List, length, Ok, Err, Result, refl, ap, ◌∙◌, arith}
use Rattle.std.proofs.lemmas.Bool.{le-ltb}
use Rattle.std.proofs.lemmas.Bool.Decides.{nat_tests}
use Rattle.lines.specs.Text.{Fits}
use Rattle.theory.specs.declared.step.Step.{Step}
use Rattle.theory.specs.declared.step.Step.TheVariants.{Edge, Node}
use Rattle.theory.specs.declared.step.Triangle.{Triangle}
use Rattle.texts.specs.ListText.{triangle_line, step_line, EachFits, none, more, Listable}
use Rattle.texts.specs.ListWrite.{triangle_over, step_over, steps_over, list_length, roomy, list_write_answer}
use Rattle.texts.specs.declared.fault.TextFault.{TextFault}
use Rattle.texts.specs.declared.fault.TextFault.TheVariants.{OutOfLimits, TooFew}

-- where nothing is amiss, the answer is what follows
unless_not : {X : Type 0} (b : Bool) (r : Result X TextFault) (e : TextFault) → b ≡ false → cond b (Err e) r ≡ r
unless_not b r e q = ap (λ c. cond c (Err e) r) q

triangle_not_over : (t : Triangle) → Fits (triangle_line t).fields → triangle_over t ≡ false
triangle_not_over t f = grind (arith, nat_tests)

step_not_over : (s : Step) → Fits (step_line s).fields → step_over s ≡ false
step_not_over (Edge v w) f = grind (arith, nat_tests)
step_not_over (Node u v w) f = grind (arith, nat_tests)

steps_not_over : (at : ℕ) {l : List Step} → EachFits l → steps_over at l ≡ Ok tt
unfolding steps_over
steps_not_over at none = refl
steps_not_over at (more {s} {l} g f) = unless_not (step_over s) (steps_over (at + 17) l) (OutOfLimits at) (step_not_over s g) ∙ steps_not_over (at + 17) f

within_limits : (n k : ℕ) → 3 ≤ n → n ≤ 64 → k + 3 ≤ 2016 → (ltb n 3 || (ltb 64 n || ltb 2013 k)) ≡ false
within_limits n k a b c = grind (arith, nat_tests)

pub writes_able : (n : ℕ) (t : Triangle) (l : List Step) (b : ℕ) → Listable n t l → list_length l ≤ b → list_write_answer n t l b ≡ Ok (list_length l)
writes_able n t l b able h =
    unless_not (ltb n 3 || (ltb 64 n || ltb 2013 (length l))) (cond (triangle_over t) (Err (OutOfLimits 17)) (roomy (steps_over 34 l) (list_length l) b)) (OutOfLimits 0)
    (within_limits n (length l) able.least able.most able.few)
    ∙ unless_not (triangle_over t) (roomy (steps_over 34 l) (list_length l) b) (OutOfLimits 17) (triangle_not_over t able.triangle_fits)
    ∙ ap (λ r. roomy r (list_length l) b) (steps_not_over 34 able.steps_fit)
    ∙ unless_not (ltb b (list_length l)) (Ok (list_length l)) (TooFew (list_length l)) (le-ltb b (list_length l) h)
