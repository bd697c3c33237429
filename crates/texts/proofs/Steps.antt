-- The step lines of a list text, read one after another: one more, one that is refused, and the end; and that records past
-- those that are filled keep their contents.
use Rattle.std.proofs.Common.{◌≡◌, ℕ, zero, suc, ◌+◌, ◌-◌, ◌<◌, ◌≤◌, List, ◌++◌, length, take, drop, set, Ok, Err, Result, sym, refl, ap, ◌∙◌, arith, length-set, take-append-drop}
use Rattle.std.proofs.lemmas.List.{length-take-le, set-append_left}
use Rattle.theory.specs.declared.step.Step.{Step}
use Rattle.texts.specs.ListRead.{step_at, StepsTold, onward, steps_read}
use Rattle.texts.specs.declared.fault.TextFault.{TextFault}

-- n lines, of which i are read
module _ (whole : StepsTold) (text : List ℕ) (at n i : ℕ) (l : List Step) (inv : whole ≡ steps_read text at (n - i) i l) where
  -- the next of them
  steps_next : i < n → whole ≡ onward (step_at text at) (λ s. steps_read text (at + 17) (n - (i + 1)) (i + 1) (set l i s)) l
  unfolding steps_read
  steps_next more = let k : n - i ≡ suc (n - (i + 1)) = omega arith in inv ∙ ap (λ k. steps_read text at k i l) k

  pub steps_on : i < n → (s : Step) → step_at text at ≡ Ok s → whole ≡ steps_read text (at + 17) (n - (i + 1)) (i + 1) (set l i s)
  steps_on more s ok = steps_next more ∙ ap (λ r. onward r (λ s. steps_read text (at + 17) (n - (i + 1)) (i + 1) (set l i s)) l) ok

  pub steps_off : i < n → (e : TextFault) → step_at text at ≡ Err e → (q : Result Unit TextFault) → q ≡ Err e → whole ≡ record { told = q; records = l }
  steps_off more e bad q is =
      steps_next more ∙ ap (λ r. onward r (λ s. steps_read text (at + 17) (n - (i + 1)) (i + 1) (set l i s)) l) bad ∙ ap (λ q. record { told = q; records = l }) (sym is)

  pub steps_end : n ≤ i → whole ≡ record { told = Ok tt; records = l }
  unfolding steps_read
  steps_end all = let k : n - i ≡ 0 = omega arith in inv ∙ ap (λ k. steps_read text at k i l) k

-- ---- records enough

-- s, with other records behind its own
abbrev before : StepsTold → List Step → StepsTold
before s rest = record { told = s.told; records = s.records ++ rest }

before_on : (l rest : List Step) (r : Result Step TextFault) (f g : Step → StepsTold) → ((s : Step) → f s ≡ before (g s) rest)
    → onward r f (l ++ rest) ≡ before (onward r g l) rest
before_on l rest (Ok s) f g more = more s
before_on l rest (Err e) f g more = refl

-- records past those that are filled keep their contents
steps_before : (text : List ℕ) (at k i : ℕ) (l rest : List Step) → i + k ≤ length l → steps_read text at k i (l ++ rest) ≡ before (steps_read text at k i l) rest
unfolding steps_read
steps_before text at zero i l rest h = refl
steps_before text at (suc k) i l rest h =
    before_on l rest (step_at text at) (λ s. steps_read text (at + 17) k (i + 1) (set (l ++ rest) i s)) (λ s. steps_read text (at + 17) k (i + 1) (set l i s))
    (λ s. ap (steps_read text (at + 17) k (i + 1)) (set-append_left l rest i s (omega arith)) ∙ steps_before text (at + 17) k (i + 1) (set l i s) rest (simp length-set (omega arith)))

pub steps_front : (text : List ℕ) (at k : ℕ) (l : List Step) (s : StepsTold) → k ≤ length l → steps_read text at (length (take k l)) 0 (take k l) ≡ s
    → steps_read text at k 0 l ≡ record { told = s.told; records = s.records ++ drop k l }
steps_front text at k l s h is =
    let many : length (take k l) ≡ k = length-take-le k l h in
    ap (steps_read text at k 0) (sym (take-append-drop k l))
    ∙ steps_before text at k 0 (take k l) (drop k l) (omega arith)
    ∙ ap (λ n. before (steps_read text at n 0 (take k l)) (drop k l)) (sym many)
    ∙ ap (λ s. before s (drop k l)) is
