-- Two lists given are compared: they are equal exactly when the graphs agree.
use Rattle.std.proofs.Common.{◌≡◌, ℕ, ◌≤◌, Bool, true, ◌↔◌, List, length, take, Ok, Err, Result, sym, refl, ap, ◌∙◌, subst, arith, length-take}
use Rattle.theory.specs.Graph.{Graph, Simple}
use Rattle.theory.specs.declared.step.Step.{Step}
use Rattle.refusals.specs.declared.build.BuildFault.{BuildFault}
use Rattle.assembly.specs.Build.{list_of, build_judged, built_after, build_answer, records_after}
use Rattle.assembly.specs.declared.build.Built.{Built}
use Rattle.assembly.proofs.Laws.{ok_err, There, there, legal_given}
use Rattle.keys.specs.Key.{ComparedBy, Compared, OneKey}
use Rattle.keys.proofs.Agree.{keys_agree}

accepted : (m : Graph) (r : Result Unit BuildFault) (b : Built) → built_after r m ≡ Ok b → r ≡ Ok tt
accepted m (Ok tt) b e = refl
accepted m (Err f) b e = absurd (ok_err b f (sym e))

-- the steps of a list given are among the records
pub fits : (m : Graph) → Simple m → (l l' : List Step) (b : Built) → build_answer m (length l) ≡ Ok b → l' ≡ records_after m l → b.steps ≤ length l'
fits m s l l' b e laid =
    let q : length (take b.steps (records_after m l)) ≡ b.steps = (legal_given m s l b e).1 in
    let k : b.steps ≤ length (records_after m l) = within b.steps (records_after m l) q in
    subst (λ x. b.steps ≤ length x) (sym laid) k
  where
    within : (n : ℕ) (x : List Step) → length (take n x) ≡ n → n ≤ length x
    within n x h = omega (arith, length-take n x)

module _ (m k : Graph) (s : Simple m) (t : Simple k) (l r : List Step) (a b : Built) (given-a : build_answer m (length l) ≡ Ok a) (given-b : build_answer k (length r) ≡ Ok b)
    (x : Bool) (l' r' : List Step) (laid-a : l' ≡ records_after m l) (laid-b : r' ≡ records_after k r)
    (same : (x ≡ true) ↔ ((a.triangle ≡ b.triangle) × (take a.steps l' ≡ take b.steps r'))) where
  A : There m s l a
  A = there m s l a given-a

  B : There k t r b
  B = there k t r b given-b

  steps_a : take a.steps l' ≡ (list_of m).steps
  steps_a = ap (take a.steps) laid-a ∙ A.steps

  steps_b : take b.steps r' ≡ (list_of k).steps
  steps_b = ap (take b.steps) laid-b ∙ B.steps

  lists : (x ≡ true) ↔ (list_of m ≡ list_of k)
  lists = (
    (λ h. let q = same.0 h in
        let corner : (list_of m).triangle ≡ (list_of k).triangle = sym A.corners ∙ q.0 ∙ B.corners in
        let step : (list_of m).steps ≡ (list_of k).steps = sym steps_a ∙ q.1 ∙ steps_b in
        λ i. record { triangle = corner i; steps = step i }),
    (λ e. same.1 (A.corners ∙ ap (λ g. g.triangle) e ∙ sym B.corners, steps_a ∙ ap (λ g. g.steps) e ∙ sym steps_b)),
  )

  pub compared : Compared m k (length l) (length r) (Ok x)
  compared = subst (λ j. ComparedBy j (build_judged k (length r)) m k (Ok x)) (sym (accepted m (build_judged m (length l)) a given-a))
      (subst (λ j. ComparedBy (Ok tt) j m k (Ok x)) (sym (accepted k (build_judged k (length r)) b given-b)) (x, refl, lists))

  pub one_key : OneKey m k (Ok x)
  one_key e was =
      let z : x ≡ e = cc in
      let g = keys_agree m k s t A.fit B.fit in
      ((λ h. g.0 (lists.0 (z ∙ h))), (λ h. sym z ∙ lists.1 (g.1 h)))
