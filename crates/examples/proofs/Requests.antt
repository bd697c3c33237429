-- What makes a row of a build request hold.
--
--   lists     the judgement by the number of records, and the list, are known
--   refuses   the judgement is a refusal
use Rattle.std.proofs.Common.{◌≡◌, ℕ, ◌-◌, ◌≤◌, false, List, length, Ok, Err, arith, nat_lt, refl}
use Rattle.std.proofs.lemmas.Bool.Decides.{nat_tests}
use Rattle.theory.specs.Graph.{size}
use Rattle.theory.specs.declared.step.Step.{Step}
use Rattle.theory.specs.declared.step.Triangle.{Triangle}
use Rattle.queries.specs.QueryLaw.{lines_graph}
use Rattle.refusals.specs.declared.build.BuildFault.{BuildFault}
use Rattle.verdicts.specs.Judge.{room_judged}
use Rattle.assembly.specs.Build.{build_judged, list_of}
use Rattle.examples.specs.Worked.{Lists, Refuses, Holds}

not_short : (k room : ℕ) → k ≤ room → nat_lt room k ≡ false
not_short k room e = grind (arith, nat_tests)

enough : (k room : ℕ) → k ≤ room → room_judged k room ≡ Ok tt
enough k room e = rw (not_short k room e) refl

module _ (n : ℕ) (js : List (ℕ × ℕ)) where
  pub lists : (t : Triangle) (s : List Step) → ((room : ℕ) → build_judged (lines_graph n js) room ≡ room_judged (length s) room)
      → size (lines_graph n js) - 3 ≡ length s → list_of (lines_graph n js) ≡ record { triangle = t; steps = s } → Holds (Lists n js t s)
  lists t s judged sized given l e =
      let accepted : build_judged (lines_graph n js) (length l) ≡ Ok tt = rw (judged (length l)) (enough (length s) (length l) e) in
      (rw (accepted, given, sized) refl, rw (accepted, given) refl)

  pub refuses : (k : ℕ) (f : BuildFault) → ((room : ℕ) → room ≤ k → build_judged (lines_graph n js) room ≡ Err f) → Holds (Refuses n js k f)
  refuses k f judged l e = (rw (judged (length l) e) refl, rw (judged (length l) e) refl)
