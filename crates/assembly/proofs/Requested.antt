-- A build request step by step: from the graph copied and surveyed to the list in the records.
--
--   from_zero           a survey from table 0
--   judged_so           the judgement told is that of the graph
--   refused_so, given_so   what is answered and left where it refuses, and where the list is laid
use Rattle.std.proofs.Common.{◌≡◌, ℕ, ◌-◌, ◌<◌, ◌≤◌, min, List, length, Ok, Err, Result, sym, ap, ◌∙◌, subst, arith}
use Rattle.theory.specs.Graph.{Graph, Simple, is_table, joined, table_count, size}
use Rattle.theory.specs.declared.step.Step.{Step}
use Rattle.theory.specs.declared.step.Triangle.{Triangle}
use Rattle.disassembly.specs.Laws.{Fit}
use Rattle.refusals.specs.declared.build.BuildFault.{BuildFault}
use Rattle.traversal.specs.Survey.{Surveys}
use Rattle.traversal.specs.declared.survey.Survey.{Survey}
use Rattle.assembly.specs.declared.build.Built.{Built}
use Rattle.assembly.specs.Build.{list_of, laid_over, build_judged, built_of, built_after, build_answer, records_given, records_after}
use Rattle.verdicts.specs.Judge.{sets_judged}
use Rattle.assembly.proofs.Masked.{sets_are}
use Rattle.assembly.proofs.Verdict.{fit_size, Verdict, judged}

-- table 0 is a table of every graph
pub from_zero : (k : Graph) (n : ℕ) (found : Survey) → Surveys k (min 0 n) found → Surveys k 0 found
from_zero k n found h = let e : min 0 n ≡ 0 = omega arith in subst (λ r. Surveys k r found) e h

module _ (m k : Graph) (copied : k ≡ m) (found : Survey) (h : Surveys k 0 found) (n joins steps room : ℕ)
    (tables : n ≡ table_count k) (counted : joins ≡ size k) (needed : steps ≡ joins - 3)
    (r : Result Unit BuildFault) (answer : r ≡ sets_judged n found.unreached found.articulations steps room)
    (small : found.unreached < 18446744073709551616) (little : found.articulations < 18446744073709551616) where
  steps_are : steps ≡ size k - 3
  steps_are = needed ∙ ap (λ j. j - 3) counted

  pub judged_so : r ≡ build_judged m room
  judged_so = answer
      ∙ ap (λ x. sets_judged x found.unreached found.articulations steps room) tables
      ∙ ap (λ x. sets_judged (table_count k) found.unreached found.articulations x room) steps_are
      ∙ sets_are k found h small little room
      ∙ ap (λ g. build_judged g room) copied

  pub refused_so : (f g : BuildFault) (o : Result Built BuildFault) (l : List Step) → length l ≡ room → r ≡ Err f → o ≡ Err g → f ≡ g
      → (o ≡ build_answer m (length l)) × (l ≡ records_after m l)
  refused_so f g o l e was is same =
      let j : build_judged m (length l) ≡ Err g = ap (build_judged m) e ∙ sym judged_so ∙ was ∙ ap Err same in
      (is ∙ sym (ap (λ x. built_after x m) j), sym (ap (λ x. records_given x (list_of m) l) j))

  pub accepted_fit : Simple k → r ≡ Ok tt → length (list_of k).steps ≤ room
  accepted_fit s was =
      let j : build_judged k room ≡ Ok tt = ap (λ g. build_judged g room) copied ∙ sym judged_so ∙ was in
      let v : Fit (is_table k) (joined k) × (size k - 3 ≤ room) = subst (Verdict k room) j (judged k s room) in
      omega (arith, fit_size k s v.0, v.1)

  pub given_so : (t : Triangle) (l l' : List Step) → length l ≡ room → r ≡ Ok tt
      → t ≡ (list_of k).triangle → l' ≡ laid_over (list_of k) l
      → (Ok (record { triangle = t; steps = steps }) ≡ build_answer m (length l)) × (l' ≡ records_after m l)
  given_so t l l' e was corner laid =
      let j : build_judged m (length l) ≡ Ok tt = ap (build_judged m) e ∙ sym judged_so ∙ was in
      let b : (record { triangle = t; steps = steps }) ≡ built_of m = (λ i. record { triangle = corner i; steps = steps_are i }) ∙ ap built_of copied in (
        ap Ok b ∙ sym (ap (λ x. built_after x m) j),
        laid ∙ ap (λ g. laid_over (list_of g) l) copied ∙ sym (ap (λ x. records_given x (list_of m) l) j),
      )
