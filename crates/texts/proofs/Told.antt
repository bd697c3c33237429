-- A list text read line by line: where it ends at a refusal, and where it goes on to the steps.
use Rattle.std.proofs.Common.{◌≡◌, ℕ, ◌+◌, ◌*◌, ◌≤◌, List, ◌++◌, length, take, drop, Ok, Err, Result, ap, ◌∙◌, subst, arith}
use Rattle.std.proofs.lemmas.List.{length-take-le}
use Rattle.theory.specs.declared.step.Step.{Step}
use Rattle.theory.specs.declared.step.Triangle.{Triangle}
use Rattle.texts.specs.Reader.{past, past_lines}
use Rattle.texts.specs.ListLaw.{SameText, RefusedText}
use Rattle.texts.specs.ListRead.{head_at, triangle_at, steps_read, ListTold, heading, list_after, list_with, list_headed, list_read}
use Rattle.texts.specs.declared.fault.TextFault.{TextFault}
use Rattle.texts.specs.declared.list.Head.{Head}
use Rattle.texts.specs.declared.list.Heading.{Heading}
use Rattle.texts.specs.declared.reader.Reader.{Reader}
use Rattle.texts.proofs.Lists.{same_text}
use Rattle.texts.proofs.Refused.{refused_text}
use Rattle.texts.proofs.Steps.{steps_front}

abbrev pub told_of : Result Heading TextFault → List Step → ListTold
told_of r l = record { told = r; records = l }

-- a reader after two lines
pub two_past : (r one two : Reader) → one ≡ past r → two ≡ past one → two ≡ past_lines 2 r
two_past r one two e f = f ∙ ap past e ∙ ap (λ n. record r { at = n }) (omega arith)

module _ (text : List ℕ) (at : ℕ) (l : List Step) where
  after_head : Head → ListTold
  after_head h = list_with (triangle_at text (at + 17)) (λ t. list_after h t (at + 34 + 17 * h.steps) (steps_read text (at + 34) h.steps 0 l)) l

  pub head_off : (e : TextFault) → head_at text at (length l) ≡ Err e → list_read text at l ≡ record { told = Err e; records = l }
  unfolding list_read after_head
  head_off e bad = ap (λ r. list_headed r after_head l) bad

  module _ (h : Head) (headed : head_at text at (length l) ≡ Ok h) where
    pub triangle_off : (e : TextFault) → triangle_at text (at + 17) ≡ Err e → list_read text at l ≡ record { told = Err e; records = l }
    unfolding list_read after_head
    triangle_off e bad =
        ap (λ r. list_headed r after_head l) headed ∙ ap (λ r. list_with r (λ t. list_after h t (at + 34 + 17 * h.steps) (steps_read text (at + 34) h.steps 0 l)) l) bad

    steps_on : (t : Triangle) → triangle_at text (at + 17) ≡ Ok t → list_read text at l ≡ list_after h t (at + 34 + 17 * h.steps) (steps_read text (at + 34) h.steps 0 l)
    unfolding list_read after_head
    steps_on t good =
        ap (λ r. list_headed r after_head l) headed ∙ ap (λ r. list_with r (λ t. list_after h t (at + 34 + 17 * h.steps) (steps_read text (at + 34) h.steps 0 l)) l) good

    -- the step lines read into the first records, after the H line and the T line
    module _ (t : Triangle) (good : triangle_at text (at + 17) ≡ Ok t) (enough : h.steps ≤ length l) (r : Result Unit TextFault) (after : List Step)
        (filled : steps_read text (at + 34) (length (take h.steps l)) 0 (take h.steps l) ≡ record { told = r; records = after }) where
      by_steps : list_read text at l ≡ list_after h t (at + 34 + 17 * h.steps) (record { told = r; records = after ++ drop h.steps l })
      by_steps =
          steps_on t good
          ∙ ap (list_after h t (at + 34 + 17 * h.steps)) (steps_front text (at + 34) h.steps l (record { told = r; records = after }) enough filled)

      pub steps_off : (e : TextFault) → r ≡ Err e → list_read text at l ≡ record { told = Err e; records = after ++ drop h.steps l }
      steps_off e bad = by_steps ∙ ap (λ r. list_after h t (at + 34 + 17 * h.steps) (record { told = r; records = after ++ drop h.steps l })) bad

      pub list_on : r ≡ Ok tt → (end : ℕ) → end ≡ at + 34 + 17 * length (take h.steps l)
          → list_read text at l ≡ record { told = Ok (heading h t end); records = after ++ drop h.steps l }
      list_on ok end is =
          let many = length-take-le h.steps l enough in
          let there : at + 34 + 17 * h.steps ≡ end = omega arith in
          by_steps
          ∙ ap (λ r. list_after h t (at + 34 + 17 * h.steps) (record { told = r; records = after ++ drop h.steps l })) ok
          ∙ ap (λ n. record { told = Ok (heading h t n); records = after ++ drop h.steps l }) there

  -- the laws of what is told and of the records after
  module _ (r : Result Heading TextFault) (after : List Step) (is : list_read text at l ≡ record { told = r; records = after }) where
    pub same_so : SameText text at l after r
    same_so = subst (λ (q : ListTold). SameText text at l q.records q.told) is (same_text text at l)

    pub refused_so : RefusedText text at (length l) r
    refused_so = subst (λ (q : ListTold). RefusedText text at (length l) q.told) is (refused_text text at l)
