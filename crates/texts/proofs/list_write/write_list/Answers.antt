use Rattle.std.proofs.Common.{◌≡◌, ℕ, ◌≤◌, List, length, Ok, Result, sym, ap, ◌∙◌, subst, arith, rules}
use Rattle.std.specs.List.{flat_map}
use Rattle.writer.specs.Laid.{laid, laid_line}
use Rattle.theory.specs.declared.step.Step.{Step}
use Rattle.theory.specs.declared.step.Triangle.{Triangle}
use Rattle.texts.specs.declared.fault.TextFault.{TextFault}
use Rattle.texts.specs.ListLaw.{ReadsBack}
use Rattle.texts.specs.ListText.{head_line, triangle_line, step_text, list_text}
use Rattle.texts.specs.ListWrite.{list_length, list_write_answer, list_written, laid_if}
use Rattle.texts.proofs.Back.{writes_back}
use Rattle.texts.proofs.Writing.{list_laid}
use Rattle.texts.proofs.list_write.write_list.Goals as goal

-- three pieces laid one after another are what is written, and read back as the list
module _ (n : ℕ) (t : Triangle) (l : List Step) (out one two three : List ℕ) (k : ℕ) (room : list_length l ≤ length out)
    (headed : one ≡ laid_line out 0 (head_line n (length l))) (ranged : two ≡ laid_line one 17 (triangle_line t)) (stepped : three ≡ laid two 34 (flat_map step_text l))
    (answer : Ok k ≡ list_write_answer n t l (length out)) where
  written-by : three ≡ list_written n t l out
  written-by =
      stepped
      ∙ ap (λ o. laid o 34 (flat_map step_text l)) (ranged ∙ ap (λ o. laid_line o 17 (triangle_line t)) headed)
      ∙ list_laid n t l out room
      ∙ ap (λ (r : Result ℕ TextFault). laid_if r out (list_text n t l)) answer

  back_by : ReadsBack n t l three (Ok k)
  back_by =
      subst (λ r. ReadsBack n t l three r) (sym answer)
      (subst (λ o. ReadsBack n t l o (list_write_answer n t l (length out))) (sym written-by) (writes_back n t l out))

pub returns : goal.returns
returns c =
    let n = c.args.list.tables in
    let t = c.args.list.triangle in
    let l = c.args.list.steps.now in
    let out = c.args.out.now in
    let room : list_length l ≤ length out = omega arith in
    let answer : Ok (list_length l) ≡ list_write_answer n t l (length out) = search rules in
    record {
      answer = answer;
      written = written-by n t l out c.put_line.new.out c.put_line-2.new.out c.put_steps.new.out (list_length l) room c.put_line.ensures c.put_line-2.ensures c.put_steps.ensures answer;
      back = back_by n t l out c.put_line.new.out c.put_line-2.new.out c.put_steps.new.out (list_length l) room c.put_line.ensures c.put_line-2.ensures c.put_steps.ensures answer;
    }
