use Rattle.std.proofs.Common.{ℕ, length, Result, ap, ◌∙◌}
use Rattle.std.specs.Result.{result_unwrap_or}
use Rattle.texts.specs.ListText.{list_text}
use Rattle.texts.specs.ListWrite.{laid_if}
use Rattle.texts.specs.declared.fault.TextFault.{TextFault}
use Rattle.texts.proofs.Able.{writes_able}
use Rattle.assembler.proofs.assemble.lay_list.Goals as goal

pub returns : goal.returns
returns c =
    let text = c.args.text.now in
    let steps = c.args.list.steps.now in
    let able = writes_able c.args.list.tables c.args.list.triangle steps (length text) c.requires.able c.requires.room in
    record {
      count = c.unwrap_or.ensures ∙ ap (λ (r : Result ℕ TextFault). result_unwrap_or r 0) (c.write_list.ensures.answer ∙ able);
      laid = c.write_list.ensures.written ∙ ap (λ (r : Result ℕ TextFault). laid_if r text (list_text c.args.list.tables c.args.list.triangle steps)) able;
    }
