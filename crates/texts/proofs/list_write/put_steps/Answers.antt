use Rattle.std.proofs.Common.{ap, ◌∙◌, arith, take_all}
use Rattle.std.specs.List.{flat_map}
use Rattle.writer.specs.Laid.{laid}
use Rattle.theory.specs.declared.step.Step.TheVariants.{Edge}
use Rattle.texts.specs.ListText.{step_line, step_text}
use Rattle.texts.proofs.Writing.{lines_more}
use Rattle.texts.proofs.list_write.put_steps.Goals as goal

pub loop-i-preserved : goal.loop-i-preserved
loop-i-preserved c =
    lines_more step_line c.args.out.now c.loop-i.out c.put_step.new.out 34 c.loop-i.i c.args.steps.now (Edge 0 0) c.loop-i-test.true (omega arith) c.loop-i.invariant c.put_step.ensures

pub returns : goal.returns
returns c = c.loop-i.invariant ∙ ap (λ l. laid c.args.out.now 34 (flat_map step_text l)) (take_all c.loop-i.i c.args.steps.now c.loop-i-test.false)
