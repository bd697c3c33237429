use Rattle.std.proofs.Common.{sym, ap, ◌∙◌}
use Rattle.writer.specs.Laid.{laid_line}
use Rattle.texts.specs.ListText.{step_line}
use Rattle.texts.proofs.list_write.put_step.Goals as goal

pub returns-in-Edge : goal.returns-in-Edge
returns-in-Edge c = c.put_line.ensures ∙ sym (ap (λ s. laid_line c.args.out.now c.args.at (step_line s)) c.in-Edge.is)

pub returns-in-Node : goal.returns-in-Node
returns-in-Node c = c.put_line-in-Node.ensures ∙ sym (ap (λ s. laid_line c.args.out.now c.args.at (step_line s)) c.in-Node.is)
