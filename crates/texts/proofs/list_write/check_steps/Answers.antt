use Rattle.std.proofs.Common.{Some, None, sym, ◌∙◌}
use Rattle.texts.proofs.Writing.{over_first}
use Rattle.texts.proofs.list_write.check_steps.Goals as goal

pub returns-in-Some : goal.returns-in-Some
returns-in-Some c = over_first c.args.steps.now (Some c.in-Some.i) (sym c.in-Some.is ∙ c.first_over.ensures)

pub returns-in-None : goal.returns-in-None
returns-in-None c = over_first c.args.steps.now None (sym c.in-None.is ∙ c.first_over.ensures)
