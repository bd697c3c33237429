-- The first line with a number that is too large is among the first 100,001.
use Rattle.std.proofs.Common.{sym, ◌∙◌, arith}
use Rattle.report_texts.proofs.Numbers.{over_soon, none_few}
use Rattle.report_texts.proofs.report_text.check_numbers.Goals as goal

pub overflow_mul-result : goal.overflow_mul-result
overflow_mul-result c = omega (arith, over_soon c.args.report.now c.in-Some.turn (sym c.first_over.ensures ∙ c.in-Some.is))

pub overflow_mul-result-in-None : goal.overflow_mul-result-in-None
overflow_mul-result-in-None c = omega (arith, none_few c.args.report.now (sym c.first_over.ensures ∙ c.in-None.is))
