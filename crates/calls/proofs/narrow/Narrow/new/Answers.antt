use Rattle.std.proofs.Common.{◌∙◌, ap, arith}
use Rattle.theory.specs.Graph.{size, clamped}
use Rattle.theory.proofs.Sizes.{no_joins_size}
use Rattle.calls.proofs.narrow.Narrow.new.Goals as goal

pub invariant_of-result-clause-fits : goal.invariant_of-result-clause-fits
invariant_of-result-clause-fits c = let none = ap size c.new.ensures ∙ no_joins_size (clamped c.args.tables) in omega (arith, none)
