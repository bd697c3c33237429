use Rattle.std.proofs.Common.{sym}
use Rattle.columns.proofs.Chains.{blank_field}
use Rattle.columns.proofs.read.Field.unused.Goals as goal

pub returns-then-is_unused : goal.returns-then-is_unused
returns-then-is_unused c = sym (blank_field c.args.self.text.now c.args.self.at (c.is_unused.ensures c.if-is_unused.true))
