use Rattle.examples.proofs.worked.examples_stand.Goals as goal
use Rattle.examples.proofs.Rows.{examples_stand}

-- src/worked.rt:38:1
pub returns-clause-stand : goal.returns-clause-stand
returns-clause-stand c = examples_stand
