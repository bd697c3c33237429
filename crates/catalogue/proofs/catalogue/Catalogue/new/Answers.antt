use Rattle.std.proofs.Common.{sym, ◌∙◌, lit≤}
use Rattle.std.proofs.lemmas.Option.{none-some}
use Rattle.catalogue.proofs.Counts.{new_count}
use Rattle.catalogue.proofs.catalogue.Catalogue.new.Goals as goal

pub invariant_of-result : goal.invariant_of-result
invariant_of-result c = record { full = lit≤ tt; ranged = λ t n e. absurd (none-some n (sym (new_count t) ∙ e)) }
