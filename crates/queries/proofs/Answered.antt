-- The laws of what is told and left as the definition has it.
use Rattle.std.proofs.Common.{◌≡◌, ℕ, ◌≤◌, List, length, Result, subst}
use Rattle.theory.specs.Graph.{Graph}
use Rattle.theory.specs.declared.mark.Mark.{Mark}
use Rattle.catalogue.specs.declared.catalogue.RowRecord.{RowRecord}
use Rattle.queries.specs.QueryLaw.{QueryAccepted, QueryRefused}
use Rattle.queries.specs.QueryRead.{query_read}
use Rattle.rejections.specs.declared.fault.QueryFault.{QueryFault}
use Rattle.queries.specs.declared.query.QueryHead.{QueryHead}
use Rattle.queries.proofs.Law.{Law, query_law}
use Rattle.queries.proofs.Told.{told_of}

pub laws : (text : List ℕ) (at : ℕ) (l : List Mark) (rows : List RowRecord) → 64 ≤ length rows
    → (r : Result QueryHead QueryFault) (g : Graph) (ms : List Mark) (rs : List RowRecord) → query_read text at l rows ≡ told_of r g ms rs
    → QueryAccepted text at l rows r g ms rs × QueryRefused text at l rows r g ms rs
laws text at l rows wide r g ms rs e = subst (Law text at l rows wide) e (query_law text at l rows wide)
