-- An answer put beside its call.
--
--   answered_by c a     the call c with the answer a
--   answered_at l i a   the turns l with the answer a at turn i
use Rattle.std.specs.Prelude.{ℕ, List, slice_index_or, slice_set, Some, None}
use Rattle.ledger.specs.declared.call.Answer.{Answer}
use Rattle.ledger.specs.declared.call.Call.{Call}
use Rattle.ledger.specs.declared.call.Call.TheVariants.{Join}
use Rattle.ledger.specs.declared.call.Turn.{Turn}

abbrev pub answered_by : Call → Answer → Turn
answered_by c a = record { call = c; answer = Some a }

abbrev pub answered_at : List Turn → ℕ → Answer → List Turn
answered_at l i a = slice_set l i (answered_by (slice_index_or l i (record { call = Join 0 0; answer = None })).call a)
