use Rattle.std.proofs.Common.{◌≡◌, ℕ, max, min, sym, ap, ◌∙◌, arith}
use Rattle.std.proofs.lemmas.Bool.Decides.{nat_tests}
use Rattle.theory.specs.Graph.{no_joins, clamped}
use Rattle.theory.proofs.Sizes.{no_joins_simple, no_joins_size}
use Rattle.bits.specs.Rows.{rows_graph}
use Rattle.bits.proofs.Edits.{empty_means, owed}
use Rattle.bits.proofs.table.BitTable.new.Goals as goal

as_many : (n : ℕ) → max 1 (min n 64) ≡ clamped n
as_many n = grind (arith, nat_tests)

-- the rows mean no joins, between 1 to 64 tables
pub invariant_of-result : goal.invariant_of-result
invariant_of-result c =
    let n = c.clamp.result in
    let empty : rows_graph n c.new.result ≡ no_joins n = ap (rows_graph n) c.new.ensures ∙ empty_means n in
    let o = owed n c.new.result 0 (no_joins n) empty (no_joins_simple n (omega arith) (omega arith)) (sym (no_joins_size n)) in
    record { some = o.some; few = o.few; symmetric = o.symmetric; loopless = o.loopless; within = o.within; counted = o.counted; fits = o.fits }

pub returns : goal.returns
returns c =
    ap (rows_graph c.clamp.result) c.new.ensures ∙ empty_means c.clamp.result ∙ ap no_joins (c.clamp.ensures ∙ as_many c.args.tables)
