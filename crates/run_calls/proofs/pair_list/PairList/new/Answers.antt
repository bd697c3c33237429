use Rattle.std.proofs.Common.{length, sym, ap, ◌∙◌, arith, rules}
use Rattle.theory.specs.Graph.{no_joins}
use Rattle.theory.proofs.Sizes.{no_joins_simple, no_joins_size}
use Rattle.run_calls.specs.Pairs.{listed}
use Rattle.run_calls.proofs.Listed.{owed}
use Rattle.run_calls.proofs.pair_list.PairList.new.Goals as goal

pub invariant_of-result : goal.invariant_of-result
invariant_of-result c =
    let n = c.clamp.result in
    let o = owed n _ (no_joins n) (ap (listed n) c.new.ensures) (no_joins_simple n (omega arith) (omega arith)) (ap length c.new.ensures ∙ sym (no_joins_size n)) in
    record { some = o.some; few = o.few; symmetric = o.symmetric; loopless = o.loopless; within = o.within; counted = o.counted; fits = search (rules, c.new.ensures) }
