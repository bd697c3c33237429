use Rattle.std.proofs.Common.{length, sym, ap, ◌∙◌, subst, arith}
use Rattle.theory.specs.Graph.{Simple, size, unjoining}
use Rattle.theory.proofs.Sizes.{unjoining_simple, unjoining_size}
use Rattle.run_calls.specs.Pairs.{listed}
use Rattle.run_calls.specs.contracts.pair_list.PairListReadableGraph.TheImpl.Laws.{simple-law}
use Rattle.run_calls.proofs.Listed.{left, fewer, no_more, owed}
use Rattle.run_calls.proofs.pair_list.PairListEditableGraph.unjoin.Goals as goal

-- there are fewer pairs, one join less, and no more joins than pairs
pub invariant_of-self : goal.invariant_of-self
invariant_of-self c =
    let s = c.args.self.now in
    let a = c.args.a in
    let b = c.args.b in
    let m = listed s.count s.pairs.items in
    let means = ap (listed s.count) c.take_out.ensures ∙ left s.count a b s.pairs.items in
    let simple = unjoining_simple m a b (simple-law s) in
    let two = c.judge_pair.ensures.two c.in_ok-judge_pair.was in
    let there = sym c.if-not-joined.ensures in
    let less = unjoining_size m a b two.0 two.1.0 two.1.1 (simple-law s) there in
    let shorter = fewer a b s.pairs.items there in
    let long = ap length c.take_out.ensures in
    let most = no_more s.count _ (subst Simple (sym means) simple) in
    let as_many = ap size means in
    let o = owed s.count _ (unjoining m a b) means simple (omega (arith, s.counted, less, shorter, long, most, as_many)) in
    record { some = o.some; few = o.few; symmetric = o.symmetric; loopless = o.loopless; within = o.within; counted = o.counted; fits = omega (arith, s.fits, shorter, long) }

pub returns-clause-meant : goal.returns-clause-meant
returns-clause-meant c =
    let s = c.args.self.now in
    ap (listed s.count) c.take_out.ensures ∙ left s.count c.args.a c.args.b s.pairs.items
