use Rattle.std.proofs.Common.{sym, ap, ◌∙◌, arith, rules}
use Rattle.theory.specs.Graph.{joining}
use Rattle.theory.proofs.Sizes.{joining_simple, joining_size}
use Rattle.run_calls.specs.Pairs.{listed}
use Rattle.run_calls.specs.contracts.pair_list.PairListReadableGraph.TheImpl.Laws.{simple-law}
use Rattle.run_calls.proofs.Listed.{put_in, owed}
use Rattle.run_calls.proofs.pair_list.PairListEditableGraph.join.Goals as goal

-- there is one pair more, and one join more
pub invariant_of-self : goal.invariant_of-self
invariant_of-self c =
    let s = c.args.self.now in
    let m = listed s.count s.pairs.items in
    let two = c.judge_pair.ensures.two c.in_ok-judge_pair.was in
    let one = joining_size m c.args.a c.args.b two.0 two.1.0 two.1.1 (simple-law s) (sym c.if-joined.ensures) in
    let more = c.push.ensures.len in
    let room = c.if-is_full.false in
    let o = owed s.count _ (joining m c.args.a c.args.b)
    (ap (listed s.count) c.push.ensures.items ∙ put_in s.count c.args.a c.args.b s.pairs.items)
    (joining_simple m c.args.a c.args.b two.0 two.1.0 two.1.1 (simple-law s))
    (omega (arith, s.counted, one, more)) in
    record { some = o.some; few = o.few; symmetric = o.symmetric; loopless = o.loopless; within = o.within; counted = o.counted; fits = search (rules, more) }

pub returns-clause-meant : goal.returns-clause-meant
returns-clause-meant c =
    let s = c.args.self.now in
    ap (listed s.count) c.push.ensures.items ∙ put_in s.count c.args.a c.args.b s.pairs.items
