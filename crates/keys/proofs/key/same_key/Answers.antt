use Rattle.std.proofs.Common.{◌≡◌, Ok, sym, ◌∙◌, rules}
use Rattle.keys.proofs.Compare.{fits, compared, one_key}
use Rattle.keys.proofs.key.same_key.Goals as goal

pub same_lists-requires : goal.same_lists-requires
same_lists-requires g c =
    let m = g.G.ReadableGraph.meaning c.args.first.now in
    let k = g.H.ReadableGraph.meaning c.args.second.now in
    let ra : c.build.result ≡ Ok c.in_ok-a.a = search rules in
    let rb : c.build-2.result ≡ Ok c.in_ok-b.b = search rules in (
      fits m (g.met.G.ReadableGraph.simple c.args.first.now) c.args.left.now c.build.new.records c.in_ok-a.a (sym c.build.ensures.answer ∙ ra) c.build.ensures.filled,
      fits k (g.met.H.ReadableGraph.simple c.args.second.now) c.args.right.now c.build-2.new.records c.in_ok-b.b (sym c.build-2.ensures.answer ∙ rb) c.build-2.ensures.filled,
    )

pub returns : goal.returns
returns g c =
    let m = g.G.ReadableGraph.meaning c.args.first.now in
    let k = g.H.ReadableGraph.meaning c.args.second.now in
    let s = g.met.G.ReadableGraph.simple c.args.first.now in
    let t = g.met.H.ReadableGraph.simple c.args.second.now in
    let ra : c.build.result ≡ Ok c.in_ok-a.a = search rules in
    let rb : c.build-2.result ≡ Ok c.in_ok-b.b = search rules in
    let ea = sym c.build.ensures.answer ∙ ra in
    let eb = sym c.build-2.ensures.answer ∙ rb in
    record {
      answer = compared m k s t c.args.left.now c.args.right.now c.in_ok-a.a c.in_ok-b.b ea eb c.same_lists.result
          c.build.new.records c.build-2.new.records c.build.ensures.filled c.build-2.ensures.filled c.same_lists.ensures;
      first = search rules;
      second = search rules;
      graphs = one_key m k s t c.args.left.now c.args.right.now c.in_ok-a.a c.in_ok-b.b ea eb c.same_lists.result
          c.build.new.records c.build-2.new.records c.build.ensures.filled c.build-2.ensures.filled c.same_lists.ensures;
    }
