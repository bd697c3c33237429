-- Whether there is a join: some table has one, or none of them.
use Rattle.std.proofs.Common.{◌≡◌, ℕ, true, false, arith, rules}
use Rattle.std.proofs.lemmas.Iterator.{YieldsList-from_range, cases_from_any}
use borrow.Author.Tests.{tests}
use Rattle.construction.proofs.Joins.{found}
use Rattle.construction.proofs.replay.has_joins.Goals as goal

pub returns : goal.returns
returns g c =
    let m = g.G.ReadableGraph.meaning c.args.graph.now in
    found m (g.met.G.ReadableGraph.simple c.args.graph.now) c.any.result
    (cases_from_any _ _ c.any.result (λ t. (x : ℕ) × (m.adj t x ≡ true)) (λ t. (x : ℕ) → m.adj t x ≡ false) c.any.ensures.ran
    (YieldsList-from_range 0 m.tables m.tables (cc) (omega arith))
    (λ x q k. search (rules, tests)) (λ x q k. search (rules, tests)))
