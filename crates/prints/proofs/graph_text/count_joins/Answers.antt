-- The rows of all tables together are all joins.
use Rattle.std.proofs.Common.{◌≡◌, ℕ, ◌+◌, ◌^◌, ◌<◌, ◌≤◌, length, ap, ◌∙◌, arith, rules}
use Rattle.std.specs.List.{sum_by, range_with_len}
use Rattle.std.proofs.lemmas.Iterator.{YieldsList-from_range, YieldsList-from_map}
use Rattle.std.proofs.lemmas.Iterator.Consumers.{sum_by_from_yields_List, fits_by_from_yields_list}
use Rattle.theory.specs.Graph.{size}
use Rattle.theory.proofs.Sizes.{size_most}
use Rattle.graph.specs.Neighbours.{neighbours_from}
use Rattle.prints.proofs.Rows.{all_summed}
use Rattle.prints.proofs.graph_text.count_joins.Goals as goal

pub sum-requires-clause-fits : goal.sum-requires-clause-fits
sum-requires-clause-fits g c =
    let m = g.G.ReadableGraph.meaning c.args.graph.now in
    let s = g.met.G.ReadableGraph.simple c.args.graph.now in
    let h : ℕ → ℕ = λ v. length (neighbours_from m v (v + 1)) in
    let n = c.tables.result in
    let most : size m ≤ 2016 = size_most m s.few in
    let all : sum_by h (range_with_len 0 n) ≡ size m = ap (λ n. sum_by h (range_with_len 0 n)) c.tables.ensures ∙ all_summed m s in
    let fits : sum_by h (range_with_len 0 n) < 2 ^ 64 = omega arith in
    fits_by_from_yields_list h (range_with_len 0 n) c.map.result (2 ^ 64)
    (YieldsList-from_map _ h (YieldsList-from_range 0 n n c.map.ensures.source (omega arith)) c.map.ensures.closure (λ x r q k. search rules)) fits

pub returns : goal.returns
returns g c =
    let m = g.G.ReadableGraph.meaning c.args.graph.now in
    let s = g.met.G.ReadableGraph.simple c.args.graph.now in
    let h : ℕ → ℕ = λ v. length (neighbours_from m v (v + 1)) in
    let n = c.tables.result in
    sum_by_from_yields_List h (range_with_len 0 n) c.map.result c.sum.result c.sum.ensures.ran
    (YieldsList-from_map _ h (YieldsList-from_range 0 n n c.map.ensures.source (omega arith)) c.map.ensures.closure (λ x r q k. search rules))
    ∙ ap (λ n. sum_by h (range_with_len 0 n)) c.tables.ensures
    ∙ all_summed m s
