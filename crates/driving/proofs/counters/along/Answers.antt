-- Both amounts are at most 64.
use Rattle.std.proofs.Common.{◌≡◌, not, ◌&&◌, ap, ◌∙◌, arith}
use Rattle.std.proofs.lemmas.Int.{ints}
use Rattle.sets.specs.Set.{bit}
use Rattle.traversal.proofs.Sets.{set_most}
use Rattle.driving.specs.Counters.{gained_by, lost_by}
use Rattle.driving.proofs.Counted.{counted_as}
use Rattle.driving.proofs.counters.along.Goals as goal

pub overflow_cast-result : goal.overflow_cast-result
overflow_cast-result c =
    let more = set_most c.intersection.result in
    let less = set_most c.difference.result in
    omega (arith, ints, c.len-gained.ensures, c.len-lost.ensures)

pub overflow_cast-result-2 : goal.overflow_cast-result-2
overflow_cast-result-2 c =
    let more = set_most c.intersection.result in
    let less = set_most c.difference.result in
    omega (arith, ints, c.len-gained.ensures, c.len-lost.ensures)

pub overflow_sub-result : goal.overflow_sub-result
overflow_sub-result c =
    let more = set_most c.intersection.result in
    let less = set_most c.difference.result in
    omega (arith, ints, c.len-gained.ensures, c.len-lost.ensures)

pub returns : goal.returns
returns c =
    let more = set_most c.intersection.result in
    let less = set_most c.difference.result in
    let gained : c.len-gained.result ≡ gained_by c.args.joins.now c.args.marks.now (bit c.args.under) c.args.parent =
    c.len-gained.ensures ∙ counted_as c.intersection.result _ (λ x. c.intersection.ensures x ∙ ap (λ j. j && bit c.args.under x) (c.unmarked.ensures x)) in
    let lost : c.len-lost.result ≡ lost_by c.args.joins.now c.args.marks.now (bit c.args.under) c.args.s =
    c.len-lost.ensures ∙ counted_as c.difference.result _ (λ x. c.difference.ensures x ∙ ap (λ j. j && not (bit c.args.under x)) (c.unmarked-2.ensures x)) in
    omega (arith, ints, c.len-gained.ensures, c.len-lost.ensures)
