-- The mark of a table leads to the parent that the search kept.
use Rattle.std.proofs.Common.{◌≡◌, ◌<◌, true, false, get_or, sym, ap, ◌∙◌, subst, ⊎_elim, arith}
use Rattle.std.proofs.lemmas.Bool.{cases_eq}
use Rattle.std.proofs.lemmas.List.{get_or_default}
use Rattle.theory.specs.Graph.{joined}
use Rattle.spanning.specs.Laws.{parent_in}
use Rattle.bits.specs.Table.{graph_of}
use Rattle.traversal.specs.Discoveries.{undiscovered}
use Rattle.traversal.specs.declared.discovery.Discovery.{Discovery}
use Rattle.driving.specs.Drive.{missing}
use Rattle.driving.proofs.Missing.{missing_is, missing_not, missing_root, lowest_here, none_missing}
use Rattle.driving.proofs.judge.lowest_missing.Goals as goal

pub loop-x-init : goal.loop-x-init
loop-x-init c = λ t q e y l. missing_root (graph_of c.args.graph.now) t y (omega arith)

pub returns-then-not-joined : goal.returns-then-not-joined
returns-then-not-joined c = λ t q e.
    let m = graph_of c.args.graph.now in
    let s = c.args.survey.now in
    let x = c.loop-x.x in
    let few = c.args.graph.now.few in
    let low : x < 64 = omega (arith, c.loop-x-test.true) in
    let parent : (get_or s.found x c.index-survey-x.result).parent ≡ parent_in t x =
    ap (λ (d : Discovery). d.parent) (get_or_default s.found x c.index-survey-x.result undiscovered (omega arith)) ∙ q.tells.parents x in
    let off : joined m x (parent_in t x) ≡ false = sym (ap (joined m x) parent) ∙ sym c.joined.ensures ∙ c.if-not-joined.true in
    sym (lowest_here m t x low (missing_is m t x (omega (arith, c.loop-x-test.true)) (λ z. omega (arith, c.loop-x.auto.x)) off) (c.loop-x.invariant t q e))

pub loop-x-preserved : goal.loop-x-preserved
loop-x-preserved c = λ t q e y l.
    let m = graph_of c.args.graph.now in
    let s = c.args.survey.now in
    let x = c.loop-x.x in
    let few = c.args.graph.now.few in
    let low : x < 64 = omega (arith, c.loop-x-test.true) in
    let parent : (get_or s.found x c.index-survey-x.result).parent ≡ parent_in t x =
    ap (λ (d : Discovery). d.parent) (get_or_default s.found x c.index-survey-x.result undiscovered (omega arith)) ∙ q.tells.parents x in
    let on : joined m x (parent_in t x) ≡ true = sym (ap (joined m x) parent) ∙ sym c.joined.ensures ∙ c.if-not-joined.false in
    ⊎_elim
    (λ (z : y ≡ x). subst (λ k. missing m t k ≡ false) (sym z) (missing_not m t x on))
    (λ (ne : y ≡ x → ⊥). c.loop-x.invariant t q e y (omega arith))
    (cases_eq y x)

pub returns : goal.returns
returns c = λ t q e.
    let m = graph_of c.args.graph.now in
    let some = c.args.graph.now.some in
    sym (none_missing m t c.loop-x.x (omega (arith, c.loop-x-test.false)) (c.loop-x.invariant t q e))
