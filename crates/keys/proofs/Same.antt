-- Triangles and lists of steps compared by their parts.
--
--   same_triangle   three tables that are the same are the same triangle
--   same_steps      lists are the same where a test of two steps tells each pair, as the derived one does
use Rattle.std.proofs.Common.{◌≡◌, ℕ, Bool, true, false, ◌&&◌, eqb, List, sym, ap, ◌∙◌, arith}
use lib.Pointwise.{pointwise, pointwise_decides}
use Rattle.std.proofs.lemmas.Bool.{and_parts, eqb-true}
use Rattle.std.proofs.lemmas.Bool.Decides.{nat_tests}
use Rattle.theory.specs.declared.step.Step.{Step}
use Rattle.theory.specs.declared.step.Step.TheVariants.{Edge, Node}
use Rattle.theory.specs.declared.step.Triangle.{Triangle}

pub same_triangle : (a b : Triangle) → true ≡ (eqb a.a b.a && (eqb a.b b.b && eqb a.c b.c)) → a ≡ b
same_triangle a b e =
    let p = and_parts (eqb a.a b.a) (eqb a.b b.b && eqb a.c b.c) (sym e) in
    let q = and_parts (eqb a.b b.b) (eqb a.c b.c) p.1 in
    λ i. record { a = eqb-true a.a b.a p.0 i; b = eqb-true a.b b.b q.0 i; c = eqb-true a.c b.c q.1 i }

module _ (E : Step → Step → Bool) (edges : (v w x y : ℕ) → E (Edge v w) (Edge x y) ≡ (eqb v x && eqb w y))
    (nodes : (u v w t x y : ℕ) → E (Node u v w) (Node t x y) ≡ (eqb u t && (eqb v x && eqb w y)))
    (edge_node : (v w t x y : ℕ) → E (Edge v w) (Node t x y) ≡ false) (node_edge : (u v w x y : ℕ) → E (Node u v w) (Edge x y) ≡ false) where
  told : (a b : Step) → E a b ≡ true → a ≡ b
  told (Edge v w) (Edge x y) h =
      let p = and_parts (eqb v x) (eqb w y) (sym (edges v w x y) ∙ h) in
      λ i. Edge (eqb-true v x p.0 i) (eqb-true w y p.1 i)
  told (Node u v w) (Node t x y) h =
      let p = and_parts (eqb u t) (eqb v x && eqb w y) (sym (nodes u v w t x y) ∙ h) in
      let q = and_parts (eqb v x) (eqb w y) p.1 in
      λ i. Node (eqb-true u t p.0 i) (eqb-true v x q.0 i) (eqb-true w y q.1 i)
  told (Edge v w) (Node t x y) h = let no : false ≡ true = sym (edge_node v w t x y) ∙ h in cc
  told (Node u v w) (Edge x y) h = let no : false ≡ true = sym (node_edge u v w x y) ∙ h in cc

  own : (a : Step) → E a a ≡ true
  own (Edge v w) = edges v w v w ∙ grind (arith, nat_tests)
  own (Node u v w) = nodes u v w u v w ∙ grind (arith, nat_tests)

  pub same_steps : (xs ys : List Step) → (pointwise E xs ys ≡ true → xs ≡ ys) × (xs ≡ ys → pointwise E xs ys ≡ true)
  same_steps = pointwise_decides {E = E} (λ a b. (told a b, λ e. ap (E a) (sym e) ∙ own a))
