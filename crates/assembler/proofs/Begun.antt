-- The graph of the J lines of a query: it is simple, and has as many joins as there are lines.
--
--   begun_simple   the graph is simple
--   begun_size     it has a join for each J line
use Rattle.std.proofs.Common.{◌≡◌, ℕ, ◌≤◌, false, List, [], ◌∷◌, length, ℤ, sym, refl, ap, ◌∙◌, subst, arith, length-append}
use Rattle.std.proofs.lemmas.Bool.Decides.{nat_tests}
use Rattle.theory.specs.Graph.{Simple, size}
use Rattle.theory.specs.declared.mark.Mark.{Mark}
use Rattle.theory.proofs.Sizes.{joining_simple, joining_size, no_joins_size, no_joins_simple}
use Rattle.queries.specs.QueryRead.{outside_limits}
use Rattle.queries.specs.QueryLaw.{lines_graph, Begun, headed, joined_by, marked_by, counted_by}
use Rattle.queries.proofs.Effects.{graph_more}

least : (n m : ℕ) → outside_limits n m ≡ false → 1 ≤ n
least n m e = grind (arith, nat_tests)

most : (n m : ℕ) → outside_limits n m ≡ false → n ≤ 64
most n m e = grind (arith, nat_tests)

module _ {text : List ℕ} {at room n m : ℕ} where
  pub begun_simple : {js : List (ℕ × ℕ)} {ms : List Mark} {rs : List (ℕ × ℤ)} → Begun text at room n m js ms rs → Simple (lines_graph n js)
  begun_simple (headed h) = no_joins_simple n (least n m h.inside) (most n m h.inside)
  begun_simple (joined_by {js} p b d h g) =
      subst Simple (graph_more n js p (lines_graph n js) refl) (joining_simple (lines_graph n js) p.0 p.1 g.first g.second g.apart (begun_simple b))
  begun_simple (marked_by k b d h) = begun_simple b
  begun_simple (counted_by r b d h g) = begun_simple b

  pub begun_size : {js : List (ℕ × ℕ)} {ms : List Mark} {rs : List (ℕ × ℤ)} → Begun text at room n m js ms rs → size (lines_graph n js) ≡ length js
  begun_size (headed h) = no_joins_size n
  begun_size (joined_by {js} p b d h g) =
      let ih : size (lines_graph n js) ≡ length js = begun_size b in
      let more = joining_size (lines_graph n js) p.0 p.1 g.first g.second g.apart (begun_simple b) g.fresh in
      let long = length-append js (p ∷ []) in
      sym (ap size (graph_more n js p (lines_graph n js) refl)) ∙ omega (arith, ih, more, long)
  begun_size (marked_by k b d h) = begun_size b
  begun_size (counted_by r b d h g) = begun_size b
