-- Lists and reports laid behind those before them.
--
--   steps_fit    no more records are filled than were lent
--   planted_is   a tree filled in its place
use Rattle.std.proofs.Common.{◌≡◌, ℕ, ◌≤◌, List, length, map, get_or, set, Ok, Err, Result, sym, ap, ◌∙◌, arith}
use Rattle.std.proofs.lemmas.List.{map-set, set-get_or}
use Rattle.theory.specs.Graph.{Graph, Simple}
use Rattle.theory.specs.declared.step.Step.{Step}
use Rattle.refusals.specs.declared.build.BuildFault.{BuildFault}
use Rattle.assembly.specs.Build.{build_answer}
use Rattle.assembly.specs.declared.build.Built.{Built}
use Rattle.trees.specs.Spanner.{tree_of}
use Rattle.trees.specs.Tree.{tree_after}
use Rattle.trees.specs.declared.fault.TreeFault.{TreeFault}
use Rattle.trees.specs.declared.tree.SpanningTree.{SpanningTree}
use Rattle.ledger.specs.Run.{planted, given_steps}
use Rattle.ledger.proofs.Requests.{build_filling}

pub steps_fit : (m : Graph) → Simple m → (l : List Step) (r : Result Built BuildFault) → r ≡ build_answer m (length l) → given_steps r ≤ length l
steps_fit m s l r e = let f = build_filling m s l in omega (arith, f.few, f.as_many, ap given_steps e)

-- a tree that is filled in its place, or keeps what it was
pub planted_is : (trees : List SpanningTree) (j : ℕ) (r : Result Unit TreeFault) (d new : SpanningTree) (t : Graph)
    → tree_of new ≡ tree_after r t (tree_of (get_or trees j d)) → map tree_of (set trees j new) ≡ planted r t j (map tree_of trees)
planted_is trees j (Ok u) d new t is = map-set tree_of trees j new ∙ ap (set (map tree_of trees) j) is
planted_is trees j (Err f) d new t is =
    map-set tree_of trees j new ∙ ap (set (map tree_of trees) j) is ∙ sym (map-set tree_of trees j (get_or trees j d)) ∙ ap (map tree_of) (set-get_or trees j d)
