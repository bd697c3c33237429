-- What makes a row of a driving request hold.
--
--   fine n js   each pair of js is of two different tables below n
--   reports     it is known that the marks fill a tree, that none of them is missing, and the report
use Rattle.std.proofs.Common.{◌≡◌, ℕ, ◌<◌, ◌≤◌, Bool, true, not, ◌&&◌, ◌++◌, eqb, List, [], ◌∷◌, length, drop, None, Ok, refl, ap, subst, arith, nat_lt}
use Rattle.std.proofs.lemmas.Bool.Decides.{nat_tests}
use Rattle.theory.specs.Graph.{Graph, Simple}
use Rattle.theory.specs.declared.mark.Mark.{Mark}
use Rattle.theory.proofs.Sizes.{joining_simple, no_joins_simple}
use Rattle.queries.specs.QueryLaw.{lines_graph}
use Rattle.trees.specs.Tree.{marked, fill_answer, MarksTree}
use Rattle.trees.proofs.Fills.{fills_exactly}
use Rattle.reports.specs.declared.record.ReportRecord.{ReportRecord}
use Rattle.driving.specs.Drive.{lowest_missing, drive_judged, report_of, report_after}
use Rattle.driving.specs.DriveLaw.{Reported}
use Rattle.driving.proofs.Cases.{judged_accepted}
use Rattle.driving.proofs.Named.{marks_of_tree, reported}
use Rattle.examples.specs.Worked.{Reports, Holds}

abbrev pub fine : ℕ → List (ℕ × ℕ) → Bool
fine n [] = true
fine n (p ∷ js) = (nat_lt p.0 n && nat_lt p.1 n) && (not (eqb p.0 p.1) && fine n js)

first_fine : (n a b : ℕ) (rest : Bool) → ((nat_lt a n && nat_lt b n) && (not (eqb a b) && rest)) ≡ true → (a < n) × (b < n) × (a ≡ b → ⊥) × (rest ≡ true)
first_fine n a b rest e = (grind (arith, nat_tests), grind (arith, nat_tests), (λ (z : a ≡ b). grind (arith, nat_tests)), grind (arith, nat_tests))

simple : (n : ℕ) (js : List (ℕ × ℕ)) → 1 ≤ n → n ≤ 64 → fine n js ≡ true → Simple (lines_graph n js)
simple n [] some few e = no_joins_simple n some few
simple n (p ∷ js) some few e =
    let f = first_fine n p.0 p.1 (fine n js) e in
    joining_simple (lines_graph n js) p.0 p.1 f.0 f.1 f.2 (simple n js some few f.3)

module _ (n : ℕ) (js : List (ℕ × ℕ)) (ms : List Mark) (r : List ReportRecord) where
  abbrev m : Graph
  m = lines_graph n js

  abbrev t : Graph
  t = marked n ms

  module _ (some : 1 ≤ n) (few : n ≤ 64) (good : fine n js ≡ true) (filled : fill_answer m ms ≡ Ok tt)
      (none : lowest_missing m t ≡ None) (report : report_of m t ≡ r) where
    graph : Simple m
    graph = simple n js some few good

    tree : MarksTree m ms
    tree = (fills_exactly m graph ms).0 filled

    module _ (l : List ReportRecord) (room : n ≤ length l) where
      accepted : drive_judged m t (length l) ≡ Ok tt
      accepted = judged_accepted m t (length l) refl none room

      after : report_after (Ok tt) m t l ≡ r ++ drop n l
      after = ap (λ z. z ++ drop n l) report

      tells : Reported m t (Ok tt) (r ++ drop n l)
      tells = subst (λ z. Reported m t (Ok tt) z) after (reported m t (Ok tt) (λ _. marks_of_tree m t graph tree.spanning (length l) accepted) l)

    pub reports : Holds (Reports n js ms r)
    reports = (filled, (λ l room. (accepted l room, after l room, tells l room)))
