-- What makes a row of a program's text hold.
--
--   assembles   the G line and the lines after it are read, and what is printed of the graph is known
use Rattle.std.proofs.Common.{◌≡◌, ℕ, ◌≤◌, false, List, length, length-take, replicate, min, Ok, ap, arith, nat_lt}
use Rattle.std.proofs.lemmas.Bool.Decides.{nat_tests}
use Rattle.theory.specs.Graph.{Graph}
use Rattle.theory.specs.declared.mark.Mark.{Mark}
use Rattle.theory.specs.declared.step.Step.{Step}
use Rattle.catalogue.specs.Rows.{unknown}
use Rattle.queries.specs.QueryRead.{head_at, query_read, read_on_joins}
use Rattle.queries.specs.declared.query.Head.{Head}
use Rattle.queries.specs.declared.query.QueryHead.{QueryHead}
use Rattle.assembly.specs.Build.{build_answer}
use Rattle.programs.specs.Replay.{looked_at}
use Rattle.assembler.specs.Assemble.{build_last, printed, assemble_told}
use Rattle.examples.specs.Worked.{Assembles, Holds}

module _ (input output : List ℕ) (h : Head) (q : QueryHead) (m : Graph)
    (head : head_at input 0 63 ≡ Ok h)
    (told : (marks : List Mark) → (read_on_joins input 17 h marks (replicate 64 unknown)).told ≡ Ok q)
    (graph : (marks : List Mark) → (read_on_joins input 17 h marks (replicate 64 unknown)).graph ≡ m)
    (shows : printed (build_last (build_answer m 2013) m) ≡ output) where
  reads : (steps : List Step) (marks : List Mark) → length steps ≡ 2013 → length marks ≡ 63 → printed (assemble_told input steps marks) ≡ output
  unfolding assemble_told query_read
  reads steps marks s k = rw (k, head, told marks, graph marks, s) shows

  pub assembles : 17 ≤ length input → Holds (Assembles input output)
  assembles room text len steps marks e s k =
      let all : length (looked_at text len) ≡ length input = ap length e in
      let some = length-take (min (min len (length text)) 36465) text in
      let fits : nat_lt (length text) 17 ≡ false = grind (arith, nat_tests) in
      rw (fits, e) (reads steps marks s k)
