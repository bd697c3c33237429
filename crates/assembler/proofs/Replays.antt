-- A list that was printed, given to the program `replay`, makes the graph again.
use Rattle.std.proofs.Common.{◌≡◌, ℕ, ◌+◌, ◌≤◌, min, List, length, take, Ok, sym, refl, ap, ◌∙◌, ⊎_elim, arith, length-take}
use Rattle.theory.specs.Graph.{Graph, table_count, size, no_joins, clamped}
use Rattle.theory.specs.Listing.{joins_of, ListsJoins}
use Rattle.theory.specs.declared.mark.Mark.{Mark}
use Rattle.theory.specs.declared.step.Step.{Step}
use Rattle.theory.proofs.Listing.{joins_listed}
use Rattle.theory.proofs.Sizes.{size_most, clamped_same}
use Rattle.construction.specs.Replay.{replayed}
use Rattle.assembly.specs.Build.{list_of, built_of}
use Rattle.assembly.proofs.Laws.{there, plays_back}
use Rattle.assembly.proofs.Verdict.{fit_size}
use Rattle.texts.specs.ListWrite.{list_length}
use Rattle.texts.proofs.Stands.{list_text_length}
use Rattle.prints.specs.GraphText.{text_of_graph, graph_length}
use Rattle.programs.specs.Done.{Room}
use Rattle.programs.specs.Replay.{looked_at, replay_told, shown, replay_prints}
use Rattle.programs.proofs.Law.{is_accepted}
use Rattle.programs.proofs.Prints.{shown_graph}
use Rattle.assembler.specs.Assemble.{printed}
use Rattle.assembler.proofs.Accepted.{Accepted}

-- a text that begins with what was printed
looked_whole : (text out : List ℕ) → length out ≤ 36465 → take (length out) text ≡ out → looked_at text (length out) ≡ out
looked_whole text out few e =
    let cut : length (take (length out) text) ≡ min (length out) (length text) = length-take (length out) text in
    let same : length (take (length out) text) ≡ length out = ap length e in
    ap (λ n. take n text) (omega arith) ∙ e

module _ (input : List ℕ) (steps : List Step) (marks : List Mark) (m : Graph) (a : Accepted input steps marks m) where
  made_again : (replayed 2016 (no_joins (clamped (table_count m))) (list_of m).triangle (list_of m).steps).graph ≡ m
  made_again =
      let s = a.was.simple in
      let n = clamped_same (table_count m) s.some s.few in
      let t = there m s steps (built_of m) a.answer in
      ap (λ k. (replayed 2016 (no_joins k) (list_of m).triangle (list_of m).steps).graph) n
      ∙ sym (ap (λ l. (replayed 2016 (no_joins (table_count m)) (list_of m).triangle l).graph) t.steps)
      ∙ (plays_back m s steps (built_of m) a.answer 2016 (size_most m s.few)).1

  told_again : (records : List Step) → 2013 ≤ length records → replay_told (printed (Ok m)) records ≡ Ok m
  told_again records room =
      is_accepted (printed (Ok m)) records room m (list_of m).triangle (list_of m).steps a.able refl a.legal ∙ ap (λ (g : Graph). Ok g) made_again

  pub prints_joins : (text : List ℕ) (records : List Step) → take (length (printed (Ok m))) text ≡ printed (Ok m) → Room (length (printed (Ok m))) (length text) → 2013 ≤ length records
      → (replay_prints text (length (printed (Ok m))) records ≡ text_of_graph m) × ListsJoins m (joins_of m)
  prints_joins text records e room enough =
      let out = printed (Ok m) in
      let b = length text in
      let s = a.was.simple in
      let few : size m ≤ 2016 = size_most m s.few in
      let many : size m ≡ 3 + length (list_of m).steps = fit_size m s a.fit in
      let long : length out ≡ list_length (list_of m).steps = list_text_length (table_count m) (list_of m).triangle (list_of m).steps in
      let fits : graph_length m ≤ b =
      ⊎_elim (λ (h : 34289 ≤ b). let k : graph_length m ≤ b = omega arith in k) (λ (h : length out + 34 ≤ b). let k : graph_length m ≤ b = omega arith in k) room in (
        ap (λ p. shown b (replay_told p records)) (looked_whole text out (omega arith) e) ∙ ap (λ r. shown b r) (told_again records enough) ∙ shown_graph m b fits,
        joins_listed m s,
      )
