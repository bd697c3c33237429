-- Where a survey and masks tell the place at which a search ended, the notes, the list and the triangle are those that the search gives.
--
--   given_steps, given_length   the list, which is as long as the notes
--   given_triangle              the triangle
use Rattle.std.proofs.Common.{◌≡◌, ℕ, Bool, List, length, sym, ap, ◌∙◌}
use mathlib.Core.Path.{fun_ext}
use Rattle.theory.specs.Build.{Part}
use Rattle.sets.specs.Set.{bit}
use Rattle.disassembly.specs.Search.{Place, discovery}
use Rattle.disassembly.specs.Disassembly.{reversed, part_of, away_of, remaining, all_notes, given_at}
use Rattle.disassembly.proofs.Undo.{part_path}
use Rattle.traversal.specs.Discoveries.{parent_in, number_in}
use Rattle.traversal.specs.Survey.{Tells}
use Rattle.traversal.specs.declared.survey.Survey.{Survey}
use Rattle.sets.specs.Rows.{in_row}
use Rattle.notes.specs.Notes.{part_in, away_in, remains_of, all_notes_of, corners_of}
use Rattle.traversal.specs.Order.{tables_in}
use Rattle.notes.proofs.Reversed.{reversed_length, away_taken}

module _ (p : Place) (s : Survey) (tells : Tells p s) (U : ℕ → Bool) (J : ℕ → ℕ → Bool) (tables : ℕ) (rows : List ℕ)
    (used : (x : ℕ) → bit tables x ≡ U x) (joins : (x y : ℕ) → in_row rows x y ≡ J x y) where
  -- whatever is computed of the four is the same
  told : {A : Type 0} (F : (ℕ → ℕ) → (ℕ → ℕ) → List ℕ → Part → A)
      → F (parent_in s.found) (number_in s.found) (away_in s) (part_in tables rows) ≡ F p.parent (discovery p.seen) (away_of p) (part_of U J)
  told F =
      ap (λ f. F f (number_in s.found) (away_in s) (part_in tables rows)) (fun_ext tells.parents)
      ∙ ap (λ g. F p.parent g (away_in s) (part_in tables rows)) (fun_ext tells.numbers)
      ∙ ap (λ l. F p.parent (discovery p.seen) l (part_in tables rows)) (away_taken p (tables_in s.left) tells.left)
      ∙ ap (λ q. F p.parent (discovery p.seen) (away_of p) q) (part_path (part_in tables rows) (part_of U J) used joins)

  pub given_steps : reversed (all_notes_of s (part_in tables rows)) ≡ (given_at p U J).steps
  unfolding given_at
  given_steps = ap reversed (told all_notes)

  pub given_length : length (all_notes_of s (part_in tables rows)) ≡ length (given_at p U J).steps
  given_length = sym (reversed_length (all_notes_of s (part_in tables rows))) ∙ ap length given_steps

  pub given_triangle : corners_of (remains_of s (part_in tables rows)).in_use ≡ (given_at p U J).triangle
  unfolding given_at corners_of
  given_triangle = told (λ f g l q. corners_of (remaining f g l q).in_use)
