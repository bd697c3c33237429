-- What sets, rows and lent slots mean while tables are taken away.
--
--   part_in tables rows  the part with the tables of a set in use, and the joins of rows
--   Symmetric J          the joins go both ways
--   Without u l J K      the rows K are those of J, without u in the rows of the tables l
--   others J u f a       u's neighbours other than f and a, in rising number
--   away_in s            the tables to take away in the order of survey s: all but the last three that the search left
--   taken_of s u p, noted_of s u p
--                        what taking u away leaves of the part p, by the parents and numbers of survey s, and the notes of it
--   remains_of s p, all_notes_of s p
--                        the same for all tables to take away, one after another
--   poured slots k l     the slots with the records l laid into them from place k on, as far as there are slots
--   any o                the note of o, where there is one
--   Lays s t l           the stack t is s with the records l laid on top, as many of them, from the first on, as there is room for
--   corners_of U         the triangle of the three lowest tables of U
--   list_laid notes l    the records l with the notes, as many of them as there are records, laid in reverse over the first of them
use Rattle.std.specs.Prelude.{◌≡◌, ℕ, ◌+◌, ◌-◌, min, Bool, false, not, ◌&&◌, Some, None, Option, List, [], ◌∷◌, ◌++◌, length, take, drop, ◌==◌, slice_set}
use Rattle.theory.specs.Build.{Part}
use Rattle.theory.specs.declared.step.Step.{Step}
use Rattle.theory.specs.declared.step.Triangle.{Triangle}
use Rattle.memory.specs.Stack.{slots_of, height_of, lender_of}
use Rattle.memory.specs.declared.stack.Stack.{Stack}
use Rattle.sets.specs.Set.{bit}
use Rattle.sets.specs.Rows.{in_row}
use Rattle.disassembly.specs.Search.{has}
use Rattle.disassembly.specs.Disassembly.{part_of, other, passing, reversed, taken, noted, remaining, all_notes, corners}
use Rattle.traversal.specs.Discoveries.{parent_in, number_in}
use Rattle.traversal.specs.Order.{tables_in}
use Rattle.traversal.specs.declared.survey.Survey.{Survey}

abbrev pub part_in : ℕ → List ℕ → Part
part_in tables rows = part_of (bit tables) (in_row rows)

abbrev pub Symmetric : (ℕ → ℕ → Bool) → Type 0
Symmetric J = (x y : ℕ) → J x y ≡ J y x

abbrev pub Without : ℕ → List ℕ → (ℕ → ℕ → Bool) → (ℕ → ℕ → Bool) → Type 0
Without u l J K = (x y : ℕ) → K x y ≡ (not (u == y && has l x) && J x y)

unfoldable pub others : (ℕ → ℕ → Bool) → ℕ → ℕ → ℕ → List ℕ
others J u f a = passing (other u f a (part_of (λ _. false) J))

abbrev pub away_in : Survey → List ℕ
away_in s = take (length (tables_in s.left) - 3) (tables_in s.left)

abbrev pub taken_of : Survey → ℕ → Part → Part
taken_of s u p = taken (parent_in s.found) (number_in s.found) u p

abbrev pub noted_of : Survey → ℕ → Part → List Step
noted_of s u p = noted (parent_in s.found) (number_in s.found) u p

abbrev pub remains_of : Survey → Part → Part
remains_of s p = remaining (parent_in s.found) (number_in s.found) (away_in s) p

abbrev pub all_notes_of : Survey → Part → List Step
all_notes_of s p = all_notes (parent_in s.found) (number_in s.found) (away_in s) p

abbrev pub poured : {T : Type 0} → List T → ℕ → List T → List T
poured slots k [] = slots
poured slots k (x ∷ l) = poured (slice_set slots k x) (k + 1) l

abbrev pub any : Option Step → List Step
any (Some s) = s ∷ []
any None = []

pub record Lays (before after : Stack Step) (l : List Step) : Type 0 where
  pub laid : slots_of after ≡ poured (slots_of before) (height_of before) l
  -- it grows until its slots are full
  pub height : height_of after ≡ min (height_of before + length l) (length (slots_of before))
  -- the stack is over the same lent slots
  pub lender : lender_of after ≡ lender_of before

unfoldable pub corners_of : (ℕ → Bool) → Triangle
corners_of U = corners (passing U)

abbrev pub list_laid : List Step → List Step → List Step
list_laid notes l = reversed (take (length l) notes) ++ drop (length notes) l
