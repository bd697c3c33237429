-- The signed counters of the marks.
--
--   unmarked_in joins marks a x   a is joined with x by a join that is not marked, as rows of both say
--   gained_by joins marks under p how many such joins p has with tables that pass the test `under`
--   lost_by joins marks under s   how many s has with other tables
--   Counts joins marks s under n l
--                                 l holds for each table below n, but for table 0, what is gained less what is lost between its
--                                 parent, as s tells it, and the table; and 0 for table 0
use Rattle.std.specs.Prelude.{◌≡◌, ℕ, ◌<◌, Bool, not, ◌&&◌, List, ℤ, pos, ◌-ℤ◌, slice_index_or}
use Rattle.sets.specs.Rows.{in_row}
use Rattle.traversal.specs.Discoveries.{parent_in}
use Rattle.traversal.specs.declared.survey.Survey.{Survey}
use Rattle.driving.specs.Counting.{how_many}

abbrev pub unmarked_in : List ℕ → List ℕ → ℕ → ℕ → Bool
unmarked_in joins marks a x = in_row joins a x && not (in_row marks a x)

abbrev pub gained_by : List ℕ → List ℕ → (ℕ → Bool) → ℕ → ℕ
gained_by joins marks under p = how_many (λ x. unmarked_in joins marks p x && under x)

abbrev pub lost_by : List ℕ → List ℕ → (ℕ → Bool) → ℕ → ℕ
lost_by joins marks under s = how_many (λ x. unmarked_in joins marks s x && not (under x))

pub record Counts (joins marks : List ℕ) (s : Survey) (under : List ℕ) (n : ℕ) (l : List ℤ) : Type 0 where
  pub root : slice_index_or l 0 (pos 0) ≡ pos 0
  pub marked : (x : ℕ) → 0 < x → x < n
      → slice_index_or l x (pos 0) ≡ pos (gained_by joins marks (in_row under x) (parent_in s.found x)) -ℤ pos (lost_by joins marks (in_row under x) x)
