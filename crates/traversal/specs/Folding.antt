-- Articulation tables by low points, in the order in which a search left the tables.
--
--   parent_of s x            the parent of a table
--   touches rows w x y       table y is joined with x, or, as the low points w say, with a table below x that was gone through
--   cuts_off_by s r v p      whether v, which with the tables below it is joined with those that pass p, makes its parent an
--                            articulation table, where r is the start
--   Folds rows s v w w'      w' are the low points w after v handed on what it touches to its parent
--   Whole U J r s            the survey s tells of the finished search from r, which discovered all tables of U
--   SomeWhole rows s         the same of some set of tables and some r, with the joins that the rows keep
use Rattle.std.specs.Prelude.{◌≡◌, ℕ, Bool, true, cond, not, ◌&&◌, ◌||◌, List, ◌==◌}
use Rattle.disassembly.specs.Search.{has, searched}
use Rattle.disassembly.specs.Walks.{SimpleOn}
use Rattle.sets.specs.Set.{bit}
use Rattle.sets.specs.Rows.{in_row}
use Rattle.traversal.specs.Discoveries.{parent_in, number_in, earlier_in}
use Rattle.traversal.specs.Sets.{apart}
use Rattle.traversal.specs.Standing.{Stands}
use Rattle.traversal.specs.declared.survey.Survey.{Survey}
use Rattle.traversal.specs.declared.lows.Lows.{Lows}

abbrev pub parent_of : Survey → ℕ → ℕ
parent_of s x = parent_in s.found x

abbrev pub touches : List ℕ → Lows → ℕ → ℕ → Bool
touches rows w x y = in_row rows x y || in_row w.below x y

abbrev pub cuts_off_by : Survey → ℕ → ℕ → (ℕ → Bool) → Bool
cuts_off_by s r v p = cond (parent_of s v == r) (not (number_in s.found v == 1)) (apart p (bit (earlier_in s.found (parent_of s v))))

pub record Folds (rows : List ℕ) (s : Survey) (v : ℕ) (w w' : Lows) : Type 0 where
  pub start : w'.start ≡ w.start
  pub touched : (x y : ℕ) → touches rows w' x y ≡ ((x == parent_of s v && touches rows w v y) || touches rows w x y)
  pub cuts : (x : ℕ) → bit w'.cuts x ≡ ((x == parent_of s v && cuts_off_by s w.start v (touches rows w v)) || bit w.cuts x)

pub record Whole (U : ℕ → Bool) (J : ℕ → ℕ → Bool) (r : ℕ) (s : Survey) : Type 0 where
  pub simple : SimpleOn U J
  pub root : U r ≡ true
  pub stands : Stands U (searched U J r) s
  pub all : (x : ℕ) → U x ≡ true → has (searched U J r).seen x ≡ true

abbrev pub SomeWhole : List ℕ → Survey → Type 0
SomeWhole rows s = (U : ℕ → Bool) × (r : ℕ) × Whole U (in_row rows) r s
