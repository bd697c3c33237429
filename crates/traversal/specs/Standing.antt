-- What a search under way stands for: a place of the rising search.
--
--   before seen x          the tables discovered before x, where `seen` lists the discovered with the most recent first
--   to_discover rows s t y table y is a neighbour of table t that s tells is not discovered
--   Starts tables r s      s tells what is known at the start of a search from r among the tables of the set `tables`
--   Discovers s u how s'   s' tells what s tells, and how u was discovered
--   Leaves s t s'          s' tells what s tells, and that t was left for good
--   way_of w               the tables on the path of the search w, the one that it stands on last
--   work w                 how many moves the search w goes on for, at most
--   Stands U p s           s tells what is known at place p of a search among the tables U, but for the articulation tables
--   Standing U p w         the search w stands at place p
--   Below64 U              only numbers below 64 are in the set U
use Rattle.std.specs.Prelude.{◌≡◌, ℕ, ◌+◌, ◌*◌, ◌<◌, Bool, true, cond, not, ◌&&◌, List, [], ◌∷◌, ◌++◌, length, replicate, ◌==◌, slice_set}
use Rattle.disassembly.specs.Search.{has, discovery, Place}
use Rattle.disassembly.specs.Disassembly.{reversed}
use Rattle.memory.specs.Stack.{slots_of, height_of, held}
use Rattle.sets.specs.Set.{bit, bits_set}
use Rattle.sets.specs.Rows.{in_row}
use Rattle.traversal.specs.Discoveries.{undiscovered, parent_in, number_in, earlier_in}
use Rattle.traversal.specs.declared.discovery.Discovery.{Discovery}
use Rattle.traversal.specs.declared.survey.Survey.{Survey}
use Rattle.traversal.specs.Order.{tables_in}
use Rattle.traversal.specs.declared.walk.Walk.{Walk}

abbrev pub before : List ℕ → ℕ → List ℕ
before [] x = []
before (y ∷ l) x = cond (x == y) l (before l x)

abbrev pub to_discover : List ℕ → Survey → ℕ → ℕ → Bool
to_discover rows s t y = in_row rows t y && bit s.unreached y

pub record Starts (tables r : ℕ) (s : Survey) : Type 0 where
  pub found : s.found ≡ replicate 64 undiscovered
  pub left : (tables_in s.left) ≡ []
  pub unreached : (x : ℕ) → bit s.unreached x ≡ (not (x == r) && bit tables x)
  pub articulations : s.articulations ≡ 0

pub record Discovers (s : Survey) (u : ℕ) (how : Discovery) (s' : Survey) : Type 0 where
  pub found : s'.found ≡ slice_set s.found u how
  pub left : (tables_in s'.left) ≡ (tables_in s.left)
  pub unreached : (x : ℕ) → bit s'.unreached x ≡ (not (x == u) && bit s.unreached x)
  pub articulations : s'.articulations ≡ s.articulations

pub record Leaves (s : Survey) (t : ℕ) (s' : Survey) : Type 0 where
  pub found : s'.found ≡ s.found
  pub left : (tables_in s'.left) ≡ (tables_in s.left) ++ (t ∷ [])
  pub unreached : s'.unreached ≡ s.unreached
  pub articulations : s'.articulations ≡ s.articulations

abbrev pub way_of : Walk → List ℕ
way_of w = held (slots_of w.path) (height_of w.path)

abbrev pub work : Walk → ℕ
work w = 2 * bits_set w.survey.unreached + height_of w.path

pub record Stands (U : ℕ → Bool) (p : Place) (s : Survey) : Type 0 where
  pub parents : (x : ℕ) → parent_in s.found x ≡ p.parent x
  pub numbers : (x : ℕ) → number_in s.found x ≡ discovery p.seen x
  pub earlier : (x y : ℕ) → bit (earlier_in s.found x) y ≡ has (before p.seen x) y
  pub left : (tables_in s.left) ≡ reversed p.left
  pub unreached : (x : ℕ) → bit s.unreached x ≡ (U x && not (has p.seen x))

pub record Standing (U : ℕ → Bool) (p : Place) (w : Walk) : Type 0 where
  pub stands : Stands U p w.survey
  pub path : way_of w ≡ reversed p.stack
  pub next : w.next ≡ length p.seen
  pub seen : (x : ℕ) → bit w.seen x ≡ has p.seen x

abbrev pub Below64 : (ℕ → Bool) → Type 0
Below64 U = (a : ℕ) → U a ≡ true → a < 64
