-- Which tables drive: those from which some depth-first search of the joins walks precisely the marks.
--
--   Ended J l           the search has come to its end: no discovered table has an undiscovered neighbour
--   Walked f r l a b    the join of a and b was walked: one of the two was discovered from the other
--   Drives m t r        some depth-first search of the joins of m, begun at r, goes on to its end and walks precisely the marks of t
use Rattle.std.specs.Prelude.{◌≡◌, ℕ, Bool, true, ◌⊎◌, ◌↔◌, List, ◌≢◌}
use Rattle.theory.specs.Graph.{Graph, joined}
use Rattle.disassembly.specs.Search.{has}
use Rattle.disassembly.specs.Depth.{Search}

abbrev pub Ended : (ℕ → ℕ → Bool) → List ℕ → Type 0
Ended J l = (a b : ℕ) → has l a ≡ true → J a b ≡ true → has l b ≡ true

-- b was discovered, and from a
abbrev pub DiscoveredFrom : (ℕ → ℕ) → ℕ → List ℕ → ℕ → ℕ → Type 0
DiscoveredFrom f r l a b = (has l b ≡ true) × (b ≢ r) × (f b ≡ a)

abbrev pub Walked : (ℕ → ℕ) → ℕ → List ℕ → ℕ → ℕ → Type 0
Walked f r l a b = DiscoveredFrom f r l a b ⊎ DiscoveredFrom f r l b a

pub record Drives (m t : Graph) (r : ℕ) : Type 0 where
  -- the table that each was discovered from, and the tables discovered, the most recent first
  pub parent : ℕ → ℕ
  pub order : List ℕ
  pub search : Search (joined m) parent r order
  pub ended : Ended (joined m) order
  pub walks : (a b : ℕ) → (joined t a b ≡ true) ↔ Walked parent r order a b
