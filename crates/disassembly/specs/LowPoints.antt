-- Articulation tables by low points (Tarjan): what a finished search from r tells of each table of a connected graph.
--
--   Child parent seen r x c       the search discovered c from x
--   Confined J parent seen r x c  no join leads from c, or a table below it, to a table discovered before x
--   LowCut J parent seen r x      x is an articulation table by low points: it is not the root and a child of it is confined by
--                                 it, or it is the root and has a child besides the one discovered first
--   LowCutsExactly                on a connected graph these are exactly the articulation tables
use Rattle.std.specs.Prelude.{◌≡◌, ℕ, ◌≤◌, Bool, true, ◌⊎◌, ◌↔◌, List, [], ◌≢◌}
use Rattle.disassembly.specs.Walks.{Articulation, SimpleOn}
use Rattle.disassembly.specs.Search.{has, Visit, discovery}
use Rattle.disassembly.specs.Tree.{Over}

abbrev pub Child : (ℕ → ℕ) → List ℕ → ℕ → ℕ → ℕ → Type 0
Child parent seen r x c = (has seen c ≡ true) × (c ≢ r) × (parent c ≡ x)

abbrev pub Confined : (ℕ → ℕ → Bool) → (ℕ → ℕ) → List ℕ → ℕ → ℕ → ℕ → Type 0
Confined J parent seen r x c = (d e : ℕ) → Over parent r c d → J d e ≡ true → discovery seen x ≤ discovery seen e

abbrev pub LowCut : (ℕ → ℕ → Bool) → (ℕ → ℕ) → List ℕ → ℕ → ℕ → Type 0
LowCut J parent seen r x =
    ((x ≢ r) × ((c : ℕ) × Child parent seen r x c × Confined J parent seen r x c))
    ⊎ ((x ≡ r) × ((c : ℕ) × Child parent seen r r c × (discovery seen c ≢ 1)))

abbrev pub LowCutsExactly : Type 0
LowCutsExactly = (U : ℕ → Bool) (J : ℕ → ℕ → Bool) (parent : ℕ → ℕ) (r : ℕ) (seen left : List ℕ) → SimpleOn U J → U r ≡ true
    → Visit U J parent r [] seen left → ((x : ℕ) → U x ≡ true → has seen x ≡ true) → (x : ℕ) → Articulation U J x ↔ LowCut J parent seen r x
