-- Walks along joins, and what stays connected. All is said over a set of tables U and a test J on pairs, so that a whole
-- graph, a part of it, or a graph without one of its tables are cases of one definition.
--
--   Walk R a b          a walk from a to b, each step of it in the relation R
--   Leads U J a b       one step: a join between two tables of U
--   Reaches U J a b     joins between tables of U lead from a to b
--   Connected U J       they lead from any table of U to any other
--   without x U         the tables of U other than x
--   Articulation U J x  a table of U whose removal, with its joins, leaves the other tables not connected
--   SimpleOn U J        what holds of the joins of a graph: between two different tables of U, all of them below 64
use Rattle.std.specs.Prelude.{◌≡◌, ℕ, ◌<◌, Bool, true, false, not, ◌&&◌, ◌==◌}

pub data Walk (R : ℕ → ℕ → Type 0) : ℕ → ℕ → Type 0 where
  here : {a : ℕ} → Walk R a a
  on : {a b c : ℕ} → R a b → Walk R b c → Walk R a c

abbrev pub Leads : (ℕ → Bool) → (ℕ → ℕ → Bool) → ℕ → ℕ → Type 0
Leads U J a b = (J a b ≡ true) × (U a ≡ true) × (U b ≡ true)

abbrev pub Reaches : (ℕ → Bool) → (ℕ → ℕ → Bool) → ℕ → ℕ → Type 0
Reaches U J a b = Walk (Leads U J) a b

abbrev pub Connected : (ℕ → Bool) → (ℕ → ℕ → Bool) → Type 0
Connected U J = (a b : ℕ) → U a ≡ true → U b ≡ true → Reaches U J a b

abbrev pub without : ℕ → (ℕ → Bool) → ℕ → Bool
without x U a = not (x == a) && U a

abbrev pub Articulation : (ℕ → Bool) → (ℕ → ℕ → Bool) → ℕ → Type 0
Articulation U J x = (U x ≡ true) × (Connected (without x U) J → ⊥)

pub record SimpleOn (U : ℕ → Bool) (J : ℕ → ℕ → Bool) : Type 0 where
  pub few : (a : ℕ) → U a ≡ true → a < 64
  pub symmetric : (a b : ℕ) → J a b ≡ J b a
  pub loopless : (a : ℕ) → J a a ≡ false
  pub within : (a b : ℕ) → J a b ≡ true → U a ≡ true
