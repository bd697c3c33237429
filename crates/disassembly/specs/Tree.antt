-- Rooted trees, each given by the parent of every table, and the joins that hang on one.
--
--   Less P x a               a is a table of P other than x
--   Over parent r a b        a is b, or an ancestor of b, in the tree with root r
--   Hangs P J parent r rank  the joins J of the tables P hang on that tree: its edges are joins, every join is between a table and
--                            an ancestor of it, and no table is an articulation table by low points
use Rattle.std.specs.Prelude.{◌≡◌, ℕ, ◌<◌, ◌⊎◌, ◌≢◌}

abbrev pub Less : (ℕ → Type 0) → ℕ → ℕ → Type 0
Less P x a = P a × (a ≢ x)

pub data Over (f : ℕ → ℕ) (r : ℕ) (a : ℕ) : ℕ → Type 0 where
  self : Over f r a a
  up : {b : ℕ} → (b ≢ r) → Over f r a (f b) → Over f r a b

pub record Hangs (P : ℕ → Type 0) (J : ℕ → ℕ → Type 0) (f : ℕ → ℕ) (r : ℕ) (rank : ℕ → ℕ) : Type 0 where
  pub same : (a b : ℕ) → J a b → J b a
  pub apart : (a b : ℕ) → J a b → a ≢ b
  pub within : (a b : ℕ) → J a b → P a
  pub root : P r
  pub rooted : (v : ℕ) → P v → Over f r r v
  pub climbs : (v : ℕ) → P v → (v ≢ r) → P (f v)
  pub rises : (v : ℕ) → P v → (v ≢ r) → rank (f v) < rank v
  pub tree : (v : ℕ) → P v → (v ≢ r) → J (f v) v
  pub no_cross : (a b : ℕ) → J a b → Over f r a b ⊎ Over f r b a
  -- a join leads from v or a table below it to a table above the parent of v
  pub low : (v : ℕ) → P v → (v ≢ r) → (f v ≢ r) → (d e : ℕ) × J d e × Over f r v d × Over f r e (f (f v))
  -- the root has no two children
  pub one_son : (v w : ℕ) → P v → P w → (v ≢ r) → (w ≢ r) → f v ≡ r → f w ≡ r → v ≡ w
