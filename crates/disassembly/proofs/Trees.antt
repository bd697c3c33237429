-- Ancestors in a rooted tree.
--
--   over_trans, over_father, over_both, over_root   the order of ancestors
--   over_in                                         a set that holds the parent of each of its tables holds their ancestors
--   over_rank, over_lower, over_leaf                ancestors where each parent has a lower rank
use Rattle.std.proofs.Common.{◌≡◌, ℕ, ◌<◌, ◌≤◌, ◌⊎◌, refl, inl, inr, ⊎_elim, arith}
use Rattle.disassembly.specs.Tree.{Over, self, up}

module _ (f : ℕ → ℕ) (r : ℕ) where
  pub over_trans : {a b c : ℕ} → Over f r a b → Over f r b c → Over f r a c
  over_trans p self = p
  over_trans p (up n q) = up n (over_trans p q)

  -- an ancestor of b is an ancestor of its parent, or is it
  pub over_father : {a b : ℕ} → Over f r a b → (a ≡ b → ⊥) → Over f r a (f b)
  over_father self n = absurd (n refl)
  over_father (up _ q) n = q

  -- of two ancestors of one table one is above the other
  pub over_both : {a b c : ℕ} → Over f r a c → Over f r b c → Over f r a b ⊎ Over f r b a
  over_both self q = inr q
  over_both (up n p) self = inl (up n p)
  over_both (up n p) (up _ q) = over_both p q

  pub over_root : {a : ℕ} → Over f r a r → a ≡ r
  over_root p = go p refl
    where
      go : {a b : ℕ} → Over f r a b → b ≡ r → a ≡ r
      go self e = e
      go (up n _) e = absurd (n e)

  pub over_in : (P : ℕ → Type 0) (climbs : (v : ℕ) → P v → (v ≡ r → ⊥) → P (f v)) {a b : ℕ} → Over f r a b → P b → P a
  over_in P climbs self h = h
  over_in P climbs (up {b = b} n p) h = over_in P climbs p (climbs b h n)

  module _ (P : ℕ → Type 0) (rank : ℕ → ℕ) (climbs : (v : ℕ) → P v → (v ≡ r → ⊥) → P (f v)) (rises : (v : ℕ) → P v → (v ≡ r → ⊥) → rank (f v) < rank v) where
    pub over_rank : {a b : ℕ} → Over f r a b → P b → (a ≡ b) ⊎ (rank a < rank b)
    over_rank self h = inl refl
    over_rank {a} (up {b = b} n p) h =
        let k : rank (f b) < rank b = rises b h n in
        inr (⊎_elim (λ e. rw e k) (λ l. omega arith) (over_rank p (climbs b h n)))

    -- of two ancestors the one of lower rank is above the other
    pub over_lower : {a b c : ℕ} → Over f r a c → Over f r b c → P c → rank a ≤ rank b → Over f r a b
    over_lower {a} {b} p q h l = ⊎_elim (λ k. k) (λ k. ⊎_elim (λ e. rw e self) (λ m. absurd (omega arith)) (over_rank k (over_in P climbs p h))) (over_both p q)

    -- below a table without children there is none but itself
    pub over_leaf : {u b : ℕ} → Over f r u b → P b → ((w : ℕ) → P w → (w ≡ r → ⊥) → f w ≡ u → ⊥) → b ≡ u
    over_leaf self h leaf = refl
    over_leaf {u} (up {b = b} n p) h leaf = absurd (leaf b h n (over_leaf p (climbs b h n) leaf))
