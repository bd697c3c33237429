-- Depth-first search: the tree that it makes, and that every join is between a table and an ancestor of it.
--
--   recent_in                               the table that a discovery is made from is discovered
--   search_root, search_climbs, search_tree the root and the parent of each other table are discovered, and parents are neighbours
--   search_rooted                           the root is an ancestor of all
--   discovery_below, search_rises           a parent has a lower discovery number
--   search_no_cross                         there is no cross join
--   search_walk                             joins lead from the root to each table discovered
use Rattle.std.proofs.Common.{◌≡◌, ℕ, ◌<◌, Bool, true, false, ◌⊎◌, List, [], ◌∷◌, length, sym, ◌∙◌, subst, inl, inr, ⊎_elim, arith}
use Rattle.std.proofs.lemmas.Bool.{both_ways, false≢true}
use Rattle.std.proofs.lemmas.Bool.Decides.{nat_tests}
use Rattle.disassembly.specs.Tree.{Over, self, up}
use Rattle.disassembly.specs.Walks.{Walk}
use Rattle.disassembly.specs.Search.{has, discovery}
use Rattle.disassembly.specs.Depth.{Recent, top, below, Search, start, find}
use Rattle.disassembly.proofs.Members.{has_cases, has_more, has_head, has_not}
use Rattle.disassembly.proofs.Trees.{over_both, over_in}
use Rattle.disassembly.proofs.Walks.{join_walks, one, stays}

module _ (J : ℕ → ℕ → Bool) (f : ℕ → ℕ) (r : ℕ) where
  pub recent_in : {all : List ℕ} {p : ℕ} {l : List ℕ} → Recent J all p l → has l p ≡ true
  recent_in {p = p} (top {l = l}) = has_head p l
  recent_in {p = p} (below {x = x} {l = l} _ m) = has_more x l p (recent_in m)

  pub search_climbs : {l : List ℕ} → Search J f r l → (v : ℕ) → has l v ≡ true → (v ≡ r → ⊥) → has l (f v) ≡ true
  search_climbs start v h n = absurd (n (⊎_elim (λ e. e) (λ k. absurd (false≢true k)) (has_cases r [] v h)))
  search_climbs (find {u = u} {l = l} s new j m) v h n =
      ⊎_elim (λ e. rw e (has_more u l (f u) (recent_in m))) (λ k. has_more u l (f v) (search_climbs s v k n)) (has_cases u l v h)

  pub search_root : {l : List ℕ} → Search J f r l → has l r ≡ true
  search_root start = has_head r []
  search_root (find {u = u} {l = l} s new j m) = has_more u l r (search_root s)

  -- beside the table p that a discovery is made from, a discovered table has no neighbour to discover, or is p, or is not below p
  pub older : {all : List ℕ} {p : ℕ} {l : List ℕ} → Search J f r l → Recent J all p l → (a : ℕ) → has l a ≡ true
      → ((y : ℕ) → J a y ≡ true → has all y ≡ true) ⊎ ((a ≡ p) ⊎ (Over f r p a → ⊥))
  older start (top) a h = inr (inl (⊎_elim (λ e. e) (λ k. absurd (false≢true k)) (has_cases r [] a h)))
  older start (below _ m) a h = absurd (false≢true (recent_in m))
  older {p = p} (find {l = l} s new j _) (top) a h = inr (⊎_elim inl (λ k. inr (λ o. both_ways (has l p) new (over_in f r (λ x. has l x ≡ true) (search_climbs s) o k))) (has_cases p l a h))
  older (find {u = u} {l = l} s new j _) (below shut m) a h = ⊎_elim (λ e. inl (λ y k. shut y (rw e at k))) (λ k. older s m a k) (has_cases u l a h)

  abbrev latest : List ℕ → ℕ
  latest [] = r
  latest (x ∷ l) = x

  module _ (same : (a b : ℕ) → J a b ≡ true → J b a ≡ true) where
    record Deep (l : List ℕ) : Type 0 where
      -- a table with a neighbour to discover is the most recent one or above it
      unfinished : (a y : ℕ) → has l a ≡ true → J a y ≡ true → has l y ≡ false → Over f r a (latest l)
      crossless : (a b : ℕ) → has l a ≡ true → has l b ≡ true → J a b ≡ true → (a ≡ b) ⊎ (Over f r a b ⊎ Over f r b a)

    not_root : {l : List ℕ} {u : ℕ} → Search J f r l → has l u ≡ false → u ≡ r → ⊥
    not_root {l} {u} s new e = both_ways (has l r) (subst (λ x. has l x ≡ false) e new) (search_root s)

    module _ (l : List ℕ) (u : ℕ) (d : Deep l) (s : Search J f r l) (new : has l u ≡ false) (j : J (f u) u ≡ true) (m : Recent J l (f u) l) where
      -- the older tables that have a neighbour to discover are above u
      over_found : (a y : ℕ) → has l a ≡ true → J a y ≡ true → has l y ≡ false → Over f r a u
      over_found a y ha ja hy = up (not_root s new) (
          ⊎_elim (λ shut. absurd (both_ways (has l y) hy (shut y ja)))
          (⊎_elim (λ e. rw e self) (λ no-under. ⊎_elim (λ o. o) (λ o. absurd (no-under o)) (over_both f r (d.unfinished a y ha ja hy) (d.unfinished (f u) u (recent_in m) j new))))
          (older s m a ha))

      deeper : Deep (u ∷ l)
      deeper = record {
        unfinished = λ a y ha ja hy. ⊎_elim (λ e. rw e self) (λ k. over_found a y k ja (has_not u l y hy).1) (has_cases u l a ha);
        crossless = λ a b ha hb k.
            ⊎_elim (λ (ea : a ≡ u). ⊎_elim (λ (eb : b ≡ u). inl (ea ∙ sym eb))
            (λ kb. inr (inr (rw ea (over_found b u kb (subst (λ x. J b x ≡ true) ea (same a b k)) new)))) (has_cases u l b hb))
            (λ ka. ⊎_elim (λ (eb : b ≡ u). inr (inl (rw eb (over_found a u ka (subst (λ x. J a x ≡ true) eb k) new))))
            (λ kb. d.crossless a b ka kb k) (has_cases u l b hb))
            (has_cases u l a ha);
      }

    deep : {l : List ℕ} → Search J f r l → Deep l
    deep start = record {
      unfinished = λ a y ha ja hy. ⊎_elim (λ e. rw e self) (λ k. absurd (false≢true k)) (has_cases r [] a ha);
      crossless = λ a b ha hb j. inl (⊎_elim (λ e. ⊎_elim (λ e'. e ∙ sym e') (λ k. absurd (false≢true k)) (has_cases r [] b hb)) (λ k. absurd (false≢true k)) (has_cases r [] a ha));
    }
    deep (find {u = u} {l = l} s new j m) = deeper l u (deep s) s new j m

    pub search_no_cross : {l : List ℕ} → Search J f r l → (a b : ℕ) → has l a ≡ true → has l b ≡ true → J a b ≡ true → Over f r a b ⊎ Over f r b a
    search_no_cross s a b ha hb j = ⊎_elim (λ e. inl (rw e self)) (λ o. o) ((deep s).crossless a b ha hb j)

  pub discovery_below : (l : List ℕ) (a : ℕ) → has l a ≡ true → discovery l a < length l
  discovery_below [] a h = absurd (false≢true h)
  discovery_below (x ∷ l) a h = let ih : has l a ≡ true → discovery l a < length l = discovery_below l a in grind (arith, nat_tests)

  pub search_rises : {l : List ℕ} → Search J f r l → (v : ℕ) → has l v ≡ true → (v ≡ r → ⊥) → discovery l (f v) < discovery l v
  search_rises start v h n = absurd (n (⊎_elim (λ e. e) (λ k. absurd (false≢true k)) (has_cases r [] v h)))
  search_rises (find {u = u} {l = l} s new j m) v h n =
      let hf : has l (f u) ≡ true = recent_in m in
      let tf : discovery l (f u) < length l = discovery_below l (f u) hf in
      ⊎_elim (λ (e : v ≡ u). rw e (let nf : f u ≡ u → ⊥ = λ k. both_ways (has l u) new (rw k at hf) in grind (arith, nat_tests)))
      (λ k. let ih : discovery l (f v) < discovery l v = search_rises s v k n in
      let hv : has l (f v) ≡ true = search_climbs s v k n in
      let n1 : f v ≡ u → ⊥ = λ e. both_ways (has l u) new (subst (λ x. has l x ≡ true) e hv) in
      let n2 : v ≡ u → ⊥ = λ e. both_ways (has l u) new (subst (λ x. has l x ≡ true) e k) in grind (arith, nat_tests)) (has_cases u l v h)

  pub search_tree : {l : List ℕ} → Search J f r l → (v : ℕ) → has l v ≡ true → (v ≡ r → ⊥) → J (f v) v ≡ true
  search_tree start v h n = absurd (n (⊎_elim (λ e. e) (λ k. absurd (false≢true k)) (has_cases r [] v h)))
  search_tree (find {u = u} {l = l} s new j m) v h n = ⊎_elim (λ e. rw e j) (λ k. search_tree s v k n) (has_cases u l v h)

  pub search_rooted : {l : List ℕ} → Search J f r l → (v : ℕ) → has l v ≡ true → Over f r r v
  search_rooted start v h = ⊎_elim (λ e. rw e self) (λ k. absurd (false≢true k)) (has_cases r [] v h)
  search_rooted (find {u = u} {l = l} s new j m) v h =
      ⊎_elim (λ e. rw e (up {b = u} (λ k. both_ways (has l u) new (rw k (search_root s))) (search_rooted s (f u) (recent_in m)))) (λ k. search_rooted s v k) (has_cases u l v h)

  pub search_walk : {l : List ℕ} → Search J f r l → (a : ℕ) → has l a ≡ true → Walk (λ c d. J c d ≡ true) r a
  search_walk start a h = ⊎_elim (λ e. stays (sym e)) (λ k. absurd (false≢true k)) (has_cases r [] a h)
  search_walk (find {u = u} {l = l} s new j m) a h =
      let again = search_walk s in
      ⊎_elim (λ (e : a ≡ u). rw e (join_walks (again (f u) (recent_in m)) (one j))) (λ k. again a k) (has_cases u l a h)
