-- A leaf of the search tree taken away: u goes, and its parent is joined with its neighbour a of lowest rank. What is left
-- hangs on the rest of the tree.
--
--   parent_not_root     the parent of u is not the root, where a third table is there
--   neighbour_over      each neighbour of u is the parent of u or an ancestor of it
--   lowest_over         a is above the parent of u
--   lowest_not_parent   so it is not that parent
--   leaf_hangs          what is left hangs on the tree
use Rattle.std.proofs.Common.{◌≡◌, ℕ, ◌<◌, ◌≤◌, ◌⊎◌, sym, refl, ap, ◌∙◌, subst, inl, inr, ⊎_elim, arith}
use Rattle.std.proofs.lemmas.Bool.{cases_eq}
use Rattle.disassembly.specs.Tree.{Less, Over, self, up, Hangs}
use Rattle.disassembly.proofs.Trees.{over_trans, over_father, over_rank, over_lower, over_leaf}

module _ (P : ℕ → Type 0) (J : ℕ → ℕ → Type 0) (f : ℕ → ℕ) (r : ℕ) (rank : ℕ → ℕ) (h : Hangs P J f r rank)
    (u : ℕ) (pu : P u) (ur : u ≡ r → ⊥) (leaf : (w : ℕ) → P w → (w ≡ r → ⊥) → f w ≡ u → ⊥) where
  -- each table but the root is below a child of the root
  top_child : {w : ℕ} → Over f r r w → P w → (w ≡ r → ⊥) → (s : ℕ) × P s × (s ≡ r → ⊥) × (f s ≡ r) × Over f r s w
  top_child self pw n = absurd (n refl)
  top_child {w} (up n p) pw _ =
      ⊎_elim
      (λ e. (w, pw, n, e, self))
      (λ m. let t = top_child p (h.climbs w pw n) m in (t.0, t.1, t.2, t.3, up n t.4))
      (cases_eq (f w) r)

  pub parent_not_root : (z : ℕ) → P z → (z ≡ u → ⊥) → (z ≡ r → ⊥) → f u ≡ r → ⊥
  parent_not_root z pz zu zr e =
      let t = top_child (h.rooted z pz) pz zr in
      let su : t.0 ≡ u = h.one_son t.0 u t.1 pu t.2 ur t.3 e in
      let uz : Over f r u z = rw su at t.4 in
      zu (over_leaf f r P rank h.climbs h.rises uz pz leaf)

  module _ (fr : f u ≡ r → ⊥) (a : ℕ) (ja : J u a) (least : (b : ℕ) → J u b → rank a ≤ rank b) where
    pf : P (f u)
    pf = h.climbs u pu ur

    pub neighbour_over : (b : ℕ) → J u b → Over f r b (f u)
    neighbour_over b j =
        let pb : P b = h.within b u (h.same u b j) in
        let bu : b ≡ u → ⊥ = λ e. h.apart u b j (sym e) in
        over_father f r (⊎_elim (λ o. absurd (bu (over_leaf f r P rank h.climbs h.rises o pb leaf))) (λ o. o) (h.no_cross u b j)) bu

    pub lowest_over : Over f r a (f (f u))
    lowest_over =
        let l = h.low u pu ur fr in
        let d = l.0 in
        let e = l.1 in
        let du : d ≡ u = over_leaf f r P rank h.climbs h.rises l.3 (h.within d e l.2) leaf in
        let ju : J u e = subst (λ x. J x e) du l.2 in
        over_trans f r (over_lower f r P rank h.climbs h.rises (neighbour_over a ja) (neighbour_over e ju) pf (least e ju)) l.4

    pub lowest_not_parent : f u ≡ a → ⊥
    lowest_not_parent e =
        let pff : P (f (f u)) = h.climbs (f u) pf fr in
        let k : rank (f (f u)) < rank (f u) = h.rises (f u) pf fr in
        let y : rank (f u) ≡ rank a = ap rank e in
        ⊎_elim
        (λ (q : a ≡ f (f u)). let z : rank a ≡ rank (f (f u)) = ap rank q in omega arith)
        (λ (q : rank a < rank (f (f u))). omega arith)
        (over_rank f r P rank h.climbs h.rises lowest_over pff)

    -- J' are the joins that are left: those without u, and the join of the parent of u and a
    module _ (J' : ℕ → ℕ → Type 0)
        (to : (x y : ℕ) → J' x y → (J x y × (x ≡ u → ⊥) × (y ≡ u → ⊥)) ⊎ (((x ≡ f u) × (y ≡ a)) ⊎ ((x ≡ a) × (y ≡ f u))))
        (keeps : (x y : ℕ) → J x y → (x ≡ u → ⊥) → (y ≡ u → ⊥) → J' x y)
        (fa : J' (f u) a) (af : J' a (f u)) where
      fu : f u ≡ u → ⊥
      fu e = leaf u pu ur e

      au : a ≡ u → ⊥
      au e = h.apart u a ja (sym e)

      pub leaf_hangs : Hangs (Less P u) J' f r rank
      leaf_hangs = record {
        same = λ x y j. ⊎_elim (λ k. keeps y x (h.same x y k.0) k.2 k.1)
            (⊎_elim (λ e. subst (λ z. J' z x) (sym e.1) (subst (λ z. J' a z) (sym e.0) af))
            (λ e. subst (λ z. J' z x) (sym e.1) (subst (λ z. J' (f u) z) (sym e.0) fa))) (to x y j);
        apart = λ x y j e. ⊎_elim (λ k. h.apart x y k.0 e)
            (⊎_elim (λ k. lowest_not_parent (sym k.0 ∙ e ∙ k.1)) (λ k. lowest_not_parent (sym k.1 ∙ sym e ∙ k.0))) (to x y j);
        within = λ x y j. ⊎_elim (λ k. (h.within x y k.0, k.1))
            (⊎_elim (λ e. (subst P (sym e.0) pf, λ k. fu (sym e.0 ∙ k))) (λ e. (subst P (sym e.0) (h.within a u (h.same u a ja)), λ k. au (sym e.0 ∙ k)))) (to x y j);
        root = (h.root, λ e. ur (sym e));
        rooted = λ v p. h.rooted v p.0;
        climbs = λ v p n. (h.climbs v p.0 n, λ e. leaf v p.0 n e);
        rises = λ v p n. h.rises v p.0 n;
        tree = λ v p n. keeps (f v) v (h.tree v p.0 n) (λ e. leaf v p.0 n e) p.1;
        no_cross = λ x y j. ⊎_elim (λ k. h.no_cross x y k.0)
            (⊎_elim (λ e. inr (rw (e.0, e.1) (neighbour_over a ja))) (λ e. inl (rw (e.0, e.1) (neighbour_over a ja)))) (to x y j);
        low = lows;
        one_son = λ v w p q. h.one_son v w p.0 q.0;
      }
        where
          lows : (v : ℕ) → Less P u v → (v ≡ r → ⊥) → (f v ≡ r → ⊥) → (d e : ℕ) × J' d e × Over f r v d × Over f r e (f (f v))
          lows v p n m =
              let l = h.low v p.0 n m in
              let d = l.0 in
              let e = l.1 in
              let pfv : P (f v) = h.climbs v p.0 n in
              let pffv : P (f (f v)) = h.climbs (f v) pfv m in
              let eu : e ≡ u → ⊥ = λ k. leaf (f v) pfv m (over_leaf f r P rank h.climbs h.rises (rw k at l.4) pffv leaf) in
              ⊎_elim
              (λ (k : d ≡ u).
              let ju : J u e = subst (λ x. J x e) k l.2 in
              let vf : Over f r v (f u) = over_father f r (subst (λ x. Over f r v x) k l.3) p.1 in
              let ae : Over f r a e = over_lower f r P rank h.climbs h.rises (neighbour_over a ja) (neighbour_over e ju) pf (least e ju) in
              (f u, a, fa, vf, over_trans f r ae l.4))
              (λ k. (d, e, keeps d e l.2 k eu, l.3, l.4))
              (cases_eq d u)
