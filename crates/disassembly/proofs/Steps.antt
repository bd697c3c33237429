-- The steps of a build keep a part connected and without articulation tables.
--
--   Same, pair_true, pair_false, pair_is   the same pair of tables
--   with_join_true, with_join_keeps, with_join_at, without_join_keeps, without_join_true
--                                          one join more, or one fewer
--   Sturdy                                 what holds of every part on the way
--   with_table_keeps, with_table_new       one table more in use
--   put_on                                 a table put into a join leaves the tables connected without any one of them
--   sturdy_step, sturdy_build              a step keeps it, and so does a build
use Rattle.std.proofs.Common.{◌≡◌, ℕ, Bool, true, false, ◌⊎◌, List, sym, refl, ◌∙◌, subst, inl, inr, ⊎_elim, arith}
use Rattle.std.specs.Cmp.{both_ways as same_test}
use Rattle.std.proofs.lemmas.Bool.{cases_eq, both_ways}
use Rattle.std.proofs.lemmas.Bool.Decides.{nat_tests}
use Rattle.theory.specs.Graph.{same_pair}
use Rattle.theory.specs.Build.{Part, with_join, without_join, with_table, Allowed, after, Builds, done, next}
use Rattle.theory.specs.declared.step.Step.{Step}
use Rattle.theory.specs.declared.step.Step.TheVariants.{Edge, Node}
use Rattle.disassembly.specs.Walks.{Walk, here, on}
use Rattle.disassembly.specs.Tree.{Less}
use Rattle.disassembly.proofs.Walks.{join_walks, bind, turned, one, LeadsIn, Biconnected}

-- ---- pairs and joins

abbrev pub Same : ℕ → ℕ → ℕ → ℕ → Type 0
Same v w a b = ((a ≡ v) × (b ≡ w)) ⊎ ((a ≡ w) × (b ≡ v))

pub pair_true : (v w a b : ℕ) → same_pair v w a b ≡ true → Same v w a b
pair_true v w a b h = grind (arith, nat_tests)

pub pair_false : (v w a b : ℕ) → same_pair v w a b ≡ false → Same v w a b → ⊥
pair_false v w a b h s = grind (arith, nat_tests)

pub pair_is : (v w a b : ℕ) → Same v w a b → same_pair v w a b ≡ true
pair_is v w a b s = grind (arith, nat_tests)

pub with_join_true : (v w : ℕ) (J : ℕ → ℕ → Bool) (a b : ℕ) → with_join v w J a b ≡ true → Same v w a b ⊎ (J a b ≡ true)
with_join_true v w J a b h = grind (arith, nat_tests)

pub with_join_keeps : (v w : ℕ) (J : ℕ → ℕ → Bool) (a b : ℕ) → J a b ≡ true → with_join v w J a b ≡ true
with_join_keeps v w J a b h = grind (arith, nat_tests)

pub with_join_at : (v w : ℕ) (J : ℕ → ℕ → Bool) (a b : ℕ) → Same v w a b → with_join v w J a b ≡ true
with_join_at v w J a b s = grind (arith, nat_tests)

pub without_join_keeps : (v w : ℕ) (J : ℕ → ℕ → Bool) (a b : ℕ) → J a b ≡ true → (Same v w a b → ⊥) → without_join v w J a b ≡ true
without_join_keeps v w J a b h = grind (arith, nat_tests)

pub without_join_true : (v w : ℕ) (J : ℕ → ℕ → Bool) (a b : ℕ) → without_join v w J a b ≡ true → J a b ≡ true
without_join_true v w J a b h = grind (arith, nat_tests)

same_turned : (v w a b : ℕ) → Same v w a b → Same v w b a
same_turned v w a b (inl e) = inr (e.1, e.0)
same_turned v w a b (inr e) = inl (e.1, e.0)

-- ---- a table put into a join

module _ (P P' : ℕ → Type 0) (R R' : ℕ → ℕ → Type 0) (u v w z : ℕ)
    (old : (a : ℕ) → P a → P' a) (new : P' u) (back : (a : ℕ) → P' a → (a ≡ u) ⊎ P a) (unused : P u → ⊥)
    (inv : P v) (inw : P w) (inz : P z) (zv : z ≡ v → ⊥) (zw : z ≡ w → ⊥) (vw : v ≡ w → ⊥)
    (same' : (a b : ℕ) → R' a b → R' b a)
    (keeps : (a b : ℕ) → R a b → ((a ≡ v) × (b ≡ w)) ⊎ (((a ≡ w) × (b ≡ v)) ⊎ R' a b))
    (uv : R' u v) (uw : R' u w) (h : Biconnected P R) where
  W : ℕ → ℕ → ℕ → Type 0
  W x = Walk (LeadsIn (Less P' x) R')

  flip : (x c d : ℕ) → LeadsIn (Less P' x) R' c d → LeadsIn (Less P' x) R' d c
  flip x c d r = (same' c d r.0, r.2, r.1)

  -- a walk that leaves out v, or w, is a walk of the new joins
  left_out : (x y a b : ℕ) → (y ≡ v) ⊎ (y ≡ w) → ((c : ℕ) → P c → c ≡ x → ⊥) → Walk (LeadsIn (Less P y) R) a b → W x a b
  unfolding W
  left_out x y a b yvw px = bind step
    where
      step : (c d : ℕ) → LeadsIn (Less P y) R c d → Walk (LeadsIn (Less P' x) R') c d
      step c d r =
          ⊎_elim (λ e. absurd (⊎_elim (λ yv. r.1.1 (e.0 ∙ sym yv)) (λ yw. r.2.1 (e.1 ∙ sym yw)) yvw))
          (⊎_elim (λ e. absurd (⊎_elim (λ yv. r.2.1 (e.1 ∙ sym yv)) (λ yw. r.1.1 (e.0 ∙ sym yw)) yvw))
          (λ k. one (k, (old c r.1.0, px c r.1.0), (old d r.2.0, px d r.2.0))))
          (keeps c d r.0)

  -- from v to w by a third table, where x is u
  around : (x : ℕ) → x ≡ u → W x v w
  unfolding W
  around x e = join_walks (left_out x w v z (inr refl) px (h w v z (inv, vw) (inz, zw)))
      (left_out x v z w (inl refl) px (h v z w (inz, zv) (inw, λ k. vw (sym k))))
    where
      px : (c : ℕ) → P c → c ≡ x → ⊥
      px c pc k = unused (subst P (k ∙ e) pc)

  -- from v to w by u
  by_new : (x : ℕ) → (u ≡ x → ⊥) → (v ≡ x → ⊥) → (w ≡ x → ⊥) → W x v w
  unfolding W
  by_new x ux vx wx = on (same' u v uv, (old v inv, vx), (new, ux)) (on (uw, (new, ux), (old w inw, wx)) here)

  cross : (x : ℕ) → (v ≡ x → ⊥) → (w ≡ x → ⊥) → W x v w
  cross x vx wx = ⊎_elim (λ e. around x (sym e)) (λ ne. by_new x ne vx wx) (cases_eq u x)

  carry : (x a b : ℕ) → Walk (LeadsIn (Less P x) R) a b → W x a b
  unfolding W
  carry x a b = bind step
    where
      step : (c d : ℕ) → LeadsIn (Less P x) R c d → Walk (LeadsIn (Less P' x) R') c d
      step c d r =
          ⊎_elim (λ e. rw (e.0, e.1) (cross x (λ k. r.1.1 (e.0 ∙ k)) (λ k. r.2.1 (e.1 ∙ k))))
          (⊎_elim (λ e. rw (e.0, e.1) (turned (flip x) (cross x (λ k. r.2.1 (e.1 ∙ k)) (λ k. r.1.1 (e.0 ∙ k)))))
          (λ k. one (k, (old c r.1.0, r.1.1), (old d r.2.0, r.2.1))))
          (keeps c d r.0)

  -- from any table left to one of the old ones
  anchor : (x a : ℕ) → Less P' x a → (o : ℕ) × Less P x o × W x a o
  unfolding W
  anchor x a pa =
      ⊎_elim (λ e. ⊎_elim (λ vx. (w, (inw, λ k. vw (vx ∙ sym k)), one (rw e uw, pa, (old w inw, λ k. vw (vx ∙ sym k)))))
      (λ vx. (v, (inv, vx), one (rw e uv, pa, (old v inv, vx)))) (cases_eq v x))
      (λ p. (a, (p, pa.1), here)) (back a pa.0)

  pub put_on : Biconnected P' R'
  unfolding W
  put_on x a b pa pb =
      let p = anchor x a pa in
      let q = anchor x b pb in
      join_walks p.2 (join_walks (carry x p.0 q.0 (h x p.0 q.0 p.1 q.1)) (turned (flip x) q.2))

-- ---- parts

abbrev pub In : Part → ℕ → Type 0
In p a = p.in_use a ≡ true

abbrev pub Joined : Part → ℕ → ℕ → Type 0
Joined p a b = p.joins a b ≡ true

pub record Sturdy (p : Part) : Type 0 where
  pub same : (a b : ℕ) → Joined p a b → Joined p b a
  pub apart : (a b : ℕ) → Joined p a b → a ≡ b → ⊥
  pub within : (a b : ℕ) → Joined p a b → In p a
  pub biconnected : Biconnected (In p) (Joined p)
  -- there are three tables in use, or more
  pub third : (v w : ℕ) → (z : ℕ) × In p z × (z ≡ v → ⊥) × (z ≡ w → ⊥)

sturdy_edge : (v w : ℕ) (p : Part) → Allowed (Edge v w) p → Sturdy p → Sturdy (after (Edge v w) p)
sturdy_edge v w p ok s = record {
  same = λ a b h. ⊎_elim (λ e. with_join_at v w p.joins b a (same_turned v w a b e)) (λ k. with_join_keeps v w p.joins b a (s.same a b k)) (with_join_true v w p.joins a b h);
  apart = λ a b h e. ⊎_elim (⊎_elim (λ k. ok.2 (sym k.0 ∙ e ∙ k.1)) (λ k. ok.2 (sym k.1 ∙ sym e ∙ k.0))) (λ k. s.apart a b k e) (with_join_true v w p.joins a b h);
  within = λ a b h. ⊎_elim (⊎_elim (λ k. rw k.0 ok.0) (λ k. rw k.0 ok.1)) (λ k. s.within a b k) (with_join_true v w p.joins a b h);
  biconnected = λ x a b pa pb. bind (λ c d r. one (with_join_keeps v w p.joins c d r.0, r.1, r.2)) (s.biconnected x a b pa pb);
  third = s.third;
}

abbrev onto : ℕ → ℕ → ℕ → (ℕ → ℕ → Bool) → ℕ → ℕ → Bool
onto u v w J = with_join u w (with_join u v (without_join v w J))

onto_true : (u v w : ℕ) (J : ℕ → ℕ → Bool) (a b : ℕ) → onto u v w J a b ≡ true → Same u v a b ⊎ (Same u w a b ⊎ (J a b ≡ true))
onto_true u v w J a b h = grind (arith, nat_tests)

onto_same : (u v w : ℕ) (J : ℕ → ℕ → Bool) (a b : ℕ) → J a b ≡ J b a → onto u v w J a b ≡ onto u v w J b a
onto_same u v w J a b h = grind (arith, nat_tests)

onto_keeps : (u v w : ℕ) (J : ℕ → ℕ → Bool) (a b : ℕ) → J a b ≡ true → ((a ≡ v) × (b ≡ w)) ⊎ (((a ≡ w) × (b ≡ v)) ⊎ (onto u v w J a b ≡ true))
onto_keeps u v w J a b h = grind (arith, nat_tests)

with_table_cases : (u : ℕ) (U : ℕ → Bool) (a : ℕ) → with_table u U a ≡ true → (a ≡ u) ⊎ (U a ≡ true)
with_table_cases u U a h = grind (arith, nat_tests)

pub with_table_keeps : (u : ℕ) (U : ℕ → Bool) (a : ℕ) → U a ≡ true → with_table u U a ≡ true
with_table_keeps u U a h = grind (arith, nat_tests)

pub with_table_new : (u : ℕ) (U : ℕ → Bool) → with_table u U u ≡ true
with_table_new u U = grind (arith, nat_tests)

sturdy_node : (u v w : ℕ) (p : Part) → Allowed (Node u v w) p → Sturdy p → Sturdy (after (Node u v w) p)
sturdy_node u v w p ok s =
    let J = p.joins in
    let U = p.in_use in
    let ne : (a : ℕ) → U a ≡ true → a ≡ u → ⊥ = λ a h e. both_ways (U u) ok.0 (subst (λ k. U k ≡ true) e h) in
    let sm : (a b : ℕ) → onto u v w J a b ≡ true → onto u v w J b a ≡ true =
    λ a b h. sym (onto_same u v w J a b (same_test (J a b) (J b a) (s.same a b) (s.same b a))) ∙ h in
    let z = s.third v w in
    record {
      same = sm;
      apart = λ a b h e. ⊎_elim (⊎_elim (λ k. ne v ok.1 (sym k.1 ∙ sym e ∙ k.0)) (λ k. ne v ok.1 (sym k.0 ∙ e ∙ k.1)))
          (⊎_elim (⊎_elim (λ k. ne w ok.2 (sym k.1 ∙ sym e ∙ k.0)) (λ k. ne w ok.2 (sym k.0 ∙ e ∙ k.1)))
          (λ k. s.apart a b k e)) (onto_true u v w J a b h);
      within = λ a b h. ⊎_elim (⊎_elim (λ k. rw k.0 (with_table_new u U)) (λ k. rw k.0 (with_table_keeps u U v ok.1)))
          (⊎_elim (⊎_elim (λ k. rw k.0 (with_table_new u U)) (λ k. rw k.0 (with_table_keeps u U w ok.2)))
          (λ k. with_table_keeps u U a (s.within a b k))) (onto_true u v w J a b h);
      biconnected = put_on (In p) (In (after (Node u v w) p)) (Joined p) (Joined (after (Node u v w) p)) u v w z.0
          (with_table_keeps u U) (with_table_new u U) (with_table_cases u U) (λ h. ne u h refl)
          ok.1 ok.2 z.1 z.2 z.3 ok.3 sm (onto_keeps u v w J)
          (with_join_keeps u w (with_join u v (without_join v w J)) u v (with_join_at u v (without_join v w J) u v (inl (refl, refl))))
          (with_join_at u w (with_join u v (without_join v w J)) u w (inl (refl, refl))) s.biconnected;
      third = λ a b. let t = s.third a b in (t.0, with_table_keeps u U t.0 t.1, t.2, t.3);
    }

pub sturdy_step : (s : Step) (p : Part) → Allowed s p → Sturdy p → Sturdy (after s p)
sturdy_step (Edge v w) = sturdy_edge v w
sturdy_step (Node u v w) = sturdy_node u v w

pub sturdy_build : {p q : Part} {l : List Step} → Builds p l q → Sturdy p → Sturdy q
sturdy_build done s = s
sturdy_build (next {p = p} {s = n} ok more) s = sturdy_build more (sturdy_step n p ok s)
