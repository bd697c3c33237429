-- Articulation tables by low points: what is known after the tables left first, in the order of leaving, were gone through.
--
--   Through f M x d     d is x, or is below x by way of tables of M
--   Cut                 a child c of x makes x an articulation table
--   Folded              what the low points say once the tables of M were gone through: T x y, that y is joined with x or below x
--   fold_start          none gone through
--   fold_more           one more
--   folded_exactly      all but the start: the articulation tables
use Rattle.std.proofs.Common.{◌≡◌, ℕ, ◌<◌, ◌≤◌, Bool, true, false, cond, not, ◌&&◌, ◌||◌, eqb, ◌⊎◌, ◌↔◌, List, [], ◌∷◌, sym, refl, ap, ◌∙◌, subst, inl, inr, ⊎_elim, arith}
use Rattle.std.proofs.lemmas.Bool.{cases_eq, cases_Bool, cases_lt, false≢true, both_ways, eq-eqb, ne_eqb, eqb-true, cond-true, cond-false}
use Rattle.std.proofs.lemmas.Bool.Decides.{nat_tests}
use Rattle.disassembly.specs.Walks.{SimpleOn, Articulation}
use Rattle.disassembly.specs.Search.{has, Visit, discovery}
use Rattle.disassembly.specs.Tree.{Over, self, up}
use Rattle.disassembly.specs.LowPoints.{Confined, LowCut}
use Rattle.disassembly.proofs.Members.{has_cases, has_more, has_head, has_not, absent, Distinct}
use Rattle.disassembly.proofs.Depth.{search_climbs, search_rises}
use Rattle.disassembly.proofs.Visits.{visit_search, visit_left, Orderly, kept}
use Rattle.disassembly.proofs.LowPoints.{low_cut_exactly}
use Rattle.sets.specs.Set.{bit}
use Rattle.sets.proofs.Bit.{zero_bit}
use Rattle.traversal.specs.Sets.{apart}
use Rattle.traversal.specs.Standing.{before}
use Rattle.traversal.proofs.Sets.{apart_none, none_apart}
use Rattle.traversal.proofs.Before.{before_less, less_before}

pub data Through (f : ℕ → ℕ) (M : List ℕ) (x : ℕ) : ℕ → Type 0 where
  there : Through f M x x
  under : {d : ℕ} → has M d ≡ true → Through f M x (f d) → Through f M x d

abbrev pub Cut : (ℕ → ℕ → Bool) → (ℕ → ℕ) → List ℕ → ℕ → ℕ → ℕ → Type 0
Cut J f D r x c = ((x ≡ r → ⊥) × Confined J f D r x c) ⊎ ((x ≡ r) × (discovery D c ≡ 1 → ⊥))

pub record Folded (J : ℕ → ℕ → Bool) (f : ℕ → ℕ) (D : List ℕ) (r : ℕ) (M : List ℕ) (T : ℕ → ℕ → Bool) (cuts : ℕ) : Type 0 where
  pub touches : (x y : ℕ) → T x y ≡ true → (d : ℕ) × Through f M x d × (J d y ≡ true)
  pub touched_by : (x y d : ℕ) → Through f M x d → J d y ≡ true → T x y ≡ true
  pub cuts_from : (x : ℕ) → bit cuts x ≡ true → (c : ℕ) × (has M c ≡ true) × (f c ≡ x) × Cut J f D r x c
  pub cuts_of : (c : ℕ) → has M c ≡ true → Cut J f D r (f c) c → bit cuts (f c) ≡ true

-- ---- by way of tables

through_none : (f : ℕ → ℕ) {x d : ℕ} → Through f [] x d → x ≡ d
through_none f there = refl
through_none f (under h t) = absurd (false≢true h)

module _ (f : ℕ → ℕ) (M : List ℕ) where
  through_more : (v : ℕ) {x d : ℕ} → Through f M x d → Through f (v ∷ M) x d
  through_more v there = there
  through_more v (under {d = d} h t) = under (has_more v M d h) (through_more v t)

  -- a table outside M is below itself alone
  through_out : {x d : ℕ} → Through f M x d → has M d ≡ false → x ≡ d
  through_out there out = refl
  through_out (under {d = d} h t) out = absurd (both_ways (has M d) out h)

  -- and so one table higher
  through_up : (v : ℕ) {d : ℕ} → has M v ≡ true → Through f M v d → Through f M (f v) d
  through_up v h there = under h there
  through_up v h (under k t) = under k (through_up v h t)

module _ (f : ℕ → ℕ) (M : List ℕ) (v : ℕ) (new : has M v ≡ false) (out : has (v ∷ M) (f v) ≡ false) where
  -- by way of v: then to its parent alone
  through_split : {x d : ℕ} → Through f (v ∷ M) x d → Through f M x d ⊎ ((x ≡ f v) × Through f M v d)
  through_split there = inl there
  through_split {x} (under {d = d} h t) =
      let n = has_not v M (f v) out in
      ⊎_elim
      (λ (q : Through f M x (f d)). ⊎_elim
      (λ (e : d ≡ v). inr (through_out f M (subst (λ y. Through f M x (f y)) e q) n.1, subst (λ y. Through f M v y) (sym e) there))
      (λ k. inl (under k q))
      (has_cases v M d h))
      (λ q. ⊎_elim
      (λ (e : d ≡ v). absurd (n.0 (sym (through_out f M (subst (λ y. Through f M v (f y)) e q.1) n.1))))
      (λ k. inr (q.0, under k q.1))
      (has_cases v M d h))
      (through_split t)

-- ---- none gone through

pub fold_start : (J : ℕ → ℕ → Bool) (f : ℕ → ℕ) (D : List ℕ) (r : ℕ) (T : ℕ → ℕ → Bool) (cuts : ℕ) → ((x y : ℕ) → T x y ≡ J x y) → cuts ≡ 0 → Folded J f D r [] T cuts
fold_start J f D r T cuts same none = record {
  touches = λ x y h. (x, there, sym (same x y) ∙ h);
  touched_by = λ x y d t j. same x y ∙ subst (λ z. J z y ≡ true) (sym (through_none f t)) j;
  cuts_from = λ x h. absurd (both_ways (bit cuts x) (ap (λ m. bit m x) none ∙ zero_bit x) h);
  cuts_of = λ c h. absurd (false≢true h);
}

-- ---- one more

either : (a b c : Bool) → a ≡ (b || c) → a ≡ true → (b ≡ true) ⊎ (c ≡ true)
either a true c e h = inl refl
either a false c e h = inr (sym e ∙ h)

both_true : (a b : Bool) → (a && b) ≡ true → (a ≡ true) × (b ≡ true)
both_true a b h = grind (arith, nat_tests)

-- T is what is touched, T' the same after v handed on what it touches to its parent
module _ (J : ℕ → ℕ → Bool) (f : ℕ → ℕ) (D : List ℕ) (r : ℕ) (M : List ℕ) (T T' : ℕ → ℕ → Bool) (cuts cuts' v : ℕ) (q : Folded J f D r M T cuts)
    (new : has M v ≡ false) (out : has (v ∷ M) (f v) ≡ false) (cut : Bool)
    (handed : (x y : ℕ) → T' x y ≡ ((eqb x (f v) && T v y) || T x y)) (cut_bits : (x : ℕ) → bit cuts' x ≡ ((eqb x (f v) && cut) || bit cuts x))
    (is_cut : cut ≡ true → Cut J f D r (f v) v) (cut_is : Cut J f D r (f v) v → cut ≡ true) where
  on_parent : (a b c d : Bool) → a ≡ ((b && c) || d) → b ≡ true → c ≡ true → a ≡ true
  on_parent a b c d e h k = grind (arith, nat_tests)

  kept_on : (a b c d : Bool) → a ≡ ((b && c) || d) → d ≡ true → a ≡ true
  kept_on a b c d e h = grind (arith, nat_tests)

  touches' : (x y : ℕ) → T' x y ≡ true → (d : ℕ) × Through f (v ∷ M) x d × (J d y ≡ true)
  touches' x y h = ⊎_elim
      (λ (b : (eqb x (f v) && T v y) ≡ true).
      let parts = both_true (eqb x (f v)) (T v y) b in
      let e : x ≡ f v = eqb-true x (f v) parts.0 in
      let t = q.touches v y parts.1 in
      (t.0, subst (λ z. Through f (v ∷ M) z t.0) (sym e) (through_up f (v ∷ M) v (has_head v M) (through_more f M v t.1)), t.2))
      (λ b. let t = q.touches x y b in (t.0, through_more f M v t.1, t.2))
      (either (T' x y) (eqb x (f v) && T v y) (T x y) (handed x y) h)

  touched_by' : (x y d : ℕ) → Through f (v ∷ M) x d → J d y ≡ true → T' x y ≡ true
  touched_by' x y d t j = ⊎_elim
      (λ (k : Through f M x d). kept_on (T' x y) (eqb x (f v)) (T v y) (T x y) (handed x y) (q.touched_by x y d k j))
      (λ k. on_parent (T' x y) (eqb x (f v)) (T v y) (T x y) (handed x y) (eq-eqb x (f v) k.0) (q.touched_by v y d k.1 j))
      (through_split f M v new out t)

  cuts_from' : (x : ℕ) → bit cuts' x ≡ true → (c : ℕ) × (has (v ∷ M) c ≡ true) × (f c ≡ x) × Cut J f D r x c
  cuts_from' x h = ⊎_elim
      (λ (b : (eqb x (f v) && cut) ≡ true).
      let parts = both_true (eqb x (f v)) cut b in
      let e : x ≡ f v = eqb-true x (f v) parts.0 in
      (v, has_head v M, sym e, subst (λ z. Cut J f D r z v) (sym e) (is_cut parts.1)))
      (λ b. let t = q.cuts_from x b in (t.0, has_more v M t.0 t.1, t.2, t.3))
      (either (bit cuts' x) (eqb x (f v) && cut) (bit cuts x) (cut_bits x) h)

  cuts_of' : (c : ℕ) → has (v ∷ M) c ≡ true → Cut J f D r (f c) c → bit cuts' (f c) ≡ true
  cuts_of' c h k = ⊎_elim
      (λ (e : c ≡ v).
      let k' : Cut J f D r (f v) v = subst (λ z. Cut J f D r (f z) z) e k in
      on_parent (bit cuts' (f c)) (eqb (f c) (f v)) cut (bit cuts (f c)) (cut_bits (f c)) (eq-eqb (f c) (f v) (ap f e)) (cut_is k'))
      (λ m. kept_on (bit cuts' (f c)) (eqb (f c) (f v)) cut (bit cuts (f c)) (cut_bits (f c)) (q.cuts_of c m k))
      (has_cases v M c h)

  fold_on : Folded J f D r (v ∷ M) T' cuts'
  fold_on = record { touches = touches'; touched_by = touched_by'; cuts_from = cuts_from'; cuts_of = cuts_of' }

-- ---- the order of a search

module _ (U : ℕ → Bool) (J : ℕ → ℕ → Bool) (f : ℕ → ℕ) (r : ℕ) (D L : List ℕ) (s : SimpleOn U J) (ur : U r ≡ true)
    (visit : Visit U J f r [] D L) (all : (x : ℕ) → U x ≡ true → has D x ≡ true) where
  abbrev pub Ord : List ℕ → Type 0
  Ord M = Orderly U J f r s D M × Distinct M

  pub ord_tail : (x : ℕ) (M : List ℕ) → Ord (x ∷ M) → Ord M
  ord_tail x M o = (o.0.1, o.1.1)

  pub ord_all : Ord L
  ord_all = let k = kept U J f r s visit in (k.orderly, k.once_left)

  -- a child of a table that was left was left before
  closed : (M : List ℕ) → Orderly U J f r s D M → (w : ℕ) → has D w ≡ true → (w ≡ r → ⊥) → has M (f w) ≡ true → has M w ≡ true
  closed [] o w hw wr h = h
  closed (u ∷ M) o w hw wr h = ⊎_elim
      (λ (e : f w ≡ u). has_more u M w (o.0 w hw wr e))
      (λ k. has_more u M w (closed M o.1 w hw wr k))
      (has_cases u M (f w) h)

  module _ (M : List ℕ) (v : ℕ) (o : Ord (v ∷ M)) (seen : has D v ≡ true) (vr : v ≡ r → ⊥) (no_root : has M r ≡ false) where
    new : has M v ≡ false
    new = o.1.0

    out : has (v ∷ M) (f v) ≡ false
    out = absent (v ∷ M) (f v) (λ h. ⊎_elim
        (λ (e : f v ≡ v).
        let rises : discovery D (f v) < discovery D v = search_rises J f r (visit_search U J f r s visit) v seen vr in
        let same = ap (discovery D) e in omega arith)
        (λ k. both_ways (has M v) new (closed M o.0.1 v seen vr k))
        (has_cases v M (f v) h))

    -- all that is below v has been gone through
    below_gone : {d : ℕ} → Over f r v d → has D d ≡ true → (d ≡ v) ⊎ (has M d ≡ true)
    below_gone self h = inl refl
    below_gone (up {b = d} n p) h = inr (⊎_elim
        (λ (e : f d ≡ v). o.0.0 d h n e)
        (λ k. closed M o.0.1 d h n k)
        (below_gone p (search_climbs J f r (visit_search U J f r s visit) d h n)))

    over_through : {d : ℕ} → Over f r v d → has D d ≡ true → Through f M v d
    over_through self h = there
    over_through (up {b = d} n p) h = ⊎_elim
        (λ (e : d ≡ v). subst (λ z. Through f M v z) (sym e) there)
        (λ k. under k (over_through p (search_climbs J f r (visit_search U J f r s visit) d h n)))
        (below_gone (up n p) h)

    through_over : {d : ℕ} → Through f M v d → Over f r v d
    through_over there = self
    through_over (under {d = d} h t) = up (λ (e : d ≡ r). both_ways (has M r) no_root (subst (λ z. has M z ≡ true) e h)) (through_over t)

    module _ (T : ℕ → ℕ → Bool) (cuts : ℕ) (q : Folded J f D r M T cuts) (earlier : ℕ) (rank : ℕ) (ranked : rank ≡ discovery D v)
        (sooner : (y : ℕ) → bit earlier y ≡ has (before D (f v)) y) where
      abbrev test : Bool
      test = cond (eqb (f v) r) (not (eqb rank 1)) (apart (T v) (bit earlier))

      parent_seen : has D (f v) ≡ true
      parent_seen = search_climbs J f r (visit_search U J f r s visit) v seen vr

      other_table : (d e : ℕ) → J d e ≡ true → U e ≡ true
      other_table d e j = s.within e d (s.symmetric e d ∙ j)

      none_touched : apart (T v) (bit earlier) ≡ true → Confined J f D r (f v) v
      none_touched nought d e over j =
          let on : T v e ≡ true = q.touched_by v e d (over_through over (all d (s.within d e j))) j in
          let off : (T v e && bit earlier e) ≡ false = apart_none (T v) (bit earlier) e nought (s.few e (other_table d e j)) in
          ⊎_elim
          (λ (less : discovery D e < discovery D (f v)).
          let b : bit earlier e ≡ true = sooner e ∙ less_before D (f v) e parent_seen (all e (other_table d e j)) less in
          absurd (false≢true (sym off ∙ ap (λ c. c && bit earlier e) on ∙ b)))
          (λ k. k)
          (cases_lt (discovery D e) (discovery D (f v)))

      touched_none : Confined J f D r (f v) v → apart (T v) (bit earlier) ≡ true
      touched_none low = none_apart (T v) (bit earlier) (λ k. ⊎_elim
          (λ (a : T v k ≡ true). ⊎_elim
          (λ (b : bit earlier k ≡ true).
          let t = q.touches v k a in
          let more : discovery D (f v) ≤ discovery D k = low t.0 k (through_over t.1) t.2 in
          let less : discovery D k < discovery D (f v) = before_less D (f v) k (kept U J f r s visit).once_seen parent_seen (sym (sooner k) ∙ b) in
          absurd (omega arith))
          (λ (b : bit earlier k ≡ false). ap (λ c. T v k && c) b ∙ (grind (arith, nat_tests)))
          (cases_Bool (bit earlier k)))
          (λ (a : T v k ≡ false). ap (λ c. c && bit earlier k) a)
          (cases_Bool (T v k)))

      first_test : f v ≡ r → test ≡ not (eqb rank 1)
      first_test e = cond-true (eqb (f v) r) (not (eqb rank 1)) (apart (T v) (bit earlier)) (eq-eqb (f v) r e)

      later_test : (f v ≡ r → ⊥) → test ≡ apart (T v) (bit earlier)
      later_test ne = cond-false (eqb (f v) r) (not (eqb rank 1)) (apart (T v) (bit earlier)) (ne_eqb (f v) r ne)

      not_one : (n : ℕ) → not (eqb n 1) ≡ true → n ≡ 1 → ⊥
      not_one n h e = both_ways (eqb n 1) (grind (arith, nat_tests)) (eq-eqb n 1 e)

      one_not : (n : ℕ) → (n ≡ 1 → ⊥) → not (eqb n 1) ≡ true
      one_not n h = ap not (ne_eqb n 1 h)

      test_cut : test ≡ true → Cut J f D r (f v) v
      test_cut h = ⊎_elim
          (λ (e : f v ≡ r). inr (e, λ k. not_one rank (sym (first_test e) ∙ h) (ranked ∙ k)))
          (λ (ne : f v ≡ r → ⊥). inl (ne, none_touched (sym (later_test ne) ∙ h)))
          (cases_eq (f v) r)

      cut_test : Cut J f D r (f v) v → test ≡ true
      cut_test c = ⊎_elim
          (λ k. later_test k.0 ∙ touched_none k.1)
          (λ k. first_test k.0 ∙ one_not rank (λ e. k.1 (sym ranked ∙ e)))
          c

      pub fold_more : (T' : ℕ → ℕ → Bool) (cuts' : ℕ) → ((x y : ℕ) → T' x y ≡ ((eqb x (f v) && T v y) || T x y))
          → ((x : ℕ) → bit cuts' x ≡ ((eqb x (f v) && test) || bit cuts x)) → Folded J f D r (v ∷ M) T' cuts'
      fold_more T' cuts' handed cut_bits = fold_on J f D r M T T' cuts cuts' v q new out test handed cut_bits test_cut cut_test

  -- ---- all gone through

  module _ (M : List ℕ) (T : ℕ → ℕ → Bool) (cuts : ℕ) (q : Folded J f D r M T cuts) (rest : L ≡ r ∷ M) where
    gone : (c : ℕ) → has M c ≡ true → (has D c ≡ true) × (c ≡ r → ⊥)
    gone c h =
        let k = kept U J f r s visit in
        let once : Distinct (r ∷ M) = subst Distinct rest k.once_left in
        (k.gone c (subst (λ l. has l c ≡ true) (sym rest) (has_more r M c h)), λ (e : c ≡ r). both_ways (has M r) once.0 (subst (λ z. has M z ≡ true) e h))

    come : (c : ℕ) → has D c ≡ true → (c ≡ r → ⊥) → has M c ≡ true
    come c h ne = ⊎_elim (λ e. absurd (ne e)) (λ k. k) (has_cases r M c (subst (λ l. has l c ≡ true) rest (visit_left U J f r s visit c h)))

    cuts_low : (x : ℕ) → bit cuts x ≡ true → LowCut J f D r x
    cuts_low x h =
        let t = q.cuts_from x h in
        let g = gone t.0 t.1 in
        ⊎_elim
        (λ k. inl (k.0, (t.0, (g.0, g.1, t.2), k.1)))
        (λ k. inr (k.0, (t.0, (g.0, g.1, t.2 ∙ k.0), k.1)))
        t.3

    low_cuts : (x : ℕ) → LowCut J f D r x → bit cuts x ≡ true
    low_cuts x low = ⊎_elim
        (λ k. let c = k.1.0 in let e : f c ≡ x = k.1.1.2 in
        subst (λ z. bit cuts z ≡ true) e (q.cuts_of c (come c k.1.1.0 k.1.1.1) (inl (λ z. k.0 (sym e ∙ z), subst (λ z. Confined J f D r z c) (sym e) k.1.2))))
        (λ k. let c = k.1.0 in let e : f c ≡ r = k.1.1.2 in
        subst (λ z. bit cuts z ≡ true) (e ∙ sym k.0) (q.cuts_of c (come c k.1.1.0 k.1.1.1) (inr (e, k.1.2))))
        low

    pub folded_exactly : (x : ℕ) → (bit cuts x ≡ true) ↔ Articulation U J x
    folded_exactly x =
        let both = low_cut_exactly U J f r D L s ur visit all x in
        (λ h. both.1 (cuts_low x h), λ a. low_cuts x (both.0 a))
