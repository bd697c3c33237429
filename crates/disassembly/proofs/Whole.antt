-- Tables taken away one after another, each a leaf of the tree at its time: the notes in reverse build the part again, and what
-- is left hangs on the tree. Where three tables are left they are a triangle.
--
--   In, Joined                     a table in use of a part, and a join of it
--   hangs_like, hangs_simple       parts that hang on a tree
--   Ready, AllReady                u may be taken away; each of a list of tables may in its turn
--   taken_builds, taken_away, taken_hangs, taken_within   one table
--   all_builds, all_away, all_hangs, all_within           all of them
--   three_full                     three tables that hang on a tree are joined pairwise
--   full_triangle                  a part of three tables that are joined pairwise is the triangle
use Rattle.std.proofs.Common.{◌≡◌, ℕ, ◌<◌, ◌≤◌, Bool, true, not, ◌&&◌, eqb, ◌⊎◌, List, [], ◌∷◌, sym, refl, ap, ◌∙◌, subst, inl, inr, ⊎_elim, arith}
use Rattle.std.specs.Cmp.{both_ways as same_test}
use Rattle.std.proofs.lemmas.Bool.{cases_Bool}
use Rattle.std.proofs.lemmas.Bool.Decides.{nat_tests}
use Rattle.theory.specs.Build.{Part, Ascending, triangle, with_join, Builds, done}
use Rattle.theory.specs.declared.step.Triangle.{Triangle}
use Rattle.disassembly.specs.Tree.{Less, Over, Hangs}
use Rattle.disassembly.specs.Disassembly.{reversed, other, RisingList, passing, nearest_of, taken, noted, remaining, all_notes, TakesAway, TakesAll, no_more, one_more}
use Rattle.disassembly.proofs.Trees.{over_leaf, over_root}
use Rattle.disassembly.proofs.Walks.{without_true, true_without}
use Rattle.disassembly.proofs.Undo.{builds_more, part_path, reversed_append, SimplePart, apart, ends_in}
use Rattle.disassembly.proofs.Away.{taken_in_use, taken_joins, undo_away}
use Rattle.disassembly.proofs.Passing.{passing_rising}
use Rattle.disassembly.proofs.Nearest.{nearest_joined, nearest_lowest}
use Rattle.disassembly.proofs.Leaf.{parent_not_root, lowest_not_parent, leaf_hangs}

abbrev pub In : Part → ℕ → Type 0
In p a = p.in_use a ≡ true

abbrev pub Joined : Part → ℕ → ℕ → Type 0
Joined p a b = p.joins a b ≡ true

pub hangs_like : {P Q : ℕ → Type 0} {J : ℕ → ℕ → Type 0} {f : ℕ → ℕ} {r : ℕ} {rank : ℕ → ℕ} → ((x : ℕ) → P x → Q x) → ((x : ℕ) → Q x → P x) → Hangs P J f r rank → Hangs Q J f r rank
hangs_like to back h = record {
  same = h.same;
  apart = h.apart;
  within = λ a b j. to a (h.within a b j);
  root = to _ h.root;
  rooted = λ v p. h.rooted v (back v p);
  climbs = λ v p n. to _ (h.climbs v (back v p) n);
  rises = λ v p. h.rises v (back v p);
  tree = λ v p. h.tree v (back v p);
  no_cross = h.no_cross;
  low = λ v p. h.low v (back v p);
  one_son = λ v w p q. h.one_son v w (back v p) (back w q);
}

pub hangs_simple : (p : Part) {f : ℕ → ℕ} {r : ℕ} {rank : ℕ → ℕ} → Hangs (In p) (Joined p) f r rank → ((x : ℕ) → In p x → x < 64) → SimplePart p
hangs_simple p h few = record {
  few = few;
  symmetric = λ a b. same_test (p.joins a b) (p.joins b a) (h.same a b) (h.same b a);
  loopless = λ a. ⊎_elim (λ e. absurd (h.apart a a e refl)) (λ e. e) (cases_Bool (p.joins a a));
  within = h.within;
}

-- u is there and is a leaf, but not the root, and a third table stays
pub record Ready (f : ℕ → ℕ) (r : ℕ) (u : ℕ) (p : Part) : Type 0 where
  pub there : In p u
  pub not_root : u ≡ r → ⊥
  pub leaf : (w : ℕ) → In p w → (w ≡ r → ⊥) → f w ≡ u → ⊥
  pub third : (z : ℕ) × In p z × (z ≡ u → ⊥) × (z ≡ r → ⊥)

-- a join that is left when u is spliced out is one without u, or that of v and w; and the other way round
splice_cases : (u v w : ℕ) (J : ℕ → ℕ → Bool) (x y : ℕ) → with_join v w (λ x y. (not (eqb u x) && not (eqb u y)) && J x y) x y ≡ true
    → ((J x y ≡ true) × (x ≡ u → ⊥) × (y ≡ u → ⊥)) ⊎ (((x ≡ v) × (y ≡ w)) ⊎ ((x ≡ w) × (y ≡ v)))
splice_cases u v w J x y h = grind (arith, nat_tests)

splice_keeps : (u v w : ℕ) (J : ℕ → ℕ → Bool) (x y : ℕ) → J x y ≡ true → (x ≡ u → ⊥) → (y ≡ u → ⊥) → with_join v w (λ x y. (not (eqb u x) && not (eqb u y)) && J x y) x y ≡ true
splice_keeps u v w J x y h m n = grind (arith, nat_tests)

splice_pair : (v w : ℕ) (J : ℕ → ℕ → Bool) → (with_join v w J v w ≡ true) × (with_join v w J w v ≡ true)
splice_pair v w J = (grind (arith, nat_tests), grind (arith, nat_tests))

other_joined : (u f a : ℕ) (p : Part) (x : ℕ) → other u f a p x ≡ true → p.joins u x ≡ true
other_joined u f a p x h = grind (arith, nat_tests)

module _ (f : ℕ → ℕ) (r : ℕ) (rank : ℕ → ℕ) where
  -- ---- one table

  module _ (u : ℕ) (p : Part) (h : Hangs (In p) (Joined p) f r rank) (few : (x : ℕ) → In p x → x < 64) (k : Ready f r u p) where
    abbrev a : ℕ
    a = nearest_of f rank u p

    simple : SimplePart p
    simple = hangs_simple p h few

    uf : p.joins u (f u) ≡ true
    uf = h.same (f u) u (h.tree u k.there k.not_root)

    ua : p.joins u a ≡ true
    ua = nearest_joined f rank u p uf

    least : (b : ℕ) → p.joins u b ≡ true → rank a ≤ rank b
    least = nearest_lowest f rank u p simple

    fr : f u ≡ r → ⊥
    fr = let z = k.third in parent_not_root (In p) (Joined p) f r rank h u k.there k.not_root k.leaf z.0 z.1 z.2 z.3

    parent_not_nearest : f u ≡ a → ⊥
    parent_not_nearest = lowest_not_parent (In p) (Joined p) f r rank h u k.there k.not_root k.leaf fr a ua least

    abbrev vs : List ℕ
    vs = passing (other u (f u) a p)

    rising : RisingList (other u (f u) a p) vs
    rising = passing_rising (other u (f u) a p) (λ x o. few x (ends_in p simple u x (other_joined u (f u) a p x o)).1)

    pub taken_builds : Builds (taken f rank u p) (reversed (noted f rank u p)) p
    unfolding taken noted
    taken_builds = undo_away u (f u) a vs p simple uf ua parent_not_nearest rising

    pub taken_away : TakesAway f rank u p (noted f rank u p) (taken f rank u p)
    unfolding taken noted
    taken_away = record { a = a; others = vs; neighbour = ua; nearest_root = least; rising = rising; noted_so = refl; leaves = refl }

    taken_in : (x : ℕ) → In (taken f rank u p) x → Less (In p) u x
    taken_in x m = without_true u p.in_use x (sym (ap (λ U. U x) (taken_in_use f rank u p)) ∙ m)

    in_taken : (x : ℕ) → Less (In p) u x → In (taken f rank u p) x
    in_taken x m = ap (λ U. U x) (taken_in_use f rank u p) ∙ true_without u p.in_use x m.0 m.1

    pub taken_within : (x : ℕ) → In (taken f rank u p) x → x < 64
    taken_within x m = few x (taken_in x m).0

    pub taken_hangs : Hangs (In (taken f rank u p)) (Joined (taken f rank u p)) f r rank
    taken_hangs =
        hangs_like in_taken taken_in
        (leaf_hangs (In p) (Joined p) f r rank h u k.there k.not_root k.leaf fr a ua least (Joined (taken f rank u p))
        (λ x y j. splice_cases u (f u) a p.joins x y (sym (taken_joins f rank u p x y) ∙ j))
        (λ x y j nx ny. taken_joins f rank u p x y ∙ splice_keeps u (f u) a p.joins x y j nx ny)
        (taken_joins f rank u p (f u) a ∙ (splice_pair (f u) a (λ x y. (not (eqb u x) && not (eqb u y)) && p.joins x y)).0)
        (taken_joins f rank u p a (f u) ∙ (splice_pair (f u) a (λ x y. (not (eqb u x) && not (eqb u y)) && p.joins x y)).1))

  -- ---- one after another

  abbrev pub AllReady : List ℕ → Part → Type 0
  AllReady [] p = Unit {0}
  AllReady (u ∷ us) p = Ready f r u p × AllReady us (taken f rank u p)

  pub all_hangs : (us : List ℕ) (p : Part) → Hangs (In p) (Joined p) f r rank → ((x : ℕ) → In p x → x < 64) → AllReady us p
      → Hangs (In (remaining f rank us p)) (Joined (remaining f rank us p)) f r rank
  unfolding remaining
  all_hangs [] p h few k = h
  all_hangs (u ∷ us) p h few k = all_hangs us (taken f rank u p) (taken_hangs u p h few k.0) (taken_within u p h few k.0) k.1

  pub all_within : (us : List ℕ) (p : Part) → Hangs (In p) (Joined p) f r rank → ((x : ℕ) → In p x → x < 64) → AllReady us p
      → (x : ℕ) → In (remaining f rank us p) x → x < 64
  unfolding remaining
  all_within [] p h few k = few
  all_within (u ∷ us) p h few k = all_within us (taken f rank u p) (taken_hangs u p h few k.0) (taken_within u p h few k.0) k.1

  pub all_away : (us : List ℕ) (p : Part) → Hangs (In p) (Joined p) f r rank → ((x : ℕ) → In p x → x < 64) → AllReady us p
      → TakesAll f rank us p (all_notes f rank us p) (remaining f rank us p)
  unfolding remaining all_notes
  all_away [] p h few k = no_more
  all_away (u ∷ us) p h few k =
      one_more (taken_away u p h few k.0) (all_away us (taken f rank u p) (taken_hangs u p h few k.0) (taken_within u p h few k.0) k.1)

  pub all_builds : (us : List ℕ) (p : Part) → Hangs (In p) (Joined p) f r rank → ((x : ℕ) → In p x → x < 64) → AllReady us p
      → Builds (remaining f rank us p) (reversed (all_notes f rank us p)) p
  unfolding remaining all_notes
  all_builds [] p h few k = done
  all_builds (u ∷ us) p h few k =
      subst (λ l. Builds (remaining f rank us (taken f rank u p)) l p) (sym (reversed_append (noted f rank u p) (all_notes f rank us (taken f rank u p))))
      (builds_more (all_builds us (taken f rank u p) (taken_hangs u p h few k.0) (taken_within u p h few k.0) k.1) (taken_builds u p h few k.0))

  -- ---- three tables

  -- s is the root's child, and t is the child of s
  module _ (p : Part) (h : Hangs (In p) (Joined p) f r rank) (s t : ℕ) (ps : In p s) (pt : In p t) (sr : s ≡ r → ⊥) (tr : t ≡ r → ⊥) (st : s ≡ t → ⊥)
      (all : (x : ℕ) → In p x → (x ≡ r) ⊎ ((x ≡ s) ⊎ (x ≡ t))) where
    chain : f s ≡ r → f t ≡ s → (Joined p r s) × (Joined p s t) × (Joined p r t)
    chain es et =
        let js : Joined p r s = subst (λ x. Joined p x s) es (h.tree s ps sr) in
        let jt : Joined p s t = subst (λ x. Joined p x t) et (h.tree t pt tr) in
        let l = h.low t pt tr (λ e. sr (sym et ∙ e)) in
        let pd : In p l.0 = h.within l.0 l.1 l.2 in
        let dt : l.0 ≡ t = over_leaf f r (In p) rank h.climbs h.rises l.3 pd leaf in
        let er : l.1 ≡ r = over_root f r (subst (λ x. Over f r l.1 x) (ap f et ∙ es) l.4) in
        (js, jt, h.same t r (subst (λ x. Joined p x r) dt (subst (λ x. Joined p l.0 x) er l.2)))
      where
        leaf : (w : ℕ) → In p w → (w ≡ r → ⊥) → f w ≡ t → ⊥
        leaf w pw wr e = ⊎_elim wr (⊎_elim (λ (q : w ≡ s). tr (sym e ∙ ap f q ∙ es)) (λ (q : w ≡ t). st (sym et ∙ sym (ap f q) ∙ e))) (all w pw)

  module _ (p : Part) (h : Hangs (In p) (Joined p) f r rank) (s t : ℕ) (ps : In p s) (pt : In p t) (sr : s ≡ r → ⊥) (tr : t ≡ r → ⊥) (st : s ≡ t → ⊥)
      (all : (x : ℕ) → In p x → (x ≡ r) ⊎ ((x ≡ s) ⊎ (x ≡ t))) where
    three_joined : (Joined p r s) × (Joined p s t) × (Joined p r t)
    three_joined =
        ⊎_elim (λ (es : f s ≡ r). ⊎_elim (λ (et : f t ≡ r). absurd (st (h.one_son s t ps pt sr tr es et)))
        (⊎_elim (λ et. chain p h s t ps pt sr tr st all es et) (λ et. absurd (self_no t pt tr et))) (all (f t) (h.climbs t pt tr)))
        (⊎_elim (λ es. absurd (self_no s ps sr es))
        (λ (es : f s ≡ t). ⊎_elim (λ (et : f t ≡ r). let c = chain p h t s pt ps tr sr (λ e. st (sym e)) (λ x m. ⊎_elim inl (⊎_elim (λ k. inr (inr k)) (λ k. inr (inl k))) (all x m)) et es in (c.2, h.same t s c.1, c.0))
        (⊎_elim (λ (et : f t ≡ s). absurd (let e1 = h.rises s ps sr in let e2 = h.rises t pt tr in let k1 = ap rank es in let k2 = ap rank et in omega arith)) (λ et. absurd (self_no t pt tr et))) (all (f t) (h.climbs t pt tr))))
        (all (f s) (h.climbs s ps sr))
      where
        self_no : (v : ℕ) → In p v → (v ≡ r → ⊥) → f v ≡ v → ⊥
        self_no v pv vr e = h.apart (f v) v (h.tree v pv vr) e

    pub three_full : (x y : ℕ) → In p x → In p y → (x ≡ y → ⊥) → Joined p x y
    three_full x y px py n =
        let j = three_joined in
        let join : (v w : ℕ) → Joined p v w → x ≡ v → y ≡ w → Joined p x y = λ v w k ev ew. rw (ev, ew) k in
        let same : (v : ℕ) → x ≡ v → y ≡ v → Joined p x y = λ v ev ew. absurd (n (ev ∙ sym ew)) in
        ⊎_elim
        (λ (e : x ≡ r). ⊎_elim (λ d. same r e d) (⊎_elim (λ d. join r s j.0 e d) (λ d. join r t j.2 e d)) (all y py))
        (⊎_elim
        (λ (e : x ≡ s). ⊎_elim (λ d. join s r (h.same r s j.0) e d) (⊎_elim (λ d. same s e d) (λ d. join s t j.1 e d)) (all y py))
        (λ (e : x ≡ t). ⊎_elim (λ d. join t r (h.same r t j.2) e d) (⊎_elim (λ d. join t s (h.same s t j.1) e d) (λ d. same t e d)) (all y py)))
        (all x px)

-- ---- the triangle

-- a join of a triangle is between two different corners, and any two different corners are joined
corners_of : (t : Triangle) → Ascending t → (x y : ℕ) → (triangle t).joins x y ≡ true → ((triangle t).in_use x ≡ true) × ((triangle t).in_use y ≡ true) × (x ≡ y → ⊥)
corners_of t up x y h = let l = up.0 in let m = up.1 in grind (arith, nat_tests)

corners_join : (t : Triangle) (x y : ℕ) → (triangle t).in_use x ≡ true → (triangle t).in_use y ≡ true → (x ≡ y → ⊥) → (triangle t).joins x y ≡ true
corners_join t x y h k n = grind (arith, nat_tests)

pub full_triangle : (p : Part) → SimplePart p → ((x y : ℕ) → In p x → In p y → (x ≡ y → ⊥) → Joined p x y)
    → (t : Triangle) → Ascending t → ((x : ℕ) → (triangle t).in_use x ≡ p.in_use x) → triangle t ≡ p
full_triangle p s full t up uses =
    part_path (triangle t) p uses
    (λ x y. same_test ((triangle t).joins x y) (p.joins x y)
    (λ m. let c = corners_of t up x y m in full x y (sym (uses x) ∙ c.0) (sym (uses y) ∙ c.1) c.2)
    (λ m. let e = ends_in p s x y m in corners_join t x y (uses x ∙ e.0) (uses y ∙ e.1) (apart p s x y m)))
