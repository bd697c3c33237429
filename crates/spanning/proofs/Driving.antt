-- A table drives exactly when its cross count is zero.
--
--   tree_walked      where every join is between a table and an ancestor of it, some search walks the tree to its end
--   drives_rooted    the search of a table that drives makes the tree hang from it
--   drives_none      a table that drives has no cross joins
--   none_drives      a table without cross joins drives
--   drives_exactly   both
use Rattle.std.proofs.Common.{◌≡◌, ℕ, zero, suc, ◌<◌, ◌≤◌, Bool, true, false, not, ◌&&◌, ◌⊎◌, List, [], ◌∷◌, sym, refl, ◌∙◌, subst, inl, inr, ⊎_elim, arith}
use Rattle.std.proofs.lemmas.Bool.{cases_Bool, cases_order, both_ways, false≢true, lt-ltb}
use Rattle.std.proofs.lemmas.Bool.Decides.{nat_tests}
use Rattle.theory.specs.Graph.{Graph, joined, is_table, table_count, count}
use Rattle.disassembly.specs.Tree.{Over, self, up}
use Rattle.disassembly.specs.Search.{has, discovery, searched}
use Rattle.disassembly.specs.Depth.{Recent, top, below, Search, start, find}
use Rattle.disassembly.proofs.Members.{has_cases, first_below}
use Rattle.disassembly.proofs.Walks.{walk_in}
use Rattle.disassembly.proofs.Trees.{over_in}
use Rattle.disassembly.proofs.Depth.{recent_in, older, search_root, search_climbs, search_rises, search_rooted, search_no_cross}
use Rattle.spanning.specs.Crossing.{cross, cross_count}
use Rattle.spanning.specs.Driving.{Drives}
use Rattle.spanning.specs.Laws.{MarksOf, DrivesExactly}
use Rattle.spanning.proofs.Counting.{none_counted, count_less, pairs_zero, none_paired}
use Rattle.spanning.proofs.Rooted.{Rooted, spanning_rooted}
use Rattle.spanning.proofs.Paths.{path_over, over_path, cross_not, cross_none}

-- ---- some search walks a tree without cross joins

open_neighbour : (j b : Bool) → (j && not b) ≡ true → (j ≡ true) × (b ≡ false)
open_neighbour j b h = grind arith

shut_neighbour : (j b : Bool) → (j && not b) ≡ false → j ≡ true → b ≡ true
shut_neighbour j b h k = grind arith

still_missing : (l : List ℕ) (w x : ℕ) → not (has (w ∷ l) x) ≡ true → not (has l x) ≡ true
still_missing l w x h = grind (arith, nat_tests)

now_found : (l : List ℕ) (w : ℕ) → not (has (w ∷ l) w) ≡ false
now_found l w = grind (arith, nat_tests)

was_missing : (l : List ℕ) (w : ℕ) → has l w ≡ false → not (has l w) ≡ true
was_missing l w h = grind arith

not_missing : (l : List ℕ) (x : ℕ) → not (has l x) ≡ false → has l x ≡ true
not_missing l x h = grind arith

module _ (n : ℕ) (J : ℕ → ℕ → Bool) (f : ℕ → ℕ) (r : ℕ) (same : (a b : ℕ) → J a b ≡ J b a) (within : (a b : ℕ) → J a b ≡ true → a < n)
    (rooted : (x : ℕ) → x < n → Over f r r x) (tree : (x : ℕ) → x < n → (x ≡ r → ⊥) → J (f x) x ≡ true)
    (no_cross : (a b : ℕ) → J a b ≡ true → Over f r a b ⊎ Over f r b a) where
  abbrev Shut : List ℕ → ℕ → Type 0
  Shut all x = (y : ℕ) → J x y ≡ true → has all y ≡ true

  abbrev Whole : Type 0
  Whole = (l : List ℕ) × Search J f r l × ((x : ℕ) → x < n → has l x ≡ true)

  -- the most recent table of k that has a neighbour to discover, or there is none in k
  recent : (l k : List ℕ) → ((t : ℕ) × Recent J l t k × (y : ℕ) × (J t y ≡ true) × (has l y ≡ false)) ⊎ ((x : ℕ) → has k x ≡ true → Shut l x)
  recent l [] = inr (λ x h. absurd (false≢true h))
  recent l (t ∷ k) =
      let again = recent l k in
      ⊎_elim (λ q. let o = open_neighbour (J t q.0) (has l q.0) q.2 in inl (t, top, q.0, o.0, o.1))
      (λ none.
      let shut : Shut l t = λ y j. shut_neighbour (J t y) (has l y) (none y (within y t (same y t ∙ j))) j in
      ⊎_elim (λ q. inl (q.0, below shut q.1, q.2, q.3, q.4)) (λ all. inr (λ x h. ⊎_elim (λ (e : x ≡ t). rw e shut) (λ m. all x m) (has_cases t k x h))) again)
      (first_below n (λ y. J t y && not (has l y)))

  climbs : (x : ℕ) → x < n → (x ≡ r → ⊥) → f x < n
  climbs x b nr = within (f x) x (tree x b nr)

  -- on the way down from a discovered table to an undiscovered one there is an edge from the one kind to the other
  edge_down : (l : List ℕ) {t y : ℕ} → Over f r t y → has l t ≡ true → has l y ≡ false → y < n
      → (w : ℕ) × (has l w ≡ false) × (has l (f w) ≡ true) × Over f r t (f w) × (w ≡ r → ⊥) × (w < n)
  edge_down l {t} self h k b = absurd (both_ways (has l t) k h)
  edge_down l {t} (up {b = y} nr o) h k b =
      let again : has l (f y) ≡ false → (w : ℕ) × (has l w ≡ false) × (has l (f w) ≡ true) × Over f r t (f w) × (w ≡ r → ⊥) × (w < n) =
      λ m. edge_down l o h m (climbs y b nr) in
      ⊎_elim (λ m. (y, k, m, o, nr, b)) again (cases_Bool (has l (f y)))

  -- what is closed under the joins has all
  closed : (l : List ℕ) → has l r ≡ true → ((x : ℕ) → has l x ≡ true → Shut l x) → {x : ℕ} → Over f r r x → x < n → has l x ≡ true
  closed l hr all self b = hr
  closed l hr all (up {b = x} nr o) b = all (f x) (closed l hr all o (climbs x b nr)) x (tree x b nr)

  -- an undiscovered table below the most recent one that can go on, whose parent is discovered, is a child of that one
  next : (l : List ℕ) → Search J f r l → (t y : ℕ) → Recent J l t l → J t y ≡ true → has l y ≡ false
      → (w : ℕ) × (w < n) × (has l w ≡ false) × (J (f w) w ≡ true) × Recent J l (f w) l
  next l S t y m j new =
      let yn : y < n = within y t (same y t ∙ j) in
      let ty : Over f r t y = ⊎_elim (λ o. o) (λ o. absurd (both_ways (has l y) new (over_in f r (λ x. has l x ≡ true) (search_climbs J f r S) o (recent_in J f r m)))) (no_cross t y j) in
      let d = edge_down l ty (recent_in J f r m) new yn in
      let w = d.0 in
      let jw : J (f w) w ≡ true = tree w d.5 d.4 in (
        w,
        d.5,
        d.1,
        jw,
        ⊎_elim (λ shut. absurd (both_ways (has l w) d.1 (shut w jw)))
            (⊎_elim (λ (e : f w ≡ t). subst (λ x. Recent J l x l) (sym e) m) (λ no-under. absurd (no-under d.3))) (older J f r S m (f w) d.2),
      )

  grow : (k : ℕ) (l : List ℕ) → Search J f r l → count (λ x. not (has l x)) n ≤ k → Whole
  grow zero l S h = (l, S, λ x m. not_missing l x (none_counted (λ y. not (has l y)) n (omega arith) x m))
  grow (suc k) l S h =
      let more : (w : ℕ) → w < n → has l w ≡ false → J (f w) w ≡ true → Recent J l (f w) l → Whole =
      λ w wn new j m. grow k (w ∷ l) (find S new j m) (omega (arith, count_less (λ x. not (has (w ∷ l) x)) (λ x. not (has l x)) n (still_missing l w) w wn (now_found l w) (was_missing l w new))) in
      ⊎_elim (λ q. let d = next l S q.0 q.2 q.1 q.3 q.4 in more d.0 d.1 d.2 d.3 d.4)
      (λ all. (l, S, λ x m. closed l (search_root J f r S) all (rooted x m) m))
      (recent l l)

  pub tree_walked : Whole
  tree_walked = grow (count (λ x. not (has (r ∷ []) x)) n) (r ∷ []) start (omega arith)

-- ---- a table that drives

module _ (m t : Graph) (h : MarksOf m t) (r : ℕ) (rn : r < table_count t) where
  module _ (d : Drives m t r) where
    -- the marks connect all, and the search has come to its end
    all_found : (x : ℕ) → x < table_count t → has d.order x ≡ true
    all_found x l = walk_in (λ a. has d.order a ≡ true) (λ a b j k. d.ended a b k (h.within a b j.0))
        (h.spanning.connected r x (lt-ltb r (table_count t) rn) (lt-ltb x (table_count t) l)) (search_root (joined m) d.parent r d.search)

    pub drives_rooted : Rooted t d.parent r (discovery d.order)
    drives_rooted = record {
      root = rn;
      rooted = λ x l. search_rooted (joined m) d.parent r d.search x (all_found x l);
      rises = λ x l n. search_rises (joined m) d.parent r d.search x (all_found x l) n;
      mark = λ x l n. (d.walks (d.parent x) x).1 (inl (all_found x l, n, refl));
      marks = λ a b j. ⊎_elim (λ w. inr (w.1, w.2)) (λ w. inl (w.1, w.2)) ((d.walks a b).0 j);
    }

    pub drives_none : cross_count m t r ≡ 0
    drives_none = pairs_zero (cross m t r) (table_count m) (λ a b k l. cross_not m t r a b (λ j _.
        let an : a < table_count t = rw h.same (omega arith) in
        let bn : b < table_count t = rw h.same l in
        ⊎_elim (λ o. inl (over_path t h.spanning.simple d.parent r (discovery d.order) drives_rooted a b o))
        (λ o. inr (over_path t h.spanning.simple d.parent r (discovery d.order) drives_rooted b a o))
        (search_no_cross (joined m) d.parent r (λ x y z. h.simple.symmetric y x ∙ z) d.search a b (all_found a an) (all_found b bn) j)))

  -- ---- a table without cross joins

  module _ (zero-count : cross_count m t r ≡ 0) where
    abbrev parent : ℕ → ℕ
    parent = (searched (is_table t) (joined t) r).parent

    abbrev rank : ℕ → ℕ
    rank = discovery (searched (is_table t) (joined t) r).seen

    hangs : Rooted t parent r rank
    hangs = spanning_rooted t h.spanning r rn

    table : (a b : ℕ) → joined m a b ≡ true → a < table_count t
    table a b j = rw h.same (h.simple.within a b j)

    turned_join : (a b : ℕ) → joined m a b ≡ true → joined m b a ≡ true
    turned_join a b j = h.simple.symmetric b a ∙ j

    over_parent : (a b : ℕ) → (a ≡ r → ⊥) → parent a ≡ b → Over parent r b a
    over_parent a b n e = up {b = a} n (subst (λ x. Over parent r b x) (sym e) self)

    rising : (a b : ℕ) → a < b → joined m a b ≡ true → joined t a b ≡ false → Over parent r a b ⊎ Over parent r b a
    rising a b l j k = ⊎_elim (λ p. inl (path_over t h.spanning.simple parent r rank hangs a b (table b a (turned_join a b j)) p))
        (λ p. inr (path_over t h.spanning.simple parent r rank hangs b a (table a b j) p))
        (cross_none m t r a b (none_paired (cross m t r) (table_count m) zero-count a b l (h.simple.within b a (turned_join a b j))) j k)

    crossless : (a b : ℕ) → joined m a b ≡ true → Over parent r a b ⊎ Over parent r b a
    crossless a b j = ⊎_elim
        (λ k. ⊎_elim (λ w. inr (over_parent a b w.0 w.1)) (λ w. inl (over_parent b a w.0 w.1)) (hangs.marks a b k))
        (λ k. ⊎_elim (λ (e : a ≡ b). absurd (both_ways (joined m a a) (h.simple.loopless a) (subst (λ x. joined m a x ≡ true) (sym e) j)))
        (⊎_elim (λ l. rising a b l j k)
        (λ l. ⊎_elim inr inl (rising b a l (turned_join a b j) (h.spanning.simple.symmetric b a ∙ k)))) (cases_order a b))
        (cases_Bool (joined t a b))

    pub none_drives : Drives m t r
    none_drives =
        let w = tree_walked (table_count t) (joined m) parent r h.simple.symmetric table hangs.rooted (λ x l n. h.within (parent x) x (hangs.mark x l n)) crossless in
        record {
          parent = parent;
          order = w.0;
          search = w.1;
          ended = λ a b k j. w.2 b (table b a (turned_join a b j));
          walks = λ a b. (
            (λ j. ⊎_elim (λ q. inr (w.2 a (h.spanning.simple.within a b j), q.0, q.1))
                (λ q. inl (w.2 b (h.spanning.simple.within b a (h.spanning.simple.symmetric b a ∙ j)), q.0, q.1)) (hangs.marks a b j)),
            ⊎_elim
                (λ q. walked a b (search_in w.0 w.1 b q.0) q.1 q.2)
                (λ q. h.spanning.simple.symmetric a b ∙ walked b a (search_in w.0 w.1 a q.0) q.1 q.2),
          );
        }
      where
        walked : (a b : ℕ) → b < table_count t → (b ≡ r → ⊥) → parent b ≡ a → joined t a b ≡ true
        walked a b l n e = subst (λ x. joined t x b ≡ true) e (hangs.mark b l n)

        search_in : (l : List ℕ) → Search (joined m) parent r l → (x : ℕ) → has l x ≡ true → x < table_count t
        search_in l start x k = ⊎_elim (λ e. rw e rn) (λ z. absurd (false≢true z)) (has_cases r [] x k)
        search_in l (find {u = u} {l = l'} S new j _) x k =
            ⊎_elim (λ e. rw e (table u (parent u) (turned_join (parent u) u j))) (λ z. search_in l' S x z) (has_cases u l' x k)

pub drives_exactly : DrivesExactly
drives_exactly m t h r l = (
  (λ d. drives_none m t h r (rw h.same l) d),
  (λ z. none_drives m t h r (rw h.same l) z),
)
