-- Low points tell the articulation tables of a connected graph.
--
--   over_child           a table below x is x, or is below a child of x
--   over_decide          ancestor or not
--   discovery_same       a discovery number is that of one table
--   second_found         the root is the only table discovered, or has the child discovered first after it
--   low_cuts_exactly     the articulation tables are those by low points
use Rattle.std.proofs.Common.{◌≡◌, ℕ, zero, suc, ◌<◌, ◌≤◌, Bool, true, false, ◌⊎◌, ◌↔◌, List, [], ◌∷◌, length, sym, refl, ap, ◌∙◌, subst, inl, inr, ⊎_elim, arith}
use Rattle.std.proofs.lemmas.Bool.{cases_eq, cases_Bool, cases_lt, both_ways, false≢true}
use Rattle.std.proofs.lemmas.Bool.Decides.{nat_tests}
use Rattle.disassembly.specs.Walks.{Walk, here, on, Leads, Connected, without, Articulation, SimpleOn}
use Rattle.disassembly.specs.Search.{has, Visit, discovery}
use Rattle.disassembly.specs.Depth.{Search, start, find}
use Rattle.disassembly.specs.Tree.{Over, self, up}
use Rattle.disassembly.specs.LowPoints.{Child, Confined, LowCut, LowCutsExactly}
use Rattle.disassembly.proofs.Members.{has_cases, has_more, has_head}
use Rattle.disassembly.proofs.Walks.{join_walks, turned, connected_linked, true_without, without_true, leads_turned}
use Rattle.disassembly.proofs.Trees.{over_father, over_root, over_in, over_rank}
use Rattle.disassembly.proofs.Depth.{recent_in, discovery_below, search_climbs, search_rises, search_root, search_tree, search_rooted, search_no_cross}
use Rattle.disassembly.proofs.Visits.{visit_search, visit_in}
use Rattle.disassembly.proofs.Low.{escape}

-- ---- trees

module _ (f : ℕ → ℕ) (r : ℕ) where
  pub over_child : {x a : ℕ} → Over f r x a → (a ≡ x) ⊎ ((c : ℕ) × (c ≡ r → ⊥) × (f c ≡ x) × Over f r c a)
  over_child self = inl refl
  over_child (up {b = b} n o) = inr (⊎_elim (λ e. (b, n, e, self)) (λ q. (q.0, q.1, q.2, up n q.3)) (over_child o))

  pub over_decide : (a : ℕ) {b : ℕ} → Over f r r b → Over f r a b ⊎ (Over f r a b → ⊥)
  over_decide a self = ⊎_elim (λ (e : a ≡ r). inl (rw e self)) (λ ne. inr (λ o. ne (over_root f r o))) (cases_eq a r)
  over_decide a (up {b = b} n o) = ⊎_elim (λ (e : a ≡ b). inl (rw e self))
      (λ ne. ⊎_elim (λ k. inl (up n k)) (λ k. inr (λ q. k (over_father f r q ne))) (over_decide a o)) (cases_eq a b)

-- ---- discovery numbers

pub discovery_same : (l : List ℕ) (a b : ℕ) → has l a ≡ true → has l b ≡ true → discovery l a ≡ discovery l b → a ≡ b
discovery_same [] a b ha hb e = absurd (false≢true ha)
discovery_same (x ∷ l) a b ha hb e =
    let ih : has l a ≡ true → has l b ≡ true → discovery l a ≡ discovery l b → a ≡ b = discovery_same l a b in
    let la : has l a ≡ true → discovery l a < length l = discovery_below (λ _ _. false) (λ k. k) 0 l a in
    let lb : has l b ≡ true → discovery l b < length l = discovery_below (λ _ _. false) (λ k. k) 0 l b in
    grind (arith, nat_tests)

abbrev Second : (ℕ → ℕ) → ℕ → List ℕ → Type 0
Second f r l = (w : ℕ) × Child f l r r w × (discovery l w ≡ 1)

pub second_found : (J : ℕ → ℕ → Bool) (f : ℕ → ℕ) (r : ℕ) {l : List ℕ} → Search J f r l → (l ≡ r ∷ []) ⊎ Second f r l
second_found J f r start = inl refl
second_found J f r (find {u = u} {l = l} s new j m) = inr (⊎_elim
    (λ (e : l ≡ r ∷ []).
    let hf : has (r ∷ []) (f u) ≡ true = rw e at (recent_in J f r m) in
    (u, (has_head u l, λ q. both_ways (has l r) (rw q at new) (search_root J f r s), ⊎_elim (λ q. q) (λ k. absurd (false≢true k)) (has_cases r [] (f u) hf)), head u l ∙ ap length e))
    (λ q. let w = q.0 in (w, (has_more u l w q.1.0, q.1.1, q.1.2), later u l w (λ e. both_ways (has l u) new (subst (λ x. has l x ≡ true) e q.1.0)) ∙ q.2))
    (second_found J f r s))
  where
    head : (u : ℕ) (l : List ℕ) → discovery (u ∷ l) u ≡ length l
    head u l = grind (arith, nat_tests)

    later : (u : ℕ) (l : List ℕ) (w : ℕ) → (w ≡ u → ⊥) → discovery (u ∷ l) w ≡ discovery l w
    later u l w n = grind (arith, nat_tests)

-- ---- one number below n, or none

some_below : (n : ℕ) (P : ℕ → Type 0) → ((x : ℕ) → P x ⊎ (P x → ⊥)) → ((x : ℕ) × P x) ⊎ ((x : ℕ) → x < n → P x → ⊥)
some_below zero P d = inr (λ x l. absurd (omega arith))
some_below (suc n) P d = ⊎_elim (λ p. inl (n, p))
    (λ no-n. ⊎_elim (λ q. inl q) (λ none. inr (λ x l p. ⊎_elim (λ (e : x ≡ n). no-n (subst P e p)) (λ ne. none x (omega arith) p) (cases_eq x n))) (some_below n P d)) (d n)

-- ---- the search of a connected graph

module _ (U : ℕ → Bool) (J : ℕ → ℕ → Bool) (f : ℕ → ℕ) (r : ℕ) (D L : List ℕ) (s : SimpleOn U J) (ur : U r ≡ true)
    (v : Visit U J f r [] D L) (all : (x : ℕ) → U x ≡ true → has D x ≡ true) where
  abbrev P : ℕ → Type 0
  P x = has D x ≡ true

  abbrev rank : ℕ → ℕ
  rank = discovery D

  S : Search J f r D
  S = visit_search U J f r s v

  joined_in : (a b : ℕ) → J a b ≡ true → P a
  joined_in a b j = all a (s.within a b j)

  other_way : (a b : ℕ) → J a b ≡ true → J b a ≡ true
  other_way a b j = s.symmetric b a ∙ j

  in_U : (x : ℕ) → P x → U x ≡ true
  in_U x p = visit_in U J f r s ur v x p

  no_cross : (a b : ℕ) → J a b ≡ true → Over f r a b ⊎ Over f r b a
  no_cross a b j = search_no_cross J f r other_way S a b (joined_in a b j) (joined_in b a (other_way a b j)) j

  ranks : {a b : ℕ} → Over f r a b → P b → (a ≡ b) ⊎ (rank a < rank b)
  ranks = over_rank f r P rank (search_climbs J f r S) (search_rises J f r S)

  child_apart : (x c : ℕ) → Child f D r x c → c ≡ x → ⊥
  child_apart x c k e = both_ways (J c c) (s.loopless c) (subst (λ y. J y c ≡ true) (k.2 ∙ sym e) (search_tree J f r S c k.0 k.1))

  child_decide : (x c : ℕ) → Child f D r x c ⊎ (Child f D r x c → ⊥)
  child_decide x c = ⊎_elim
      (λ (h : has D c ≡ true). ⊎_elim (λ (e : c ≡ r). inr (λ k. k.1 e)) (λ ne. ⊎_elim (λ (e : f c ≡ x). inl (h, ne, e)) (λ nf. inr (λ k. nf k.2)) (cases_eq (f c) x)) (cases_eq c r))
      (λ (h : has D c ≡ false). inr (λ k. both_ways (has D c) h k.0))
      (cases_Bool (has D c))

  -- the walk that a connected graph without x has leaves the tables below a child of x, by a join
  leaves : (x c t : ℕ) → Child f D r x c → Connected (without x U) J → U t ≡ true → (t ≡ x → ⊥) → (Over f r c t → ⊥)
      → (d e : ℕ) × (J d e ≡ true) × Over f r c d × Over f r e (f c) × (e ≡ x → ⊥)
  leaves x c t k con ut tx no-over = escape (λ a. U a ≡ true) (λ a b. J a b ≡ true) f r no_cross c x
      (connected_linked U J x con c t (in_U c k.0, child_apart x c k) (ut, tx)) self no-over

  cut_inside : (x : ℕ) → (x ≡ r → ⊥) → (c : ℕ) → Child f D r x c → Confined J f D r x c → Articulation U J x
  cut_inside x xr c k low = (
    in_U x px,
    λ con.
        let t = leaves x c r k con ur (λ e. xr (sym e)) (λ o. k.1 (over_root f r o)) in
        let e = t.1 in
        let ex : Over f r e x = subst (λ y. Over f r e y) k.2 t.4 in
        let m : rank x ≤ rank e = low t.0 e t.3 t.2 in
        ⊎_elim (λ q. t.5 q) (λ l. omega arith) (ranks ex px),
  )
    where
      px : P x
      px = subst P k.2 (search_climbs J f r S c k.0 k.1)

  cut_root : (c : ℕ) → Child f D r r c → (rank c ≡ 1 → ⊥) → Articulation U J r
  cut_root c k ne = (
    ur,
    λ con. ⊎_elim
        (λ (e : D ≡ r ∷ []). k.1 (⊎_elim (λ q. q) (λ z. absurd (false≢true z)) (has_cases r [] c (subst (λ l. has l c ≡ true) e k.0))))
        (λ q. let w = q.0 in
        let kw : Child f D r r w = q.1 in
        let cw : c ≡ w → ⊥ = λ e. ne (ap rank e ∙ q.2) in
        let t = leaves r c w k con (in_U w kw.0) kw.1 (λ o. k.1 (over_root f r (subst (λ y. Over f r c y) kw.2 (over_father f r o cw)))) in
        t.5 (over_root f r (subst (λ y. Over f r t.1 y) k.2 t.4)))
        (second_found J f r S),
  )

  -- ---- where no child is confined

  module _ (x : ℕ) (ux : U x ≡ true) where
    abbrev W : ℕ → ℕ → Type 0
    W a b = Walk (Leads (without x U) J) a b

    step : (a b : ℕ) → J a b ≡ true → (a ≡ x → ⊥) → (b ≡ x → ⊥) → Leads (without x U) J a b
    step a b j na nb = (j, true_without x U a (s.within a b j) na, true_without x U b (s.within b a (other_way a b j)) nb)

    -- up the tree from a to c, where no table on the way is x
    climb : (c : ℕ) → {a : ℕ} → Over f r c a → P a → ((d : ℕ) → Over f r c d → Over f r d a → d ≡ x → ⊥) → W a c
    climb c self p n = here
    climb c (up {b = a} m o) p n =
        on (step a (f a) (other_way (f a) a (search_tree J f r S a p m)) (n a (up m o) self) (n (f a) o (up m self)))
        (climb c o (search_climbs J f r S a p m) (λ d cd da. n d cd (up m da)))

    flip : (a b : ℕ) → Leads (without x U) J a b → Leads (without x U) J b a
    flip = leads_turned U J s (without x U)

    -- a table below a child of x is not x
    below_child : (c d : ℕ) → Child f D r x c → Over f r c d → d ≡ x → ⊥
    below_child c d k o e =
        let m : rank x < rank c = subst (λ y. rank y < rank c) k.2 (search_rises J f r S c k.0 k.1) in
        ⊎_elim (λ (q : c ≡ x). child_apart x c k q) (λ (l : rank c < rank x). omega arith) (ranks (subst (λ y. Over f r c y) e o) (all x ux))

    to_child : (c a : ℕ) → Child f D r x c → Over f r c a → P a → W a c
    to_child c a k o p = climb c o p (λ d cd _. below_child c d k cd)

    -- a table that is not below x has a walk to the root
    to_root : (a : ℕ) → P a → (Over f r x a → ⊥) → W a r
    to_root a p n = climb r (search_rooted J f r S a p) p (λ d _ da e. n (subst (λ y. Over f r y a) e da))

    the_child : (a : ℕ) → P a → (a ≡ x → ⊥) → Over f r x a → (c : ℕ) × Child f D r x c × Over f r c a
    the_child a p ax o = ⊎_elim (λ e. absurd (ax e))
        (λ q. (q.0, (over_in f r P (search_climbs J f r S) q.3 p, q.1, q.2), q.3)) (over_child f r o)

    abbrev Escapes : ℕ → Type 0
    Escapes c = (d : ℕ) × (e : ℕ) × (J d e ≡ true) × Over f r c d × (rank e < rank x)

    decide_escapes : (c : ℕ) → Escapes c ⊎ Confined J f D r x c
    decide_escapes c = ⊎_elim (λ q. inl (q.0, q.1.0, q.1.1, q.1.2, q.1.3))
        (λ none. inr (λ d e o j. ⊎_elim (λ (l : rank e < rank x). absurd (none d (s.few d (s.within d e j)) (e, j, o, l))) (λ l. l) (cases_lt (rank e) (rank x))))
        (some_below 64 (λ d. (e : ℕ) × (J d e ≡ true) × Over f r c d × (rank e < rank x)) from)
      where
        at : (d e : ℕ) → ((J d e ≡ true) × Over f r c d × (rank e < rank x)) ⊎ ((J d e ≡ true) × Over f r c d × (rank e < rank x) → ⊥)
        at d e = ⊎_elim
            (λ (j : J d e ≡ true). ⊎_elim
            (λ o. ⊎_elim (λ (l : rank e < rank x). inl (j, o, l)) (λ (l : rank x ≤ rank e). inr (λ q. let m : rank e < rank x = q.2 in omega arith)) (cases_lt (rank e) (rank x)))
            (λ n. inr (λ q. n q.1))
            (over_decide f r c (search_rooted J f r S d (joined_in d e j))))
            (λ (j : J d e ≡ false). inr (λ q. both_ways (J d e) j q.0))
            (cases_Bool (J d e))

        from : (d : ℕ) → ((e : ℕ) × (J d e ≡ true) × Over f r c d × (rank e < rank x)) ⊎ ((e : ℕ) × (J d e ≡ true) × Over f r c d × (rank e < rank x) → ⊥)
        from d = ⊎_elim (λ q. inl (q.0, q.1.0, q.1.1, q.1.2)) (λ none. inr (λ q. none q.0 (s.few q.0 (s.within q.0 d (other_way d q.0 q.1))) (q.1, q.2, q.3)))
            (some_below 64 (λ e. (J d e ≡ true) × Over f r c d × (rank e < rank x)) (at d))

    -- every child escapes: each table has a walk to the root
    home : ((c : ℕ) → Child f D r x c → Escapes c) → (a : ℕ) → P a → (a ≡ x → ⊥) → W a r
    home esc a p ax = ⊎_elim
        (λ o. let q = the_child a p ax o in
        let c = q.0 in
        let k : Child f D r x c = q.1 in
        let t = esc c k in
        let d = t.0 in
        let e = t.1 in
        let j : J d e ≡ true = t.2 in
        let pe : P e = joined_in e d (other_way d e j) in
        let lower : rank e < rank x = t.4 in
        let nx : Over f r x e → ⊥ = λ o. ⊎_elim (λ (z : x ≡ e). let y = ap rank z in omega arith) (λ (l : rank x < rank e). omega arith) (ranks o pe) in
        join_walks (to_child c a k q.2 p)
        (join_walks (turned flip (to_child c d k t.3 (joined_in d e j)))
        (on (step d e j (below_child c d k t.3) (λ z. nx (rw z self))) (to_root e pe nx))))
        (λ n. to_root a p n)
        (over_decide f r x (search_rooted J f r S a p))

  parts_inside : (x : ℕ) → (x ≡ r → ⊥) → Articulation U J x → (c : ℕ) × Child f D r x c × Confined J f D r x c
  parts_inside x xr art = ⊎_elim (λ q. (q.0, q.1.0, q.1.1))
      (λ none. absurd (art.1 (λ a b ha hb. join_walks (walk none a ha) (turned (flip x art.0) (walk none b hb)))))
      (some_below 64 (λ c. Child f D r x c × Confined J f D r x c) at)
    where
      at : (c : ℕ) → (Child f D r x c × Confined J f D r x c) ⊎ (Child f D r x c × Confined J f D r x c → ⊥)
      at c = ⊎_elim
          (λ k. ⊎_elim (λ t. inr (λ q. let l : rank x ≤ rank t.1 = q.1 t.0 t.1 t.3 t.2 in let m : rank t.1 < rank x = t.4 in omega arith))
          (λ low. inl (k, low)) (decide_escapes x art.0 c))
          (λ n. inr (λ q. n q.0))
          (child_decide x c)

      escapes : ((c : ℕ) → c < 64 → Child f D r x c × Confined J f D r x c → ⊥) → (c : ℕ) → Child f D r x c → Escapes x art.0 c
      escapes none c k = ⊎_elim (λ t. t) (λ low. absurd (none c (s.few c (in_U c k.0)) (k, low))) (decide_escapes x art.0 c)

      walk : ((c : ℕ) → c < 64 → Child f D r x c × Confined J f D r x c → ⊥) → (a : ℕ) → without x U a ≡ true → Walk (Leads (without x U) J) a r
      walk none a ha = home x art.0 (escapes none) a (all a (without_true x U a ha).0) (without_true x U a ha).1

  parts_root : Articulation U J r → (c : ℕ) × Child f D r r c × (rank c ≡ 1 → ⊥)
  parts_root art = ⊎_elim (λ q. (q.0, q.1.0, q.1.1))
      (λ none. absurd (art.1 (λ a b ha hb.
      let p = the_child r ur a (all a (without_true r U a ha).0) (without_true r U a ha).1 (search_rooted J f r S a (all a (without_true r U a ha).0)) in
      let q = the_child r ur b (all b (without_true r U b hb).0) (without_true r U b hb).1 (search_rooted J f r S b (all b (without_true r U b hb).0)) in
      let e : p.0 ≡ q.0 = discovery_same D p.0 q.0 p.1.0 q.1.0 (first none p.0 p.1 ∙ sym (first none q.0 q.1)) in
      let w : Walk (Leads (without r U) J) q.0 b = turned (flip r ur) (to_child r ur q.0 b q.1 q.2 (all b (without_true r U b hb).0)) in
      join_walks (to_child r ur p.0 a p.1 p.2 (all a (without_true r U a ha).0)) (subst (λ y. Walk (Leads (without r U) J) y b) (sym e) w))))
      (some_below 64 (λ c. Child f D r r c × (rank c ≡ 1 → ⊥)) at)
    where
      at : (c : ℕ) → (Child f D r r c × (rank c ≡ 1 → ⊥)) ⊎ (Child f D r r c × (rank c ≡ 1 → ⊥) → ⊥)
      at c = ⊎_elim
          (λ k. ⊎_elim (λ (e : rank c ≡ 1). inr (λ q. q.1 e)) (λ ne. inl (k, ne)) (cases_eq (rank c) 1))
          (λ n. inr (λ q. n q.0))
          (child_decide r c)

      first : ((c : ℕ) → c < 64 → Child f D r r c × (rank c ≡ 1 → ⊥) → ⊥) → (c : ℕ) → Child f D r r c → rank c ≡ 1
      first none c k = ⊎_elim (λ e. e) (λ ne. absurd (none c (s.few c (in_U c k.0)) (k, ne))) (cases_eq (rank c) 1)

  pub low_cut_exactly : (x : ℕ) → Articulation U J x ↔ LowCut J f D r x
  low_cut_exactly x = (
    λ art. ⊎_elim
        (λ (e : x ≡ r). inr (e, parts_root (subst (Articulation U J) e art)))
        (λ ne. inl (ne, parts_inside x ne art))
        (cases_eq x r),
    ⊎_elim
        (λ q. cut_inside x q.0 q.1.0 q.1.1 q.1.2)
        (λ q. subst (Articulation U J) (sym q.0) (cut_root q.1.0 q.1.1 q.1.2)),
  )

pub low_cuts_exactly : LowCutsExactly
low_cuts_exactly U J f r D L s ur v all x = low_cut_exactly U J f r D L s ur v all x
