-- A search finds exactly what walks of joins lead to, and so which tables hold a graph together.
--
--   walk_reached, reached_walk, reached_exactly
--                                         the tables discovered are those that joins lead to
--   unreached_none, connected_unreached   no table of U is unreached exactly where U is connected
--   unreached_some                        else the lowest that joins do not lead to is found
--   connected_decide                      connected or not
--   separates_true, true_separates, separates_exactly
--                                         the articulation tables
--   separating_none, no_separating, separating_some
--                                         the lowest articulation table is found, or there is none
--   whole_biconnected, fit_biconnected    connected without articulation tables: connected without any one table
--   connected_seen                        on a connected graph a search discovers exactly its tables
--   fit_hangs, fit_hangs_in               a fit graph hangs on the tree of its search
use Rattle.std.proofs.Common.{◌≡◌, ℕ, ◌<◌, Bool, true, false, not, ◌&&◌, ◌⊎◌, List, [], ◌∷◌, Some, None, sym, refl, ap, ◌∙◌, inl, inr, ⊎_elim, arith}
use Rattle.std.specs.Cmp.{both_ways as same_test}
use Rattle.std.proofs.lemmas.Bool.{cases_Bool, both_ways, false≢true}
use Rattle.theory.specs.Graph.{Lowest}
use Rattle.disassembly.specs.Walks.{Leads, Reaches, Connected, without, Articulation, SimpleOn}
use Rattle.disassembly.specs.Search.{has, fresh, discovery, lowest_from, Visit, begin, discover, leave, searched}
use Rattle.disassembly.specs.Tree.{Hangs}
use Rattle.disassembly.specs.Reach.{is_some, reached, lowest_unreached, parted_from, separates, lowest_separating}
use Rattle.disassembly.specs.Laws.{Fit, ReachedExactly, SeparatesExactly}
use Rattle.disassembly.proofs.Walks.{join_walks, bind, turned, one, Biconnected, linked_like, connected_linked, without_true}
use Rattle.disassembly.proofs.Members.{has_cases, has_more, has_head, lowest_cases, lowest_some, lowest_none, none_is}
use Rattle.disassembly.proofs.Visits.{fresh_true, visit_hops, visit_links, visit_in, visit_search}
use Rattle.disassembly.proofs.Searches.{ends_visit}
use Rattle.disassembly.proofs.Low.{search_hangs}

-- ---- the joins within a set

-- tables V of a graph that may have more, and the joins of the whole
module _ (V : ℕ → Bool) (J : ℕ → ℕ → Bool) (few : (a : ℕ) → V a ≡ true → a < 64) (same : (a b : ℕ) → J a b ≡ J b a) (no_loop : (a : ℕ) → J a a ≡ false) where
  abbrev inner : ℕ → ℕ → Bool
  inner a b = J a b && (V a && V b)

  inner_true : (a b : ℕ) → inner a b ≡ true → Leads V J a b
  inner_true a b h = grind arith

  true_inner : (a b : ℕ) → Leads V J a b → inner a b ≡ true
  true_inner a b l = let x = l.0 in let y = l.1 in let z = l.2 in grind arith

  inner_simple : SimpleOn V inner
  inner_simple = record {
    few = few;
    symmetric = λ a b. let e = same a b in grind arith;
    loopless = λ a. let e = no_loop a in grind arith;
    within = λ a b h. (inner_true a b h).1;
  }

  inner_fresh : (D : List ℕ) (t y : ℕ) → V t ≡ true → fresh V inner D t y ≡ fresh V J D t y
  inner_fresh D t y h = grind arith

  module _ (f : ℕ → ℕ) (r : ℕ) (vr : V r ≡ true) where
    -- a search never leaves V, so the joins within V are all that it sees
    record Inner (st D L : List ℕ) : Type 0 where
      visits : Visit V inner f r st D L
      all : (x : ℕ) → has st x ≡ true → V x ≡ true

    visit_inner : {st D L : List ℕ} → Visit V J f r st D L → Inner st D L
    visit_inner begin = record { visits = begin; all = λ x h. ⊎_elim (λ e. rw e vr) (λ k. absurd (false≢true k)) (has_cases r [] x h) }
    visit_inner (discover {t = t} {u = u} {stack = st} {seen = D} v low e) =
        let i = visit_inner v in
        let vt : V t ≡ true = i.all t (has_head t st) in
        record {
          visits = discover i.visits (record {
            holds = inner_fresh D t u vt ∙ low.holds;
            above = low.above;
            none = λ j a b. inner_fresh D t j vt ∙ low.none j a b;
          }) e;
          all = λ x h. ⊎_elim (λ q. rw q (fresh_true V J D t u low.holds).1) (λ k. i.all x k) (has_cases u (t ∷ st) x h);
        }
    visit_inner (leave {t = t} {stack = st} {seen = D} v c) =
        let i = visit_inner v in
        record {
          visits = leave i.visits (λ y. inner_fresh D t y (i.all t (has_head t st)) ∙ c y);
          all = λ x h. i.all x (has_more t st x h);
        }

  module _ (r : ℕ) (vr : V r ≡ true) where
    found : Visit V inner (searched V J r).parent r [] (searched V J r).seen (searched V J r).left
    found = (visit_inner (searched V J r).parent r vr (ends_visit V J few r vr)).visits

    pub walk_reached : (x : ℕ) → Reaches V J r x → reached V J r x ≡ true
    unfolding reached
    walk_reached x w = visit_hops V inner (searched V J r).parent r inner_simple found x (bind (λ c d l. one (true_inner c d l, l.1, l.2)) w)

    pub reached_walk : (x : ℕ) → reached V J r x ≡ true → Reaches V J r x
    unfolding reached
    reached_walk x h = bind (λ c d l. one (inner_true c d l.0)) (visit_links V inner (searched V J r).parent r inner_simple found x h)

    abbrev missed : ℕ → Bool
    missed x = V x && not (reached V J r x)

    missed_not : (x : ℕ) → V x ≡ true → missed x ≡ false → reached V J r x ≡ true
    missed_not x v h = grind arith

    missed_is : (x : ℕ) → reached V J r x ≡ true → missed x ≡ false
    missed_is x h = grind arith

    missed_true : (x : ℕ) → missed x ≡ true → (V x ≡ true) × (reached V J r x ≡ false)
    missed_true x h = grind arith

    turn : (c d : ℕ) → Leads V J c d → Leads V J d c
    turn c d l = (same d c ∙ l.0, l.2, l.1)

    pub all_reached : lowest_unreached V J r ≡ None → Connected V J
    all_reached e a b va vb = join_walks (turned turn (to a va)) (to b vb)
      where
        to : (x : ℕ) → V x ≡ true → Reaches V J r x
        to x v = reached_walk x (missed_not x v (lowest_none 0 64 missed e x (omega arith) (omega (arith, few x v))))

    pub connected_all : Connected V J → lowest_unreached V J r ≡ None
    connected_all c = none_is 0 64 missed (λ x _ _. at x)
      where
        at : (x : ℕ) → missed x ≡ false
        at x = ⊎_elim (λ (v : V x ≡ true). missed_is x (walk_reached x (c r x vr v))) (λ (v : V x ≡ false). outside x v) (cases_Bool (V x))
          where
            outside : (x : ℕ) → V x ≡ false → missed x ≡ false
            outside x v = grind arith

    pub some_unreached : (x : ℕ) → lowest_unreached V J r ≡ Some x → (V x ≡ true) × (Reaches V J r x → ⊥) × ((y : ℕ) → y < x → V y ≡ true → Reaches V J r y)
    some_unreached x e =
        let low : Lowest missed 0 x = (lowest_some 0 64 missed x e).0 in
        let q = missed_true x low.holds in
        (q.0, λ w. both_ways (reached V J r x) q.1 (walk_reached x w), λ y l v. reached_walk y (missed_not y v (low.none y (omega arith) l)))

  -- connected or not, by a search from the lowest table
  pub connected_decide : Connected V J ⊎ ((r : ℕ) × (y : ℕ) × (lowest_from 0 64 V ≡ Some r) × (lowest_unreached V J r ≡ Some y) × (Connected V J → ⊥))
  connected_decide = ⊎_elim
      (λ q. let r = q.0 in
      let vr : V r ≡ true = (lowest_some 0 64 V r q.1).0.holds in
      ⊎_elim (λ m. let y = m.0 in inr (r, y, q.1, m.1, λ c. let k = some_unreached r vr y m.1 in k.1 (c r y vr k.0)))
      (λ e. inl (all_reached r vr e)) (lowest_cases 0 64 (λ x. V x && not (reached V J r x))))
      (λ e. inl (λ a b va vb. absurd (both_ways (V a) (lowest_none 0 64 V e a (omega arith) (omega (arith, few a va))) va)))
      (lowest_cases 0 64 V)

-- ---- a simple graph

pub reached_exactly : ReachedExactly
reached_exactly U J r s ur x = (reached_walk U J s.few s.symmetric s.loopless r ur x, walk_reached U J s.few s.symmetric s.loopless r ur x)

module _ (U : ℕ → Bool) (J : ℕ → ℕ → Bool) (s : SimpleOn U J) where
  pub unreached_none : (r : ℕ) → U r ≡ true → lowest_unreached U J r ≡ None → Connected U J
  unreached_none r ur = all_reached U J s.few s.symmetric s.loopless r ur

  pub connected_unreached : (r : ℕ) → U r ≡ true → Connected U J → lowest_unreached U J r ≡ None
  connected_unreached r ur = connected_all U J s.few s.symmetric s.loopless r ur

  pub unreached_some : (r : ℕ) → U r ≡ true → (x : ℕ) → lowest_unreached U J r ≡ Some x
      → (U x ≡ true) × (Reaches U J r x → ⊥) × ((y : ℕ) → y < x → U y ≡ true → Reaches U J r y)
  unreached_some r ur = some_unreached U J s.few s.symmetric s.loopless r ur

  few_without : (x a : ℕ) → without x U a ≡ true → a < 64
  few_without x a h = s.few a (without_true x U a h).0

  abbrev Parts : ℕ → Type 0
  Parts x = (r : ℕ) × (y : ℕ) × (lowest_from 0 64 (without x U) ≡ Some r) × (lowest_unreached (without x U) J r ≡ Some y) × (Connected (without x U) J → ⊥)

  decide_without : (x : ℕ) → Connected (without x U) J ⊎ Parts x
  decide_without x = connected_decide (without x U) J (few_without x) s.symmetric s.loopless

  pub separates_true : (x : ℕ) → Articulation U J x → separates U J x ≡ true
  unfolding separates
  separates_true x a = ⊎_elim (λ c. absurd (a.1 c)) (λ q. by q.0 q.1 a.0 q.2 q.3) (decide_without x)
    where
      by : (r y : ℕ) → U x ≡ true → lowest_from 0 64 (without x U) ≡ Some r → lowest_unreached (without x U) J r ≡ Some y
          → (U x && parted_from (without x U) J (lowest_from 0 64 (without x U))) ≡ true
      by r y u e d = ap (λ b. b && parted_from (without x U) J (lowest_from 0 64 (without x U))) u ∙ ap (parted_from (without x U) J) e ∙ ap is_some d

  pub true_separates : (x : ℕ) → separates U J x ≡ true → Articulation U J x
  unfolding separates
  true_separates x h = (in_use, λ c. ⊎_elim (λ q. from q.0 c q.1) (λ e. both_ways false refl (sym (ap (parted_from (without x U) J) e) ∙ parts)) (lowest_cases 0 64 (without x U)))
    where
      first : (a b : Bool) → (a && b) ≡ true → a ≡ true
      first a b k = grind arith

      second : (a b : Bool) → (a && b) ≡ true → b ≡ true
      second a b k = grind arith

      in_use : U x ≡ true
      in_use = first (U x) (parted_from (without x U) J (lowest_from 0 64 (without x U))) h

      parts : parted_from (without x U) J (lowest_from 0 64 (without x U)) ≡ true
      parts = second (U x) (parted_from (without x U) J (lowest_from 0 64 (without x U))) h

      from : (r : ℕ) → Connected (without x U) J → lowest_from 0 64 (without x U) ≡ Some r → ⊥
      from r c e =
          let vr : without x U r ≡ true = (lowest_some 0 64 (without x U) r e).0.holds in
          let none : lowest_unreached (without x U) J r ≡ None = connected_all (without x U) J (few_without x) s.symmetric s.loopless r vr c in
          false≢true (sym (ap is_some none) ∙ sym (ap (parted_from (without x U) J) e) ∙ parts)

  pub separating_none : lowest_separating U J ≡ None → (x : ℕ) → Articulation U J x → ⊥
  separating_none e x a = both_ways (separates U J x) (lowest_none 0 64 (separates U J) e x (omega arith) (omega (arith, s.few x a.0))) (separates_true x a)

  pub no_separating : ((x : ℕ) → Articulation U J x → ⊥) → lowest_separating U J ≡ None
  no_separating h = none_is 0 64 (separates U J) (λ x _ _. ⊎_elim (λ t. absurd (h x (true_separates x t))) (λ f. f) (cases_Bool (separates U J x)))

  pub separating_some : (x : ℕ) → lowest_separating U J ≡ Some x → Articulation U J x × ((y : ℕ) → y < x → Articulation U J y → ⊥)
  separating_some x e =
      let low : Lowest (separates U J) 0 x = (lowest_some 0 64 (separates U J) x e).0 in
      (true_separates x low.holds, λ y l a. both_ways (separates U J y) (low.none y (omega arith) l) (separates_true y a))

  pub whole_biconnected : Connected U J → ((x : ℕ) → Articulation U J x → ⊥) → Biconnected (λ a. U a ≡ true) (λ a b. J a b ≡ true)
  whole_biconnected c no_cut x = ⊎_elim
      (λ (u : U x ≡ true). connected_linked U J x (⊎_elim (λ k. k) (λ q. absurd (no_cut x (u, q.4))) (decide_without x)))
      (λ (u : U x ≡ false). linked_like (λ a p. (p, λ (e : a ≡ x). both_ways (U x) u (rw e at p))) (λ a p. p.0) c)
      (cases_Bool (U x))

  -- ---- a fit graph

  pub fit_biconnected : Fit U J → Biconnected (λ a. U a ≡ true) (λ a b. J a b ≡ true)
  fit_biconnected fit = whole_biconnected fit.connected fit.no_articulation

  module _ (f : ℕ → ℕ) (r : ℕ) (ur : U r ≡ true) {D L : List ℕ} (v : Visit U J f r [] D L) (c : Connected U J) where
    -- the search discovers exactly the tables of U
    pub connected_seen : (x : ℕ) → has D x ≡ U x
    connected_seen x = same_test (has D x) (U x) (visit_in U J f r s ur v x) (λ u. visit_hops U J f r s v x (c r x ur u))

  pub fit_hangs : Fit U J → (f : ℕ → ℕ) (r : ℕ) → U r ≡ true → {D L : List ℕ} → Visit U J f r [] D L
      → Hangs (λ a. has D a ≡ true) (λ a b. J a b ≡ true) f r (discovery D)
  fit_hangs fit f r ur {D} v =
      let all = connected_seen f r ur v fit.connected in
      search_hangs J f r D (visit_search U J f r s v) (λ a b j. s.symmetric b a ∙ j)
      (λ a b j (e : a ≡ b). both_ways (J a a) (s.loopless a) (rw e (rw e at j)))
      (λ a b j. all a ∙ s.within a b j)
      (λ x. linked_like (λ a p. (all a ∙ p.0, p.1)) (λ a p. (sym (all a) ∙ p.0, p.1)) (fit_biconnected fit x))

  pub fit_hangs_in : Fit U J → (f : ℕ → ℕ) (r : ℕ) → U r ≡ true → {D L : List ℕ} → Visit U J f r [] D L
      → Hangs (λ a. U a ≡ true) (λ a b. J a b ≡ true) f r (discovery D)
  fit_hangs_in fit f r ur {D} v =
      let all = connected_seen f r ur v fit.connected in
      let h = fit_hangs fit f r ur v in
      record {
        same = h.same;
        apart = h.apart;
        within = λ a b j. s.within a b j;
        root = ur;
        rooted = λ x u. h.rooted x (all x ∙ u);
        climbs = λ x u n. sym (all (f x)) ∙ h.climbs x (all x ∙ u) n;
        rises = λ x u. h.rises x (all x ∙ u);
        tree = λ x u. h.tree x (all x ∙ u);
        no_cross = h.no_cross;
        low = λ x u. h.low x (all x ∙ u);
        one_son = λ x y u w. h.one_son x y (all x ∙ u) (all y ∙ w);
      }

pub separates_exactly : SeparatesExactly
separates_exactly U J s x = (true_separates U J s x, separates_true U J s x)
