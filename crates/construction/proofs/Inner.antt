-- The steps of the replay's inner functions, over plain values: what their answers and their graphs come to.
use Rattle.std.proofs.Common.{◌≡◌, ℕ, zero, suc, ◌+◌, ◌-◌, ◌<◌, ◌≤◌, Bool, true, false, cond, not, ◌&&◌, ◌||◌, eqb, ltb, leb, [], ◌∷◌, Ok, Err, Result, sym, refl, ap, ◌∙◌, ⊎_elim, arith}
use Rattle.std.proofs.lemmas.Bool.Decides.{nat_tests}
use Rattle.std.proofs.lemmas.Bool.{cases_Bool, both_ways, not-false, ltb-true, ltb-false, eqb-false, and_parts}
use Rattle.theory.specs.Graph.{Graph, Simple, Lowest, joined, joining, is_table, size, some_join}
use Rattle.theory.specs.Build.{with_table}
use Rattle.theory.specs.declared.step.Step.TheVariants.{Edge, Node}
use Rattle.theory.specs.declared.step.Triangle.{Triangle}
use Rattle.theory.proofs.Sizes.{joining_simple, joining_size}
use Rattle.graph.specs.First.{refused_first}
use Rattle.graph.specs.Store.{join_answer, after}
use Rattle.graph.specs.declared.fault.StoreFault.{StoreFault}
use Rattle.graph.specs.declared.fault.StoreFault.TheVariants.{UnknownTable, SameTable, AlreadyJoined, NotJoined, Full}
use Rattle.graph.specs.Fault.{marked}
use Rattle.construction.specs.Replay.{start_answer, started, step_answer, step_after, close_from}
use Rattle.construction.specs.Inner.{building, left, WithinUse, edge_used, node_conditions, node_judged, held_answer, splice_conditions, splice_answer, spliced}
use Rattle.graph.specs.declared.fault.At.{At}
use Rattle.refusals.specs.declared.fault.ReplayFault.{ReplayFault}
use Rattle.refusals.specs.declared.fault.ReplayFault.TheVariants.{Store, HasJoins, NotTriangle, InUse, NotInUse, Unused}
use Rattle.construction.proofs.First.{ok_err, past, first_on, first_off}
use Rattle.construction.proofs.Joins.{all_clear, no_size, join_ok}

-- ---- a store's answer, passed on with its step

abbrev pub carried : ℕ → Result Unit StoreFault → Result Unit ReplayFault
carried k (Ok u) = Ok u
carried k (Err f) = Err (Store k f)

pub ok_back : (k : ℕ) (r : Result Unit StoreFault) (u : Unit) → marked k r ≡ Ok u → r ≡ Ok tt
ok_back k (Ok v) u e = refl
ok_back k (Err f) u e = cc

err_back : (k : ℕ) (r : Result Unit StoreFault) (a : At StoreFault) → marked k r ≡ Err a → (r ≡ Err a.fault) × (a.place ≡ k)
err_back k (Ok v) a e = cc
err_back k (Err f) a e =
    let i : record { place = k; fault = f } ≡ a = cc in
    (ap (λ (b : At StoreFault). Err b.fault) i, sym (ap (λ (b : At StoreFault). b.place) i))

module _ (k : ℕ) (r : Result Unit StoreFault) (o : Result Unit (At StoreFault)) (marks : o ≡ marked k r) where
  -- after `?`
  pub passed : (u : Unit) → o ≡ Ok u → r ≡ Ok tt
  passed u e = ok_back k r u (sym marks ∙ e)

  -- at the exit of `?`
  pub refused : (a : At StoreFault) → o ≡ Err a → r ≡ Err a.fault
  refused a e = (err_back k r a (sym marks ∙ e)).0

  pub passed_on : (a : At StoreFault) (y : ReplayFault) (final : Result Unit ReplayFault) → o ≡ Err a → final ≡ Err y → y ≡ Store a.place a.fault → final ≡ carried k r
  passed_on a y final broke gave by =
      let back = err_back k r a (sym marks ∙ broke) in
      gave ∙ ap (λ z. Err z) (by ∙ ap (λ j. Store j a.fault) back.1) ∙ sym (ap (carried k) back.0)

  pub never : (a : At StoreFault) → r ≡ Ok tt → o ≡ Err a → ⊥
  never a ok e = ok_err a.fault (sym ok ∙ refused a e)

-- the graph after an accepted edit
pub became : (m m' changed : Graph) (r : Result Unit StoreFault) → m' ≡ after r changed m → r ≡ Ok tt → m' ≡ changed
became m m' changed r e ok = e ∙ ap (λ x. after x changed m) ok

pub join_at : (m m' : Graph) (c c' a b : ℕ) → m' ≡ m → c' ≡ c → join_answer m' c' a b ≡ join_answer m c a b
join_at m m' c c' a b e h = ap (λ x. join_answer x c' a b) e ∙ ap (λ x. join_answer m x a b) h

-- ---- builds

pub same_building : (m m' : Graph) (U U' : ℕ → Bool) → m ≡ m' → ((x : ℕ) → U x ≡ U' x) → building m U ≡ building m' U'
same_building m m' U U' e h = λ i. record { graph = e i; used = λ x. h x i }

-- ---- the triangle

pub record Startable (m : Graph) (c : ℕ) (t : Triangle) : Type 0 where
  pub clear : (a b : ℕ) → m.adj a b ≡ false
  pub ab : t.a < t.b
  pub bc : t.b < t.c
  pub within : t.c < m.tables
  pub room : 3 ≤ c

pub startable : (m : Graph) (c : ℕ) (t : Triangle) → Simple m → start_answer m c t ≡ Ok tt → Startable m c t
startable m c t s h =
    let p = past (some_join m) HasJoins (refused_first ((not (ltb t.a t.b && (ltb t.b t.c && is_table m t.c)), NotTriangle) ∷ (ltb c 3, Store 0 (Full c)) ∷ [])) h in
    let q = past (not (ltb t.a t.b && (ltb t.b t.c && is_table m t.c))) NotTriangle (refused_first ((ltb c 3, Store 0 (Full c)) ∷ [])) p.1 in
    let r = past (ltb c 3) (Store 0 (Full c)) (Ok tt) q.1 in
    let all = and_parts (ltb t.a t.b) (ltb t.b t.c && is_table m t.c) (not-false (ltb t.a t.b && (ltb t.b t.c && is_table m t.c)) q.0) in
    let two = and_parts (ltb t.b t.c) (is_table m t.c) all.1 in
    record {
      clear = all_clear m s p.0;
      ab = ltb-true t.a t.b all.0;
      bc = ltb-true t.b t.c two.0;
      within = ltb-true t.c m.tables two.1;
      room = ltb-false c 3 r.0;
    }

module _ (m : Graph) (c : ℕ) (t : Triangle) (s : Simple m) (h : Startable m c t) where
  -- the three joins, each with what it leaves
  first_laid : join_answer m c t.a t.b ≡ Ok tt
  first_laid =
      let z : size m ≡ 0 = no_size m h.clear in
      let r : 3 ≤ c = h.room in
      let l : t.a < t.b = h.ab in let k : t.b < t.c = h.bc in let w : t.c < m.tables = h.within in
      join_ok m c t.a t.b (omega arith) (omega arith) (omega arith) (h.clear t.a t.b) (omega arith)

  one_simple : Simple (joining m t.a t.b)
  one_simple =
      let l : t.a < t.b = h.ab in let k : t.b < t.c = h.bc in let w : t.c < m.tables = h.within in
      joining_simple m t.a t.b (omega arith) (omega arith) (omega arith) s

  one_size : size (joining m t.a t.b) ≡ 1
  one_size =
      let z : size m ≡ 0 = no_size m h.clear in
      let l : t.a < t.b = h.ab in let k : t.b < t.c = h.bc in let w : t.c < m.tables = h.within in
      let more : size (joining m t.a t.b) ≡ size m + 1 = joining_size m t.a t.b (omega arith) (omega arith) (omega arith) s (h.clear t.a t.b) in
      omega arith

  second_free : (joining m t.a t.b).adj t.a t.c ≡ false
  second_free =
      let l : t.a < t.b = h.ab in let k : t.b < t.c = h.bc in
      let n : m.adj t.a t.c ≡ false = h.clear t.a t.c in
      grind (arith, nat_tests)

  second_laid : join_answer (joining m t.a t.b) c t.a t.c ≡ Ok tt
  second_laid =
      let z : size (joining m t.a t.b) ≡ 1 = one_size in
      let r : 3 ≤ c = h.room in
      let l : t.a < t.b = h.ab in let k : t.b < t.c = h.bc in let w : t.c < m.tables = h.within in
      join_ok (joining m t.a t.b) c t.a t.c (omega arith) (omega arith) (omega arith) second_free (omega arith)

  two_simple : Simple (joining (joining m t.a t.b) t.a t.c)
  two_simple =
      let l : t.a < t.b = h.ab in let k : t.b < t.c = h.bc in let w : t.c < m.tables = h.within in
      joining_simple (joining m t.a t.b) t.a t.c (omega arith) (omega arith) (omega arith) one_simple

  two_size : size (joining (joining m t.a t.b) t.a t.c) ≡ 2
  two_size =
      let z : size (joining m t.a t.b) ≡ 1 = one_size in
      let l : t.a < t.b = h.ab in let k : t.b < t.c = h.bc in let w : t.c < m.tables = h.within in
      let more : size (joining (joining m t.a t.b) t.a t.c) ≡ size (joining m t.a t.b) + 1
      = joining_size (joining m t.a t.b) t.a t.c (omega arith) (omega arith) (omega arith) one_simple second_free in
      omega arith

  third_free : (joining (joining m t.a t.b) t.a t.c).adj t.b t.c ≡ false
  third_free =
      let l : t.a < t.b = h.ab in let k : t.b < t.c = h.bc in
      let n : m.adj t.b t.c ≡ false = h.clear t.b t.c in
      grind (arith, nat_tests)

  third_laid : join_answer (joining (joining m t.a t.b) t.a t.c) c t.b t.c ≡ Ok tt
  third_laid =
      let z : size (joining (joining m t.a t.b) t.a t.c) ≡ 2 = two_size in
      let r : 3 ≤ c = h.room in
      let l : t.a < t.b = h.ab in let k : t.b < t.c = h.bc in let w : t.c < m.tables = h.within in
      join_ok (joining (joining m t.a t.b) t.a t.c) c t.b t.c (omega arith) (omega arith) (omega arith) third_free (omega arith)

  pub started_simple : Simple (started m t).graph
  started_simple =
      let l : t.a < t.b = h.ab in let k : t.b < t.c = h.bc in let w : t.c < m.tables = h.within in
      joining_simple (joining (joining m t.a t.b) t.a t.c) t.b t.c (omega arith) (omega arith) (omega arith) two_simple

  pub started_size : size (started m t).graph ≡ 3
  started_size =
      let z : size (joining (joining m t.a t.b) t.a t.c) ≡ 2 = two_size in
      let l : t.a < t.b = h.ab in let k : t.b < t.c = h.bc in let w : t.c < m.tables = h.within in
      let more : size (started m t).graph ≡ size (joining (joining m t.a t.b) t.a t.c) + 1
      = joining_size (joining (joining m t.a t.b) t.a t.c) t.b t.c (omega arith) (omega arith) (omega arith) two_simple third_free in
      omega arith

-- the three joins of an accepted triangle: each is accepted where those before it were made
module _ (m : Graph) (c : ℕ) (t : Triangle) (s : Simple m) (ok : start_answer m c t ≡ Ok tt) where
  pub first_goes : join_answer m c t.a t.b ≡ Ok tt
  first_goes = first_laid m c t s (startable m c t s ok)

  module _ (m₁ : Graph) (c₁ : ℕ) (r₁ : Result Unit StoreFault) (is₁ : r₁ ≡ join_answer m c t.a t.b) (meant₁ : m₁ ≡ after r₁ (joining m t.a t.b) m) (same₁ : c₁ ≡ c) where
    one_made : m₁ ≡ joining m t.a t.b
    one_made = became m m₁ (joining m t.a t.b) r₁ meant₁ (is₁ ∙ first_goes)

    pub second_goes : join_answer m₁ c₁ t.a t.c ≡ Ok tt
    second_goes = join_at (joining m t.a t.b) m₁ c c₁ t.a t.c one_made same₁ ∙ second_laid m c t s (startable m c t s ok)

    module _ (m₂ : Graph) (c₂ : ℕ) (r₂ : Result Unit StoreFault) (is₂ : r₂ ≡ join_answer m₁ c₁ t.a t.c) (meant₂ : m₂ ≡ after r₂ (joining m₁ t.a t.c) m₁) (same₂ : c₂ ≡ c₁) where
      two_made : m₂ ≡ joining (joining m t.a t.b) t.a t.c
      two_made = became m₁ m₂ (joining m₁ t.a t.c) r₂ meant₂ (is₂ ∙ second_goes) ∙ ap (λ x. joining x t.a t.c) one_made

      pub third_goes : join_answer m₂ c₂ t.b t.c ≡ Ok tt
      third_goes = join_at (joining (joining m t.a t.b) t.a t.c) m₂ c c₂ t.b t.c two_made (same₂ ∙ same₁) ∙ third_laid m c t s (startable m c t s ok)

-- ---- an edge step

edge_flat : (k v w c : ℕ) (a b e p q j f : Bool)
    → cond (a && (b && not e)) (refused_first ((not p, NotInUse k v) ∷ (not q, NotInUse k w) ∷ [])) (Ok tt) ≡ Ok tt
    → refused_first ((not a, Store k (UnknownTable v)) ∷ (not b, Store k (UnknownTable w)) ∷ (e, Store k (SameTable v)) ∷ (not p, NotInUse k v) ∷ (not q, NotInUse k w)
    ∷ (j, Store k (AlreadyJoined v w)) ∷ (f, Store k (Full c)) ∷ [])
    ≡ carried k (refused_first ((not a, UnknownTable v) ∷ (not b, UnknownTable w) ∷ (e, SameTable v) ∷ (j, AlreadyJoined v w) ∷ (f, Full c) ∷ []))
edge_flat k v w c false b e p q j f h = refl
edge_flat k v w c true false e p q j f h = refl
edge_flat k v w c true true true p q j f h = refl
edge_flat k v w c true true false false q j f h = absurd (ok_err (NotInUse k v) (sym h))
edge_flat k v w c true true false true false j f h = absurd (ok_err (NotInUse k w) (sym h))
edge_flat k v w c true true false true true true f h = refl
edge_flat k v w c true true false true true false true h = refl
edge_flat k v w c true true false true true false false h = refl

edge_stops : (k v w c : ℕ) (y : ReplayFault) (a b e p q j f : Bool)
    → cond (a && (b && not e)) (refused_first ((not p, NotInUse k v) ∷ (not q, NotInUse k w) ∷ [])) (Ok tt) ≡ Err y
    → refused_first ((not a, Store k (UnknownTable v)) ∷ (not b, Store k (UnknownTable w)) ∷ (e, Store k (SameTable v)) ∷ (not p, NotInUse k v) ∷ (not q, NotInUse k w)
    ∷ (j, Store k (AlreadyJoined v w)) ∷ (f, Store k (Full c)) ∷ [])
    ≡ Err y
edge_stops k v w c y false b e p q j f h = absurd (ok_err y h)
edge_stops k v w c y true false e p q j f h = absurd (ok_err y h)
edge_stops k v w c y true true true p q j f h = absurd (ok_err y h)
edge_stops k v w c y true true false false q j f h = h
edge_stops k v w c y true true false true false j f h = h
edge_stops k v w c y true true false true true j f h = absurd (ok_err y h)

module _ (c k : ℕ) (m : Graph) (U : ℕ → Bool) (v w : ℕ) (judged : Result Unit ReplayFault) (is : judged ≡ edge_used m.tables U k v w) where
  -- a table is not in use
  pub edge_judged : (a y : ReplayFault) (final : Result Unit ReplayFault) → judged ≡ Err a → final ≡ Err y → y ≡ a
      → final ≡ step_answer c k (building m U) (Edge v w)
  unfolding step_answer
  edge_judged a y final broke gave by =
      gave ∙ ap (λ z. Err z) by ∙ sym (edge_stops k v w c a (is_table m v) (is_table m w) (eqb v w) (U v) (U w) (joined m v w) (leb c (size m)) (sym is ∙ broke))

  module _ (ok : judged ≡ Ok tt) where
    -- both are in use, so that the store's answer is the step's
    edge_carried : step_answer c k (building m U) (Edge v w) ≡ carried k (join_answer m c v w)
    unfolding step_answer
    edge_carried = edge_flat k v w c (is_table m v) (is_table m w) (eqb v w) (U v) (U w) (joined m v w) (leb c (size m)) (sym is ∙ ok)

    -- the store refuses
    pub edge_refused : (r : Result Unit StoreFault) (final : Result Unit ReplayFault) → r ≡ join_answer m c v w → final ≡ carried k r
        → final ≡ step_answer c k (building m U) (Edge v w)
    edge_refused r final did gave = gave ∙ ap (carried k) did ∙ sym edge_carried

    pub edge_taken : (m' : Graph) (r : Result Unit StoreFault) → r ≡ join_answer m c v w → m' ≡ after r (joining m v w) m → r ≡ Ok tt
        → (Ok tt ≡ step_answer c k (building m U) (Edge v w))
        × (building m' U ≡ step_after (building m U) (Edge v w))
    unfolding step_after
    edge_taken m' r did meant took =
        (ap (carried k) (sym took ∙ did) ∙ sym edge_carried, same_building m' (joining m v w) U U (became m m' (joining m v w) r meant took) (λ _. refl))

-- ---- a node step

-- the tables of a node step are in order
pub record Named (n : ℕ) (U : ℕ → Bool) (u v w : ℕ) : Type 0 where
  pub hu : u < n
  pub hv : v < n
  pub hw : w < n
  pub uv : u ≡ v → ⊥
  pub uw : u ≡ w → ⊥
  pub vw : v ≡ w → ⊥
  pub fresh : U u ≡ false
  pub placed_v : U v ≡ true
  pub placed_w : U w ≡ true

pub well_named : (n : ℕ) (U : ℕ → Bool) (k u v w : ℕ) → node_judged n U k u v w ≡ Ok tt → Named n U u v w
well_named n U k u v w h =
    let e₁ = past (not (ltb u n)) (Store k (UnknownTable u)) _ h in
    let e₂ = past (not (ltb v n)) (Store k (UnknownTable v)) _ e₁.1 in
    let e₃ = past (not (ltb w n)) (Store k (UnknownTable w)) _ e₂.1 in
    let e₄ = past (eqb u v) (Store k (SameTable u)) _ e₃.1 in
    let e₅ = past (eqb u w) (Store k (SameTable u)) _ e₄.1 in
    let e₆ = past (eqb v w) (Store k (SameTable v)) _ e₅.1 in
    let e₇ = past (U u) (InUse k u) _ e₆.1 in
    let e₈ = past (not (U v)) (NotInUse k v) _ e₇.1 in
    let e₉ = past (not (U w)) (NotInUse k w) _ e₈.1 in
    record {
      hu = ltb-true u n (not-false (ltb u n) e₁.0);
      hv = ltb-true v n (not-false (ltb v n) e₂.0);
      hw = ltb-true w n (not-false (ltb w n) e₃.0);
      uv = eqb-false u v e₄.0;
      uw = eqb-false u w e₅.0;
      vw = eqb-false v w e₆.0;
      fresh = e₇.0;
      placed_v = not-false (U v) e₈.0;
      placed_w = not-false (U w) e₉.0;
    }

-- a table that is not in use has no joins
pub no_neighbours : (m : Graph) (U : ℕ → Bool) (u : ℕ) → WithinUse m U → U u ≡ false → (x : ℕ) → m.adj u x ≡ false
no_neighbours m U u within fresh x = ⊎_elim (λ e. absurd (both_ways (U u) fresh (within u x e))) (λ e. e) (cases_Bool (m.adj u x))

pub is_held : (m : Graph) (v w : ℕ) → held_answer m v w ≡ Ok tt → m.adj v w ≡ true
is_held m v w e = not-false (joined m v w) (past (not (joined m v w)) (NotJoined v w) (Ok tt) e).0

module _ (c k : ℕ) (m : Graph) (U : ℕ → Bool) (u v w : ℕ) (judged : Result Unit ReplayFault) (is : judged ≡ node_judged m.tables U k u v w) where
  -- the tables are refused
  pub node_refused : (a y : ReplayFault) (final : Result Unit ReplayFault) → judged ≡ Err a → final ≡ Err y → y ≡ a
      → final ≡ step_answer c k (building m U) (Node u v w)
  unfolding step_answer
  node_refused a y final broke gave by =
      gave ∙ ap (λ z. Err z) by ∙ sym (first_off (node_conditions m.tables U k u v w) (splice_conditions m c k v w) a (sym is ∙ broke))

  module _ (ok : judged ≡ Ok tt) where
    -- the tables are accepted, so that the answer on the joins is the step's
    node_on : step_answer c k (building m U) (Node u v w) ≡ splice_answer m c k v w
    unfolding step_answer
    node_on = first_on (node_conditions m.tables U k u v w) (splice_conditions m c k v w) (sym is ∙ ok)

    -- the joins are refused
    pub node_full : (r : Result Unit ReplayFault) (a y : ReplayFault) (final : Result Unit ReplayFault)
        → r ≡ splice_answer m c k v w → r ≡ Err a → final ≡ Err y → y ≡ a
        → final ≡ step_answer c k (building m U) (Node u v w)
    node_full r a y final did broke gave by = gave ∙ ap (λ z. Err z) by ∙ sym broke ∙ did ∙ sym node_on

    pub node_taken : (m' : Graph) (U' : ℕ → Bool) (r : Result Unit ReplayFault)
        → r ≡ splice_answer m c k v w → m' ≡ left r (spliced m u v w) m → r ≡ Ok tt
        → m.tables ≤ 64 → ((x : ℕ) → U' x ≡ ((eqb x u && ltb x 64) || U x))
        → (Ok tt ≡ step_answer c k (building m U) (Node u v w))
        × (building m' U' ≡ step_after (building m U) (Node u v w))
    unfolding step_after
    node_taken m' U' r did meant took few put =
        (sym took ∙ did ∙ sym node_on, same_building m' (spliced m u v w) U' (with_table u U) (meant ∙ ap (λ z. left z (spliced m u v w) m) took) put_in)
      where
        put_in : (x : ℕ) → U' x ≡ with_table u U x
        put_in x = let here = put x in let l : u < m.tables = (well_named m.tables U k u v w (sym is ∙ ok)).hu in grind (arith, nat_tests)

-- ---- the close

pub close_more : (n t : ℕ) (U : ℕ → Bool) → t < n → U t ≡ true → close_from t (n - t) U ≡ close_from (t + 1) (n - (t + 1)) U
close_more n t U l up =
    let e : n - t ≡ suc (n - (t + 1)) = omega arith in
    ap (λ k. close_from t k U) e ∙ ap (λ b. cond b (close_from (t + 1) (n - (t + 1)) U) (Err (Unused t))) up

pub close_stops : (n t : ℕ) (U : ℕ → Bool) → t < n → U t ≡ false → close_from t (n - t) U ≡ Err (Unused t)
close_stops n t U l down =
    let e : n - t ≡ suc (n - (t + 1)) = omega arith in
    ap (λ k. close_from t k U) e ∙ ap (λ b. cond b (close_from (t + 1) (n - (t + 1)) U) (Err (Unused t))) down

pub close_ends : (n t : ℕ) (U : ℕ → Bool) → n ≤ t → close_from t (n - t) U ≡ Ok tt
close_ends n t U l = let e : n - t ≡ 0 = omega arith in ap (λ k. close_from t k U) e

-- all tables below t are in use
close_at : (n t : ℕ) (U : ℕ → Bool) → t ≤ n → ((k : ℕ) → k < t → U k ≡ true) → close_from 0 n U ≡ close_from t (n - t) U
close_at n zero U l up = let e : n ≡ n - 0 = omega arith in ap (λ k. close_from 0 k U) e
close_at n (suc t) U l up =
    let e : t + 1 ≡ suc t = omega arith in
    close_at n t U (omega arith) (λ k h. up k (omega arith)) ∙ close_more n t U (omega arith) (up t (omega arith)) ∙ ap (λ k. close_from k (n - k) U) e

-- V are the tables below n, and W those of them that are not in use
module _ (n : ℕ) (U V W : ℕ → Bool) (few : n ≤ 64) (all : (x : ℕ) → V x ≡ (ltb x n && ltb x 64)) (unused : (x : ℕ) → W x ≡ (V x && not (U x))) where
  looked : (k : ℕ) → k < n → W k ≡ false → U k ≡ true
  looked k h none = let a = all k in let b = unused k in grind (arith, nat_tests)

  pub close_some : (t : ℕ) → Lowest W 0 t → Err (Unused t) ≡ close_from 0 n U
  close_some t first =
      let a = all t in
      let b = unused t in
      let c = first.holds in
      let l : t < n = ltb-true t n (grind (arith, nat_tests)) in
      let down : U t ≡ false = grind (arith, nat_tests) in
      sym (close_at n t U (omega arith) (λ k h. looked k (omega arith) (first.none k (omega arith) h)) ∙ close_stops n t U l down)

  pub close_none : ((x : ℕ) → 0 ≤ x → W x ≡ false) → Ok tt ≡ close_from 0 n U
  close_none none = sym (close_at n n U (omega arith) (λ k h. looked k h (none k (omega arith))) ∙ close_ends n n U (omega arith))
