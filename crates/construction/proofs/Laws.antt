-- What a replay amounts to: it accepts exactly the legal builds, and refuses at the first step that is not allowed, or at
-- the close the lowest table not in use.
use Rattle.std.proofs.Common.{◌≡◌, ℕ, zero, suc, ◌+◌, ◌-◌, ◌<◌, ◌≤◌, Bool, true, false, cond, not, ◌&&◌, ◌||◌, eqb, ltb, leb, ◌⊎◌, List, [], ◌∷◌, ◌++◌, length, take, drop, Ok, Err, Result, sym, refl, ap, ◌∙◌, subst, inl, inr, ⊎_elim, arith}
use Rattle.std.proofs.lemmas.Bool.{cases_Bool, cases_eq, cases_lt, ltb-true, lt-ltb, le-ltb, eq-eqb, or_left, or_right}
use Rattle.theory.specs.Graph.{Graph, Simple, Lowest, joined, is_table, table_count, size, some_join, no_joins}
use Rattle.theory.specs.Build.{Part, Allowed, after, Builds, triangle, whole, LegalBuild}
use Rattle.theory.specs.Build.Builds.{done, next}
use Rattle.theory.specs.declared.step.Step.{Step}
use Rattle.theory.specs.declared.step.Step.TheVariants.{Edge, Node}
use Rattle.theory.specs.declared.step.Triangle.{Triangle}
use Rattle.graph.specs.First.{refused_first}
use Rattle.graph.specs.declared.fault.StoreFault.TheVariants.{UnknownTable, SameTable, AlreadyJoined, NotJoined, Full}
use Rattle.refusals.specs.Fault.{replay_number, replay_step}
use Rattle.construction.specs.Replay.{Building, Played, start_answer, started, step_answer, step_after, close_from, close_answer, onward, steps_from, replayed}
use Rattle.construction.specs.Inner.{node_conditions, splice_conditions}
use Rattle.construction.specs.Law.{AcceptedExactly, AcceptedWithRoom, conditions, RefusedAtFirst, UnusedTold, StartTold}
use Rattle.refusals.specs.declared.fault.ReplayFault.{ReplayFault}
use Rattle.refusals.specs.declared.fault.ReplayFault.TheVariants.{Store, HasJoins, NotTriangle, InUse, NotInUse, Unused}
use Rattle.construction.proofs.First.{ok_err}
use Rattle.construction.proofs.Joins.{no_size}
use Rattle.construction.proofs.Inner.{Startable, startable, started_size}
use Rattle.construction.proofs.Going.{Going, started_going, Fits, answer_fits, fits_answer, step_going, step_size, step_tables, part_of, part_after, fits_allowed, allowed_fits}
use Rattle.construction.proofs.Plays.{begun, not_begun}

-- ---- answers, and legal builds taken apart

cases_answer : (r : Result Unit ReplayFault) → (r ≡ Ok tt) ⊎ ((f : ReplayFault) × (r ≡ Err f))
cases_answer (Ok u) = inl refl
cases_answer (Err f) = inr (f, refl)

no_steps : {p q : Part} → Builds p [] q → p ≡ q
no_steps done = refl

one_step : {p q : Part} {s : Step} {l : List Step} → Builds p (s ∷ l) q → Allowed s p × Builds (after s p) l q
one_step (next a rest) = (a, rest)

-- no step takes a table out of use
after_used : (s : Step) (p : Part) (x : ℕ) → p.in_use x ≡ true → (after s p).in_use x ≡ true
after_used (Edge v w) p x e = e
after_used (Node u v w) p x e = or_right (eqb u x) (p.in_use x) e

stays_used : (p q : Part) (l : List Step) (x : ℕ) → Builds p l q → p.in_use x ≡ true → q.in_use x ≡ true
stays_used p q [] x h e = ap (λ (r : Part). r.in_use x) (sym (no_steps h)) ∙ e
stays_used p q (s ∷ l) x h e = stays_used (after s p) q l x (one_step h).1 (after_used s p x e)

-- ---- a step of a legal build that ends in a whole graph of as many tables

module _ (b : Building) (s : Step) (l : List Step) (g : Graph) (n : g.tables ≡ b.graph.tables) (h : Going b) (built : Builds (part_of b) (s ∷ l) (whole g)) where
  legal_fits : Fits b s
  legal_fits = allowed_fits b s h (one_step built).0
      (λ x e. let t : x < g.tables = ltb-true x g.tables (stays_used (after s (part_of b)) (whole g) l x (one_step built).1 e) in omega arith)

  legal_rest : Builds (part_of (step_after b s)) l (whole g)
  legal_rest = subst (λ p. Builds p l (whole g)) (part_after b s legal_fits) (one_step built).1

  legal_going : Going (step_after b s)
  legal_going = step_going b s h legal_fits

  legal_tables : g.tables ≡ (step_after b s).graph.tables
  legal_tables = n ∙ sym (step_tables b s)

-- each step adds one join
built_size : (l : List Step) (b : Building) (g : Graph) → g.tables ≡ b.graph.tables → Going b → Builds (part_of b) l (whole g) → size g ≡ size b.graph + length l
built_size [] b g n h built =
    let back : whole g ≡ part_of b = sym (no_steps built) in
    let e : g ≡ b.graph = λ i. record { tables = n i; adj = (back i).joins } in
    let z : size g ≡ size b.graph = ap size e in
    omega arith
built_size (s ∷ l) b g n h built =
    let ih : size g ≡ size (step_after b s).graph + length l
    = built_size l (step_after b s) g (legal_tables b s l g n h built) (legal_going b s l g n h built) (legal_rest b s l g n h built) in
    let more : size (step_after b s).graph ≡ size b.graph + 1 = step_size b s h (legal_fits b s l g n h built) in
    omega arith

-- ---- the close

all_used : (k n : ℕ) (U : ℕ → Bool) → ((x : ℕ) → k ≤ x → x < k + n → U x ≡ true) → close_from k n U ≡ Ok tt
all_used k zero U h = refl
all_used k (suc n) U h =
    ap (λ v. cond v (close_from (k + 1) n U) (Err (Unused k))) (h k (omega arith) (omega arith))
    ∙ all_used (k + 1) n U (λ x a b. h x (omega arith) (omega arith))

used_all : (k n : ℕ) (U : ℕ → Bool) → close_from k n U ≡ Ok tt → (x : ℕ) → k ≤ x → x < k + n → U x ≡ true
used_all k zero U e x a b = absurd (omega arith)
used_all k (suc n) U e x a b =
    let both = first_up (U k) (close_from (k + 1) n U) e in
    ⊎_elim (λ (q : x ≡ k). ap U q ∙ both.0) (λ (ne : x ≡ k → ⊥). used_all (k + 1) n U both.1 x (omega arith) (omega arith)) (cases_eq x k)
  where
    first_up : (v : Bool) (r : Result Unit ReplayFault) → cond v r (Err (Unused k)) ≡ Ok tt → (v ≡ true) × (r ≡ Ok tt)
    first_up true r h = (refl, h)
    first_up false r h = absurd (ok_err (Unused k) (sym h))

-- a refusal at the close names the lowest table not in use
record Closing (k n : ℕ) (U : ℕ → Bool) (f : ReplayFault) : Type 0 where
  table : ℕ
  is : f ≡ Unused table
  below : table < k + n
  lowest : Lowest (λ y. not (U y)) k table

closing : (k n : ℕ) (U : ℕ → Bool) (f : ReplayFault) → close_from k n U ≡ Err f → Closing k n U f
closing k zero U f e = absurd (ok_err f e)
closing k (suc n) U f e =
    ⊎_elim
    (λ up.
    let r = closing (k + 1) n U f (sym (ap (λ v. cond v (close_from (k + 1) n U) (Err (Unused k))) up) ∙ e) in
    let near : r.table < k + 1 + n = r.below in
    let past : k + 1 ≤ r.table = r.lowest.above in
    record {
      table = r.table;
      is = r.is;
      below = omega arith;
      lowest = record {
        holds = r.lowest.holds;
        above = omega arith;
        none = λ y a b.
            ⊎_elim (λ (q : y ≡ k). ap (λ z. not (U z)) q ∙ ap not up) (λ (ne : y ≡ k → ⊥). r.lowest.none y (omega arith) b) (cases_eq y k);
      };
    })
    (λ down.
    let z : Err (Unused k) ≡ Err f = sym (ap (λ v. cond v (close_from (k + 1) n U) (Err (Unused k))) down) ∙ e in
    record {
      table = k;
      is = cc;
      below = omega arith;
      lowest = record { holds = ap not down; above = omega arith; none = λ y a b. absurd (omega arith) };
    })
    (cases_Bool (U k))

-- and no step
close_step : (k n : ℕ) (U : ℕ → Bool) (f : ReplayFault) → close_from k n U ≡ Err f → replay_step f ≡ 0
close_step k n U f e = ap replay_step (closing k n U f e).is

-- all tables are in use where the close accepts, and then the build is whole
closed_whole : (b : Building) → Going b → close_answer b ≡ Ok tt → part_of b ≡ whole b.graph
closed_whole b h e = λ i. record { in_use = λ x. same x i; joins = b.graph.adj }
  where
    same : (x : ℕ) → b.used x ≡ is_table b.graph x
    same x =
        ⊎_elim
        (λ (l : x < b.graph.tables). used_all 0 b.graph.tables b.used e x (omega arith) (omega arith) ∙ sym (lt-ltb x b.graph.tables l))
        (λ (l : b.graph.tables ≤ x).
        ⊎_elim (λ u. let t : x < b.graph.tables = h.tables x u in absurd (omega arith)) (λ u. u ∙ sym (le-ltb x b.graph.tables l)) (cases_Bool (b.used x)))
        (cases_lt x b.graph.tables)

whole_closed : (b : Building) (g : Graph) → g.tables ≡ b.graph.tables → part_of b ≡ whole g → close_answer b ≡ Ok tt
whole_closed b g n e =
    all_used 0 b.graph.tables b.used
    (λ x _ l. ap (λ (p : Part). p.in_use x) e ∙ lt-ltb x g.tables (omega arith))

-- ---- the steps

module _ (c k : ℕ) (b : Building) (s : Step) (l : List Step) where
  on : step_answer c k b s ≡ Ok tt → steps_from c k b (s ∷ l) ≡ steps_from c (k + 1) (step_after b s) l
  unfolding steps_from
  on ok = ap (λ r. onward r b.graph (steps_from c (k + 1) (step_after b s) l)) ok

  off : (f : ReplayFault) → step_answer c k b s ≡ Err f → steps_from c k b (s ∷ l) ≡ record { told = Err f; graph = b.graph }
  unfolding steps_from
  off f e = ap (λ r. onward r b.graph (steps_from c (k + 1) (step_after b s) l)) e

at_end : (c k : ℕ) (b : Building) → steps_from c k b [] ≡ record { told = close_answer b; graph = b.graph }
unfolding steps_from
at_end c k b = refl

abbrev told_of : Played → Result Unit ReplayFault
told_of p = p.told

abbrev graph_of : Played → Graph
graph_of p = p.graph

played_tables : (c k : ℕ) (b : Building) (l : List Step) → (steps_from c k b l).graph.tables ≡ b.graph.tables
played_tables c k b [] = ap (λ p. (graph_of p).tables) (at_end c k b)
played_tables c k b (s ∷ l) =
    ⊎_elim
    (λ ok. ap (λ p. (graph_of p).tables) (on c k b s l ok) ∙ played_tables c (k + 1) (step_after b s) l ∙ step_tables b s)
    (λ bad. ap (λ p. (graph_of p).tables) (off c k b s l bad.0 bad.1))
    (cases_answer (step_answer c k b s))

-- accepted steps are a legal build of the graph that is left
played_builds : (c k : ℕ) (b : Building) (l : List Step) → Going b → (steps_from c k b l).told ≡ Ok tt → Builds (part_of b) l (whole (steps_from c k b l).graph)
played_builds c k b [] h e =
    let z = at_end c k b in
    subst (λ (p : Part). Builds (part_of b) [] p)
    (closed_whole b h (sym (ap told_of z) ∙ e) ∙ ap (λ p. whole (graph_of p)) (sym z))
    done
played_builds c k b (s ∷ l) h e =
    ⊎_elim
    (λ ok.
    let z = on c k b s l ok in
    let f = (answer_fits c k b s ok).0 in
    next (fits_allowed b s f)
    (subst (λ p. Builds p l (whole (steps_from c k b (s ∷ l)).graph)) (sym (part_after b s f))
    (subst (λ q. Builds (part_of (step_after b s)) l (whole (graph_of q))) (sym z)
    (played_builds c (k + 1) (step_after b s) l (step_going b s h f) (sym (ap told_of z) ∙ e)))))
    (λ bad. absurd (ok_err bad.0 (sym e ∙ ap told_of (off c k b s l bad.0 bad.1))))
    (cases_answer (step_answer c k b s))

-- where the steps are a legal build of the graph that is left, they are accepted: a refusal would leave steps that add joins
builds_played : (c k : ℕ) (b : Building) (l : List Step) → Going b → Builds (part_of b) l (whole (steps_from c k b l).graph) → (steps_from c k b l).told ≡ Ok tt
builds_played c k b [] h built =
    let z = at_end c k b in
    ap told_of z ∙ whole_closed b (steps_from c k b []).graph (played_tables c k b []) (no_steps built)
builds_played c k b (s ∷ l) h built =
    let n = played_tables c k b (s ∷ l) in
    ⊎_elim
    (λ ok.
    let z = on c k b s l ok in
    ap told_of z
    ∙ builds_played c (k + 1) (step_after b s) l (legal_going b s l (steps_from c k b (s ∷ l)).graph n h built)
    (subst (λ q. Builds (part_of (step_after b s)) l (whole (graph_of q))) z (legal_rest b s l (steps_from c k b (s ∷ l)).graph n h built)))
    (λ bad.
    let z : size (steps_from c k b (s ∷ l)).graph ≡ size b.graph = ap (λ q. size (graph_of q)) (off c k b s l bad.0 bad.1) in
    let more : size (steps_from c k b (s ∷ l)).graph ≡ size b.graph + suc (length l) = built_size (s ∷ l) b (steps_from c k b (s ∷ l)).graph n h built in
    absurd (omega arith))
    (cases_answer (step_answer c k b s))

-- with room for all joins, every legal build is accepted
room_played : (c k : ℕ) (b : Building) (l : List Step) (g : Graph) → g.tables ≡ b.graph.tables → Going b → Builds (part_of b) l (whole g)
    → size b.graph + length l ≤ c → (steps_from c k b l).told ≡ Ok tt
room_played c k b [] g n h built room = ap told_of (at_end c k b) ∙ whole_closed b g n (no_steps built)
room_played c k b (s ∷ l) g n h built room =
    let f = legal_fits b s l g n h built in
    let more : size (step_after b s).graph ≡ size b.graph + 1 = step_size b s h f in
    let less : size b.graph + suc (length l) ≤ c = room in
    ap told_of (on c k b s l (fits_answer c k b s f (omega arith)))
    ∙ room_played c (k + 1) (step_after b s) l g (legal_tables b s l g n h built) (legal_going b s l g n h built) (legal_rest b s l g n h built) (omega arith)

-- ---- refused steps

abbrev numbered : Result Unit ReplayFault → Result Unit ℕ
numbered (Ok u) = Ok u
numbered (Err f) = Err (replay_number f)

edge_numbered : (c k v w : ℕ) (a b e p q j f : Bool)
    → numbered (refused_first ((not a, Store k (UnknownTable v)) ∷ (not b, Store k (UnknownTable w)) ∷ (e, Store k (SameTable v)) ∷ (not p, NotInUse k v) ∷ (not q, NotInUse k w)
    ∷ (j, Store k (AlreadyJoined v w)) ∷ (f, Store k (Full c)) ∷ []))
    ≡ refused_first ((not (a && b), 1) ∷ (e, 2) ∷ (not (p && q), 13) ∷ (j, 3) ∷ (f, 5) ∷ [])
edge_numbered c k v w false b e p q j f = refl
edge_numbered c k v w true false e p q j f = refl
edge_numbered c k v w true true true p q j f = refl
edge_numbered c k v w true true false false q j f = refl
edge_numbered c k v w true true false true false j f = refl
edge_numbered c k v w true true false true true true f = refl
edge_numbered c k v w true true false true true false true = refl
edge_numbered c k v w true true false true true false false = refl

node_numbered : (c k u v w : ℕ) (a b d x y z n p q j f : Bool)
    → numbered (refused_first ((not a, Store k (UnknownTable u)) ∷ (not b, Store k (UnknownTable v)) ∷ (not d, Store k (UnknownTable w))
    ∷ (x, Store k (SameTable u)) ∷ (y, Store k (SameTable u)) ∷ (z, Store k (SameTable v)) ∷ (n, InUse k u) ∷ (not p, NotInUse k v) ∷ (not q, NotInUse k w)
    ∷ (not j, Store k (NotJoined v w)) ∷ (f, Store k (Full c)) ∷ []))
    ≡ refused_first ((not (a && (b && d)), 1) ∷ (x || (y || z), 2) ∷ (n, 12) ∷ (not (p && q), 13) ∷ (not j, 4) ∷ (f, 5) ∷ [])
node_numbered c k u v w false b d x y z n p q j f = refl
node_numbered c k u v w true false d x y z n p q j f = refl
node_numbered c k u v w true true false x y z n p q j f = refl
node_numbered c k u v w true true true true y z n p q j f = refl
node_numbered c k u v w true true true false true z n p q j f = refl
node_numbered c k u v w true true true false false true n p q j f = refl
node_numbered c k u v w true true true false false false true p q j f = refl
node_numbered c k u v w true true true false false false false false q j f = refl
node_numbered c k u v w true true true false false false false true false j f = refl
node_numbered c k u v w true true true false false false false true true false f = refl
node_numbered c k u v w true true true false false false false true true true true = refl
node_numbered c k u v w true true true false false false false true true true false = refl

step_numbered : (c k : ℕ) (b : Building) (s : Step) → numbered (step_answer c k b s) ≡ refused_first (conditions c b.used b.graph s)
unfolding step_answer
step_numbered c k b (Edge v w) =
    edge_numbered c k v w (is_table b.graph v) (is_table b.graph w) (eqb v w) (b.used v) (b.used w) (joined b.graph v w) (leb c (size b.graph))
step_numbered c k b (Node u v w) =
    node_numbered c k u v w (is_table b.graph u) (is_table b.graph v) (is_table b.graph w) (eqb u v) (eqb u w) (eqb v w) (b.used u) (b.used v) (b.used w)
    (joined b.graph v w) (leb c (size b.graph))

-- every refusal of a list names the same step
abbrev AllAt : ℕ → List (Bool × ReplayFault) → Type 0
AllAt k [] = Unit {0}
AllAt k (d ∷ l) = (replay_step d.1 ≡ k) × AllAt k l

first_step : (k : ℕ) (l : List (Bool × ReplayFault)) → AllAt k l → (f : ReplayFault) → refused_first l ≡ Err f → replay_step f ≡ k
first_step k [] h f e = absurd (ok_err f e)
first_step k (d ∷ l) h f e = at d.0 (refused_first l) e (first_step k l h.1 f)
  where
    at : (v : Bool) (r : Result Unit ReplayFault) → cond v (Err d.1) r ≡ Err f → (r ≡ Err f → replay_step f ≡ k) → replay_step f ≡ k
    at true r x again = let q : d.1 ≡ f = cc in sym (ap replay_step q) ∙ h.0
    at false r x again = again x

step_step : (c k : ℕ) (b : Building) (s : Step) (f : ReplayFault) → step_answer c k b s ≡ Err f → replay_step f ≡ k
unfolding step_answer
step_step c k b (Edge v w) f e =
    first_step k
    ((not (is_table b.graph v), Store k (UnknownTable v)) ∷ (not (is_table b.graph w), Store k (UnknownTable w)) ∷ (eqb v w, Store k (SameTable v))
    ∷ (not (b.used v), NotInUse k v) ∷ (not (b.used w), NotInUse k w) ∷ (joined b.graph v w, Store k (AlreadyJoined v w))
    ∷ (leb c (size b.graph), Store k (Full c)) ∷ [])
    (refl, (refl, (refl, (refl, (refl, (refl, (refl, tt))))))) f e
step_step c k b (Node u v w) f e =
    first_step k (node_conditions b.graph.tables b.used k u v w ++ splice_conditions b.graph c k v w)
    (refl, (refl, (refl, (refl, (refl, (refl, (refl, (refl, (refl, (refl, (refl, tt))))))))))) f e

-- the refused step, with what stands before it and after it
record Refusal (c k : ℕ) (b : Building) (l : List Step) (f : ReplayFault) (g : Graph) : Type 0 where
  before : List Step
  here : Step
  rest : List Step
  used : ℕ → Bool
  from : k ≤ replay_step f
  there : drop (replay_step f - k) l ≡ here ∷ rest
  taken : take (replay_step f - k) l ≡ before
  built : Builds (part_of b) before (record { in_use = used; joins = joined g })
  first : refused_first (conditions c used g here) ≡ Err (replay_number f)

refusal : (c k : ℕ) (b : Building) (l : List Step) (f : ReplayFault) (g : Graph) → Going b → 1 ≤ replay_step f
    → steps_from c k b l ≡ record { told = Err f; graph = g } → Refusal c k b l f g
refusal c k b [] f g h some e =
    let z : replay_step f ≡ 0 = close_step 0 b.graph.tables b.used f (sym (ap told_of (at_end c k b)) ∙ ap told_of e) in
    absurd (omega arith)
refusal c k b (s ∷ l) f g h some e =
    ⊎_elim
    (λ ok.
    let fits = (answer_fits c k b s ok).0 in
    let r = refusal c (k + 1) (step_after b s) l f g (step_going b s h fits) some (sym (on c k b s l ok) ∙ e) in
    let later : k + 1 ≤ replay_step f = r.from in
    let m : replay_step f - k ≡ suc (replay_step f - (k + 1)) = omega arith in
    record {
      before = s ∷ r.before;
      here = r.here;
      rest = r.rest;
      used = r.used;
      from = omega arith;
      there = ap (λ j. drop j (s ∷ l)) m ∙ r.there;
      taken = ap (λ j. take j (s ∷ l)) m ∙ ap (λ x. s ∷ x) r.taken;
      built = next (fits_allowed b s fits) (subst (λ p. Builds p r.before (record { in_use = r.used; joins = joined g })) (sym (part_after b s fits)) r.built);
      first = r.first;
    })
    (λ bad.
    let z = sym (off c k b s l bad.0 bad.1) ∙ e in
    let told : step_answer c k b s ≡ Err f = bad.1 ∙ ap told_of z in
    let at : replay_step f ≡ k = step_step c k b s f told in
    let m : replay_step f - k ≡ 0 = omega arith in
    record {
      before = [];
      here = s;
      rest = l;
      used = b.used;
      from = omega arith;
      there = ap (λ j. drop j (s ∷ l)) m;
      taken = ap (λ j. take j (s ∷ l)) m;
      built = subst (λ x. Builds (part_of b) [] (record { in_use = b.used; joins = joined x })) (ap graph_of z) done;
      first = ap (λ x. refused_first (conditions c b.used x s)) (sym (ap graph_of z)) ∙ sym (step_numbered c k b s) ∙ ap numbered told;
    })
    (cases_answer (step_answer c k b s))

-- ---- all steps taken, and refused at the close

record Unclosed (b : Building) (l : List Step) (x : ℕ) (g : Graph) : Type 0 where
  used : ℕ → Bool
  built : Builds (part_of b) l (record { in_use = used; joins = joined g })
  below : x < g.tables
  lowest : Lowest (λ y. not (used y)) 0 x

unclosed : (c k : ℕ) (b : Building) (l : List Step) (x : ℕ) (g : Graph) → 1 ≤ k
    → steps_from c k b l ≡ record { told = Err (Unused x); graph = g } → Unclosed b l x g
unclosed c k b [] x g some e =
    let z = sym (at_end c k b) ∙ e in
    let r = closing 0 b.graph.tables b.used (Unused x) (ap told_of z) in
    let same : r.table ≡ x = let i : Unused x ≡ Unused r.table = r.is in cc in
    let left : b.graph ≡ g = ap graph_of z in
    let low : r.table < 0 + b.graph.tables = r.below in
    let many : b.graph.tables ≡ g.tables = ap table_count left in
    record {
      used = b.used;
      built = subst (λ y. Builds (part_of b) [] (record { in_use = b.used; joins = joined y })) left done;
      below = omega arith;
      lowest = subst (λ y. Lowest (λ y'. not (b.used y')) 0 y) same r.lowest;
    }
unclosed c k b (s ∷ l) x g some e =
    ⊎_elim
    (λ ok.
    let fits = (answer_fits c k b s ok).0 in
    let r = unclosed c (k + 1) (step_after b s) l x g (omega arith) (sym (on c k b s l ok) ∙ e) in
    record {
      used = r.used;
      built = next (fits_allowed b s fits)
          (subst (λ p. Builds p l (record { in_use = r.used; joins = joined g })) (sym (part_after b s fits)) r.built);
      below = r.below;
      lowest = r.lowest;
    })
    (λ bad.
    let at : 0 ≡ k = step_step c k b s (Unused x) (bad.1 ∙ ap told_of (sym (off c k b s l bad.0 bad.1) ∙ e)) in
    absurd (omega arith))
    (cases_answer (step_answer c k b s))

-- a refusal that names no step, where the triangle was laid, is the close's
only_close : (c k : ℕ) (b : Building) (l : List Step) (f : ReplayFault) → 1 ≤ k → (steps_from c k b l).told ≡ Err f → replay_step f ≡ 0 → (x : ℕ) × (f ≡ Unused x)
only_close c k b [] f some e none =
    let r = closing 0 b.graph.tables b.used f (sym (ap told_of (at_end c k b)) ∙ e) in
    (r.table, r.is)
only_close c k b (s ∷ l) f some e none =
    ⊎_elim
    (λ ok. only_close c (k + 1) (step_after b s) l f (omega arith) (sym (ap told_of (on c k b s l ok)) ∙ e) none)
    (λ bad.
    let at : replay_step f ≡ k = step_step c k b s f (bad.1 ∙ sym (ap told_of (off c k b s l bad.0 bad.1)) ∙ e) in
    absurd (omega arith))
    (cases_answer (step_answer c k b s))

-- ---- the start

-- the build after the triangle, on a graph without joins
started_part : (m : Graph) (t : Triangle) → m ≡ no_joins (table_count m) → part_of (started m t) ≡ triangle t
started_part m t none = ap (λ x. part_of (started x t)) none

-- a legal build begins with a triangle that can be laid
legal_startable : (c : ℕ) (m g : Graph) (t : Triangle) (l : List Step) → m ≡ no_joins (table_count m) → g.tables ≡ m.tables → 3 ≤ c → LegalBuild g t l → Startable m c t
legal_startable c m g t l none n room legal =
    let third : is_table g t.c ≡ true = stays_used (triangle t) (whole g) l t.c legal.1 (third_in_use t) in
    let low : t.c < g.tables = ltb-true t.c g.tables third in
    record {
      clear = λ a b. ap (λ (x : Graph). x.adj a b) none;
      ab = legal.0.0;
      bc = legal.0.1;
      within = omega arith;
      room = room;
    }
  where
    third_in_use : (t : Triangle) → (triangle t).in_use t.c ≡ true
    third_in_use t =
        or_right (eqb t.a t.c) (eqb t.b t.c || (eqb t.c t.c || false))
        (or_right (eqb t.b t.c) (eqb t.c t.c || false) (or_left (eqb t.c t.c) false (eq-eqb t.c t.c refl)))

startable_answer : (c : ℕ) (m : Graph) (t : Triangle) → Startable m c t → start_answer m c t ≡ Ok tt
startable_answer c m t h =
    let z : size m ≡ 0 = no_size m h.clear in
    let y : some_join m ≡ false = ap not (eq-eqb (size m) 0 z) in
    rw (y, lt-ltb t.a t.b h.ab, lt-ltb t.b t.c h.bc, lt-ltb t.c m.tables h.within, le-ltb c 3 h.room)

start_step : (c : ℕ) (m : Graph) (t : Triangle) (f : ReplayFault) → start_answer m c t ≡ Err f → replay_step f ≡ 0
start_step c m t f e =
    first_step 0
    ((some_join m, HasJoins) ∷ (not (ltb t.a t.b && (ltb t.b t.c && is_table m t.c)), NotTriangle) ∷ (ltb c 3, Store 0 (Full c)) ∷ [])
    (refl, (refl, (refl, tt))) f e

-- a refusal of the triangle is none of the close
start_used : (c : ℕ) (m : Graph) (t : Triangle) (x : ℕ) → start_answer m c t ≡ Err (Unused x) → ⊥
start_used c m t x = never (some_join m) (not (ltb t.a t.b && (ltb t.b t.c && is_table m t.c))) (ltb c 3)
  where
    never : (a b d : Bool) → refused_first ((a, HasJoins) ∷ (b, NotTriangle) ∷ (d, Store 0 (Full c)) ∷ []) ≡ Err (Unused x) → ⊥
    never true b d e = cc
    never false true d e = cc
    never false false true e = let z : ◌≡◌ {A = ℕ} 0 1 = cc in omega arith
    never false false false e = ok_err (Unused x) e

pub replayed_tables : (c : ℕ) (m : Graph) (t : Triangle) (l : List Step) → (replayed c m t l).graph.tables ≡ m.tables
replayed_tables c m t l =
    ⊎_elim
    (λ ok. ap (λ p. (graph_of p).tables) (begun c m t l ok) ∙ played_tables c 1 (started m t) l)
    (λ bad. ap (λ p. (graph_of p).tables) (not_begun c m t l bad.0 bad.1))
    (cases_answer (start_answer m c t))

-- ---- the laws

-- what a call answers and leaves, and what this amounts to
pub record ToldLaws (c : ℕ) (m : Graph) (t : Triangle) (l : List Step) (r : Result Unit ReplayFault) (g : Graph) : Type 0 where
  pub answer : r ≡ (replayed c m t l).told
  pub meant : g ≡ (replayed c m t l).graph
  pub accepted : AcceptedExactly m t l r g
  pub room : AcceptedWithRoom c m t l r
  pub refused : RefusedAtFirst c m t l r g
  pub unused : UnusedTold m t l r g
  pub start : StartTold m r g

module _ (c : ℕ) (m : Graph) (t : Triangle) (l : List Step) (s : Simple m) where
  accepted_legal : m ≡ no_joins (table_count m) → (replayed c m t l).told ≡ Ok tt → LegalBuild (replayed c m t l).graph t l
  accepted_legal none e =
      ⊎_elim
      (λ ok.
      let z = begun c m t l ok in
      let h = startable m c t s ok in (
        (h.ab, h.bc),
        subst (λ p. Builds p l (whole (replayed c m t l).graph)) (started_part m t none)
            (subst (λ q. Builds (part_of (started m t)) l (whole (graph_of q))) (sym z)
            (played_builds c 1 (started m t) l (started_going m c t s h) (sym (ap told_of z) ∙ e))),
      ))
      (λ bad. absurd (ok_err bad.0 (sym e ∙ ap told_of (not_begun c m t l bad.0 bad.1))))
      (cases_answer (start_answer m c t))

  -- where the triangle is refused the graph has no join, and a build of it has three
  legal_accepted : m ≡ no_joins (table_count m) → LegalBuild (replayed c m t l).graph t l → (replayed c m t l).told ≡ Ok tt
  legal_accepted none legal =
      let h : Startable m 3 t = legal_startable 3 m (replayed c m t l).graph t l none (replayed_tables c m t l) (omega arith) legal in
      let going = started_going m 3 t s h in
      let built = subst (λ p. Builds p l (whole (replayed c m t l).graph)) (sym (started_part m t none)) legal.1 in
      ⊎_elim
      (λ ok.
      let z = begun c m t l ok in
      ap told_of z ∙ builds_played c 1 (started m t) l going (subst (λ q. Builds (part_of (started m t)) l (whole (graph_of q))) z built))
      (λ bad.
      let z : size (replayed c m t l).graph ≡ size m = ap (λ q. size (graph_of q)) (not_begun c m t l bad.0 bad.1) in
      let three : size (started m t).graph ≡ 3 = started_size m 3 t s h in
      let many : size (replayed c m t l).graph ≡ size (started m t).graph + length l = built_size l (started m t) (replayed c m t l).graph (replayed_tables c m t l) going built in
      let zero' : size m ≡ 0 = no_size m h.clear in
      absurd (omega arith))
      (cases_answer (start_answer m c t))

  -- each step adds one join to the three of the triangle
  pub accepted_size : m ≡ no_joins (table_count m) → (replayed c m t l).told ≡ Ok tt → size (replayed c m t l).graph ≡ 3 + length l
  accepted_size none e =
      let legal = accepted_legal none e in
      let h : Startable m 3 t = legal_startable 3 m (replayed c m t l).graph t l none (replayed_tables c m t l) (omega arith) legal in
      let built = subst (λ p. Builds p l (whole (replayed c m t l).graph)) (sym (started_part m t none)) legal.1 in
      let three : size (started m t).graph ≡ 3 = started_size m 3 t s h in
      let many : size (replayed c m t l).graph ≡ size (started m t).graph + length l
      = built_size l (started m t) (replayed c m t l).graph (replayed_tables c m t l) (started_going m 3 t s h) built in
      omega arith

  room_accepted : m ≡ no_joins (table_count m) → 3 + length l ≤ c → (h : Graph) → table_count h ≡ table_count m → LegalBuild h t l → (replayed c m t l).told ≡ Ok tt
  room_accepted none room g n legal =
      let h : Startable m c t = legal_startable c m g t l none n (omega arith) legal in
      let three : size (started m t).graph ≡ 3 = started_size m c t s h in
      ap told_of (begun c m t l (startable_answer c m t h))
      ∙ room_played c 1 (started m t) l g n (started_going m c t s h)
      (subst (λ p. Builds p l (whole g)) (sym (started_part m t none)) legal.1) (omega arith)

  refused_first_step : RefusedAtFirst c m t l (replayed c m t l).told (replayed c m t l).graph
  refused_first_step none f e some =
      ⊎_elim
      (λ ok.
      let z = begun c m t l ok in
      let w : replayed c m t l ≡ record { told = Err f; graph = (replayed c m t l).graph } = λ i. record { told = e i; graph = (replayed c m t l).graph } in
      let r = refusal c 1 (started m t) l f (replayed c m t l).graph (started_going m c t s (startable m c t s ok)) some (sym z ∙ w) in (
        r.before,
        r.here,
        r.rest,
        r.used,
        r.there,
        r.taken,
        subst (λ p. Builds p r.before (record { in_use = r.used; joins = joined (replayed c m t l).graph })) (started_part m t none) r.built,
        r.first,
      ))
      (λ bad.
      let y : replay_step f ≡ 0 = start_step c m t f (bad.1 ∙ sym (ap told_of (not_begun c m t l bad.0 bad.1)) ∙ e) in
      absurd (omega arith))
      (cases_answer (start_answer m c t))

  unused_last : UnusedTold m t l (replayed c m t l).told (replayed c m t l).graph
  unused_last none x e =
      ⊎_elim
      (λ ok.
      let w : replayed c m t l ≡ record { told = Err (Unused x); graph = (replayed c m t l).graph } = λ i. record { told = e i; graph = (replayed c m t l).graph } in
      let r = unclosed c 1 (started m t) l x (replayed c m t l).graph (omega arith) (sym (begun c m t l ok) ∙ w) in (
        r.used,
        subst (λ p. Builds p l (record { in_use = r.used; joins = joined (replayed c m t l).graph })) (started_part m t none) r.built,
        r.below,
        r.lowest,
      ))
      (λ bad. absurd (start_used c m t x (bad.1 ∙ sym (ap told_of (not_begun c m t l bad.0 bad.1)) ∙ e)))
      (cases_answer (start_answer m c t))

  start_left : StartTold m (replayed c m t l).told (replayed c m t l).graph
  start_left f e none other =
      ⊎_elim
      (λ ok.
      let u = only_close c 1 (started m t) l f (omega arith) (sym (ap told_of (begun c m t l ok)) ∙ e) none in
      absurd (other u.0 u.1))
      (λ bad. ap graph_of (not_begun c m t l bad.0 bad.1))
      (cases_answer (start_answer m c t))

  -- the five, of what a call answers and leaves
  module _ (r : Result Unit ReplayFault) (g : Graph) (answer : r ≡ (replayed c m t l).told) (meant : g ≡ (replayed c m t l).graph) where
    pub accepted_exactly : AcceptedExactly m t l r g
    accepted_exactly none = (
      (λ e. subst (λ x. LegalBuild x t l) (sym meant) (accepted_legal none (sym answer ∙ e))),
      (λ legal. answer ∙ legal_accepted none (subst (λ x. LegalBuild x t l) meant legal)),
    )

    pub accepted_with_room : AcceptedWithRoom c m t l r
    accepted_with_room none room = (
      (λ e. ((replayed c m t l).graph, replayed_tables c m t l, accepted_legal none (sym answer ∙ e))),
      (λ h. answer ∙ room_accepted none room h.0 h.1 h.2),
    )

    pub refused_at_first : RefusedAtFirst c m t l r g
    refused_at_first none f e some =
        subst (λ x. RefusedAtFirst c m t l r x) (sym meant) (subst (λ x. RefusedAtFirst c m t l x (replayed c m t l).graph) (sym answer) refused_first_step) none f e some

    unused_told : UnusedTold m t l r g
    unused_told = subst (λ x. UnusedTold m t l r x) (sym meant) (subst (λ x. UnusedTold m t l x (replayed c m t l).graph) (sym answer) unused_last)

    start_told : StartTold m r g
    start_told = subst (λ x. StartTold m r x) (sym meant) (subst (λ x. StartTold m x (replayed c m t l).graph) (sym answer) start_left)

    -- all that the clauses of a call owe of them
    pub told_laws : ToldLaws c m t l r g
    told_laws = record {
      answer = answer;
      meant = meant;
      accepted = accepted_exactly;
      room = accepted_with_room;
      refused = refused_at_first;
      unused = unused_told;
      start = start_told;
    }
