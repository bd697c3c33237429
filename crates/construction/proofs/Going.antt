-- What holds of a build all along: its graph is simple, the tables in use are tables, and every join is between tables in
-- use. The triangle brings it about, each accepted step keeps it, and each accepted step adds one join.
use Rattle.std.proofs.Common.{◌≡◌, ℕ, ◌+◌, ◌<◌, Bool, true, false, not, ◌&&◌, ◌||◌, eqb, leb, ◌⊎◌, Ok, sym, refl, ap, ◌∙◌, inl, inr, ⊎_elim, arith}
use Rattle.std.proofs.lemmas.Bool.{or_cases, or_left, or_right, and_parts, eqb-true, eq-eqb, not-false, ltb-true, eqb-false, leb-false, lt-ltb, ne_eqb, lt-leb, both_ways}
use Rattle.std.proofs.lemmas.Bool.Decides.{nat_tests}
use Rattle.theory.specs.Graph.{Graph, Simple, same_pair, joined, joining, unjoining, is_table, size}
use Rattle.theory.specs.Build.{Part, Allowed, after, with_join, without_join, with_table}
use Rattle.theory.specs.declared.step.Step.{Step}
use Rattle.theory.specs.declared.step.Step.TheVariants.{Edge, Node}
use Rattle.theory.specs.declared.step.Triangle.{Triangle}
use Rattle.theory.proofs.Sizes.{joining_simple, unjoining_simple, joining_size, unjoining_size}
use Rattle.graph.specs.declared.fault.StoreFault.TheVariants.{UnknownTable, SameTable, AlreadyJoined, NotJoined, Full}
use Rattle.construction.specs.Replay.{Building, started, step_answer, step_after}
use Rattle.construction.specs.Inner.{building, WithinUse, node_conditions, splice_conditions}
use Rattle.refusals.specs.declared.fault.ReplayFault.TheVariants.{Store, NotInUse}
use Rattle.construction.proofs.First.{past, front_ok}
use Rattle.construction.proofs.Joins.{third_free}
use Rattle.construction.proofs.Inner.{Startable, started_simple, well_named, no_neighbours}

pub record Going (b : Building) : Type 0 where
  pub simple : Simple b.graph
  pub tables : (x : ℕ) → b.used x ≡ true → x < b.graph.tables
  pub within : WithinUse b.graph b.used

-- ---- the triangle

pub pair_ends : (a b x y : ℕ) → same_pair a b x y ≡ true → (a ≡ x) ⊎ (b ≡ x)
pair_ends a b x y e =
    ⊎_elim (λ (p : (eqb a x && eqb b y) ≡ true). inl (eqb-true a x (and_parts (eqb a x) (eqb b y) p).0))
    (λ (p : (eqb a y && eqb b x) ≡ true). inr (eqb-true b x (and_parts (eqb a y) (eqb b x) p).1))
    (or_cases (eqb a x && eqb b y) (eqb a y && eqb b x) e)

-- x stands among the three
first_of : (a b c x : ℕ) → a ≡ x → (eqb a x || (eqb b x || (eqb c x || false))) ≡ true
first_of a b c x e = or_left (eqb a x) (eqb b x || (eqb c x || false)) (eq-eqb a x e)

second_of : (a b c x : ℕ) → b ≡ x → (eqb a x || (eqb b x || (eqb c x || false))) ≡ true
second_of a b c x e = or_right (eqb a x) (eqb b x || (eqb c x || false)) (or_left (eqb b x) (eqb c x || false) (eq-eqb b x e))

third_of : (a b c x : ℕ) → c ≡ x → (eqb a x || (eqb b x || (eqb c x || false))) ≡ true
third_of a b c x e = or_right (eqb a x) (eqb b x || (eqb c x || false)) (or_right (eqb b x) (eqb c x || false) (or_left (eqb c x) false (eq-eqb c x e)))

pub one_of : (a b c x : ℕ) → (eqb a x || (eqb b x || (eqb c x || false))) ≡ true → (a ≡ x) ⊎ ((b ≡ x) ⊎ (c ≡ x))
one_of a b c x e =
    ⊎_elim (λ p. inl (eqb-true a x p))
    (λ r. inr (⊎_elim (λ p. inl (eqb-true b x p))
    (λ s. inr (eqb-true c x (⊎_elim (λ p. p) (λ f. absurd (both_ways false refl f)) (or_cases (eqb c x) false s))))
    (or_cases (eqb b x) (eqb c x || false) r)))
    (or_cases (eqb a x) (eqb b x || (eqb c x || false)) e)

pub started_going : (m : Graph) (c : ℕ) (t : Triangle) → Simple m → Startable m c t → Going (started m t)
started_going m c t s h = record {
  simple = started_simple m c t s h;
  tables = λ x e.
      let l : t.a < t.b = h.ab in
      let k : t.b < t.c = h.bc in
      let n : t.c < m.tables = h.within in
      ⊎_elim (λ (q : t.a ≡ x). omega arith) (λ r. ⊎_elim (λ (q : t.b ≡ x). omega arith) (λ (q : t.c ≡ x). omega arith) r) (one_of t.a t.b t.c x e);
  within = λ x y e.
      ⊎_elim
      (λ p. ⊎_elim (second_of t.a t.b t.c x) (third_of t.a t.b t.c x) (pair_ends t.b t.c x y p))
      (λ r. ⊎_elim
      (λ p. ⊎_elim (first_of t.a t.b t.c x) (third_of t.a t.b t.c x) (pair_ends t.a t.c x y p))
      (λ q. ⊎_elim
      (λ p. ⊎_elim (first_of t.a t.b t.c x) (second_of t.a t.b t.c x) (pair_ends t.a t.b x y p))
      (λ j. absurd (both_ways (m.adj x y) (h.clear x y) j))
      (or_cases (same_pair t.a t.b x y) (m.adj x y) q))
      (or_cases (same_pair t.a t.c x y) (same_pair t.a t.b x y || m.adj x y) r))
      (or_cases (same_pair t.b t.c x y) (same_pair t.a t.c x y || (same_pair t.a t.b x y || m.adj x y)) e);
}

-- ---- what an accepted step has met

pub record EdgeFits (m : Graph) (U : ℕ → Bool) (v w : ℕ) : Type 0 where
  pub hv : v < m.tables
  pub hw : w < m.tables
  pub vw : v ≡ w → ⊥
  pub placed_v : U v ≡ true
  pub placed_w : U w ≡ true
  pub free : m.adj v w ≡ false

pub record NodeFits (m : Graph) (U : ℕ → Bool) (u v w : ℕ) : Type 0 where
  pub hu : u < m.tables
  pub hv : v < m.tables
  pub hw : w < m.tables
  pub uv : u ≡ v → ⊥
  pub uw : u ≡ w → ⊥
  pub vw : v ≡ w → ⊥
  pub fresh : U u ≡ false
  pub placed_v : U v ≡ true
  pub placed_w : U w ≡ true
  pub held : m.adj v w ≡ true

-- all but room for one join more
abbrev pub Fits : Building → Step → Type 0
Fits b (Edge v w) = EdgeFits b.graph b.used v w
Fits b (Node u v w) = NodeFits b.graph b.used u v w

edge_met : (c k : ℕ) (m : Graph) (U : ℕ → Bool) (v w : ℕ) → step_answer c k (building m U) (Edge v w) ≡ Ok tt → EdgeFits m U v w × (size m < c)
unfolding step_answer
edge_met c k m U v w h =
    let e₁ = past (not (is_table m v)) (Store k (UnknownTable v)) _ h in
    let e₂ = past (not (is_table m w)) (Store k (UnknownTable w)) _ e₁.1 in
    let e₃ = past (eqb v w) (Store k (SameTable v)) _ e₂.1 in
    let e₄ = past (not (U v)) (NotInUse k v) _ e₃.1 in
    let e₅ = past (not (U w)) (NotInUse k w) _ e₄.1 in
    let e₆ = past (joined m v w) (Store k (AlreadyJoined v w)) _ e₅.1 in
    let e₇ = past (leb c (size m)) (Store k (Full c)) _ e₆.1 in (
      record {
        hv = ltb-true v m.tables (not-false (is_table m v) e₁.0);
        hw = ltb-true w m.tables (not-false (is_table m w) e₂.0);
        vw = eqb-false v w e₃.0;
        placed_v = not-false (U v) e₄.0;
        placed_w = not-false (U w) e₅.0;
        free = e₆.0;
      },
      leb-false c (size m) e₇.0,
    )

node_met : (c k : ℕ) (m : Graph) (U : ℕ → Bool) (u v w : ℕ) → step_answer c k (building m U) (Node u v w) ≡ Ok tt → NodeFits m U u v w × (size m < c)
unfolding step_answer
node_met c k m U u v w h =
    let both = front_ok (node_conditions m.tables U k u v w) (splice_conditions m c k v w) h in
    let f = well_named m.tables U k u v w both.0 in
    let e₁ = past (not (joined m v w)) (Store k (NotJoined v w)) _ both.1 in
    let e₂ = past (leb c (size m)) (Store k (Full c)) _ e₁.1 in (
      record {
        hu = f.hu;
        hv = f.hv;
        hw = f.hw;
        uv = f.uv;
        uw = f.uw;
        vw = f.vw;
        fresh = f.fresh;
        placed_v = f.placed_v;
        placed_w = f.placed_w;
        held = not-false (joined m v w) e₁.0;
      },
      leb-false c (size m) e₂.0,
    )

pub answer_fits : (c k : ℕ) (b : Building) (s : Step) → step_answer c k b s ≡ Ok tt → Fits b s × (size b.graph < c)
answer_fits c k b (Edge v w) e = edge_met c k b.graph b.used v w e
answer_fits c k b (Node u v w) e = node_met c k b.graph b.used u v w e

-- and back
pub fits_answer : (c k : ℕ) (b : Building) (s : Step) → Fits b s → size b.graph < c → step_answer c k b s ≡ Ok tt
unfolding step_answer
fits_answer c k b (Edge v w) f room =
    rw (lt-ltb v b.graph.tables f.hv, lt-ltb w b.graph.tables f.hw, ne_eqb v w f.vw, f.placed_v, f.placed_w, f.free, lt-leb c (size b.graph) room)
fits_answer c k b (Node u v w) f room =
    rw (
      lt-ltb u b.graph.tables f.hu,
      lt-ltb v b.graph.tables f.hv,
      lt-ltb w b.graph.tables f.hw,
      ne_eqb u v f.uv,
      ne_eqb u w f.uw,
      ne_eqb v w f.vw,
      f.fresh,
      f.placed_v,
      f.placed_w,
      f.held,
      lt-leb c (size b.graph) room,
    )

-- ---- one step on

edge_going : (m : Graph) (U : ℕ → Bool) (v w : ℕ) → Going (building m U) → EdgeFits m U v w → Going (building (joining m v w) U)
edge_going m U v w h f = record {
  simple = joining_simple m v w f.hv f.hw f.vw h.simple;
  tables = h.tables;
  within = λ x y e.
      ⊎_elim (λ p. ⊎_elim (λ (q : v ≡ x). ap U (sym q) ∙ f.placed_v) (λ (q : w ≡ x). ap U (sym q) ∙ f.placed_w) (pair_ends v w x y p))
      (λ j. h.within x y j) (or_cases (same_pair v w x y) (m.adj x y) e);
}

node_going : (m : Graph) (U : ℕ → Bool) (u v w : ℕ) → Going (building m U) → NodeFits m U u v w
    → Going (building (joining (unjoining (joining m u v) v w) u w) (with_table u U))
node_going m U u v w h f = record {
  simple = joining_simple (unjoining (joining m u v) v w) u w f.hu f.hw f.uw
      (unjoining_simple (joining m u v) v w (joining_simple m u v f.hu f.hv f.uv h.simple));
  tables = λ x e. ⊎_elim (λ p. let q : u ≡ x = eqb-true u x p in let l : u < m.tables = f.hu in omega arith) (λ o. h.tables x o) (or_cases (eqb u x) (U x) e);
  within = λ x y e.
      ⊎_elim (λ p. ⊎_elim (new x) (λ (q : w ≡ x). old x (ap U (sym q) ∙ f.placed_w)) (pair_ends u w x y p))
      (λ r. ⊎_elim (λ p. ⊎_elim (new x) (λ (q : v ≡ x). old x (ap U (sym q) ∙ f.placed_v)) (pair_ends u v x y p))
      (λ j. old x (h.within x y j))
      (or_cases (same_pair u v x y) (m.adj x y) (and_parts (not (same_pair v w x y)) (same_pair u v x y || m.adj x y) r).1))
      (or_cases (same_pair u w x y) (not (same_pair v w x y) && (same_pair u v x y || m.adj x y)) e);
}
  where
    new : (x : ℕ) → u ≡ x → with_table u U x ≡ true
    new x q = or_left (eqb u x) (U x) (eq-eqb u x q)

    old : (x : ℕ) → U x ≡ true → with_table u U x ≡ true
    old x o = or_right (eqb u x) (U x) o

pub step_going : (b : Building) (s : Step) → Going b → Fits b s → Going (step_after b s)
unfolding step_after
step_going b (Edge v w) h f = edge_going b.graph b.used v w h f
step_going b (Node u v w) h f = node_going b.graph b.used u v w h f

node_size : (m : Graph) (U : ℕ → Bool) (u v w : ℕ) → Going (building m U) → NodeFits m U u v w → size (joining (unjoining (joining m u v) v w) u w) ≡ size m + 1
node_size m U u v w h f =
    let alone = no_neighbours m U u h.within f.fresh in
    let s₁ : Simple (joining m u v) = joining_simple m u v f.hu f.hv f.uv h.simple in
    let more : size (joining m u v) ≡ size m + 1 = joining_size m u v f.hu f.hv f.uv h.simple (alone v) in
    let held₁ : (joining m u v).adj v w ≡ true = or_right (same_pair u v v w) (m.adj v w) f.held in
    let less : size (joining m u v) ≡ size (unjoining (joining m u v) v w) + 1 = unjoining_size (joining m u v) v w f.hv f.hw f.vw s₁ held₁ in
    let free : (unjoining (joining m u v) v w).adj u w ≡ false = third_free m u v w f.uv f.uw f.vw (alone w) in
    let last : size (joining (unjoining (joining m u v) v w) u w) ≡ size (unjoining (joining m u v) v w) + 1
    = joining_size (unjoining (joining m u v) v w) u w f.hu f.hw f.uw (unjoining_simple (joining m u v) v w s₁) free in
    omega arith

pub step_size : (b : Building) (s : Step) → Going b → Fits b s → size (step_after b s).graph ≡ size b.graph + 1
unfolding step_after
step_size b (Edge v w) h f = joining_size b.graph v w f.hv f.hw f.vw h.simple f.free
step_size b (Node u v w) h f = node_size b.graph b.used u v w h f

pub step_tables : (b : Building) (s : Step) → (step_after b s).graph.tables ≡ b.graph.tables
unfolding step_after
step_tables b (Edge v w) = refl
step_tables b (Node u v w) = refl

-- ---- in the words of legal builds

abbrev pub part_of : Building → Part
part_of b = record { in_use = b.used; joins = b.graph.adj }

-- a join of u is not the one taken out, so it may be put in before or after
same_splice : (u v w : ℕ) (J : ℕ → ℕ → Bool) → (u ≡ w → ⊥) → (x y : ℕ)
    → with_join u w (with_join u v (without_join v w J)) x y ≡ with_join u w (without_join v w (with_join u v J)) x y
same_splice u v w J uw x y = grind (arith, nat_tests)

pub part_after : (b : Building) (s : Step) → Fits b s → after s (part_of b) ≡ part_of (step_after b s)
unfolding step_after
part_after b (Edge v w) f = refl
part_after b (Node u v w) f = λ i. record { in_use = with_table u b.used; joins = λ x y. same_splice u v w b.graph.adj f.uw x y i }

pub fits_allowed : (b : Building) (s : Step) → Fits b s → Allowed s (part_of b)
fits_allowed b (Edge v w) f = (f.placed_v, f.placed_w, f.vw, f.free)
fits_allowed b (Node u v w) f = (f.fresh, f.placed_v, f.placed_w, f.vw, f.held)

-- a step that is allowed and brings no number into use but a table's
pub allowed_fits : (b : Building) (s : Step) → Going b → Allowed s (part_of b) → ((x : ℕ) → (after s (part_of b)).in_use x ≡ true → x < b.graph.tables) → Fits b s
allowed_fits b (Edge v w) h a new = record {
  hv = h.tables v a.0;
  hw = h.tables w a.1;
  vw = a.2;
  placed_v = a.0;
  placed_w = a.1;
  free = a.3;
}
allowed_fits b (Node u v w) h a new = record {
  hu = new u (or_left (eqb u u) (b.used u) (eq-eqb u u refl));
  hv = h.tables v a.1;
  hw = h.tables w a.2;
  uv = λ e. both_ways (b.used u) a.0 (ap b.used e ∙ a.1);
  uw = λ e. both_ways (b.used u) a.0 (ap b.used e ∙ a.2);
  vw = a.3;
  fresh = a.0;
  placed_v = a.1;
  placed_w = a.2;
  held = a.4;
}
