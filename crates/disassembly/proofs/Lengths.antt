-- What a build list tells of the graph that it builds: how many joins it has, and which graph it is.
--
--   builds_grow     tables in use stay in use
--   corner_in       the corners of a triangle are in use
--   build_length    a graph of m joins is built in m - 3 steps
--   builds_same     one list of steps builds one part
--   one_graph       one build list builds one graph
use Rattle.std.proofs.Common.{◌≡◌, ℕ, suc, ◌+◌, ◌<◌, ◌≤◌, Bool, true, false, ◌||◌, ltb, ◌⊎◌, List, [], ◌∷◌, length, sym, refl, ap, ◌∙◌, ⊎_elim, arith}
use Rattle.std.proofs.lemmas.Bool.{cases_Bool, cases_order, both_ways, false≢true, ltb-true, lt-ltb, or_cases}
use Rattle.std.proofs.lemmas.Bool.Decides.{nat_tests}
use Rattle.theory.specs.Graph.{Graph, Simple, same_pair, is_table, joining, unjoining, no_joins, size}
use Rattle.theory.specs.Build.{Part, Ascending, triangle, with_join, without_join, with_table, Allowed, after, Builds, done, next, whole, LegalBuild}
use Rattle.theory.specs.declared.step.Step.{Step}
use Rattle.theory.specs.declared.step.Step.TheVariants.{Edge, Node}
use Rattle.theory.specs.declared.step.Triangle.{Triangle}
use Rattle.theory.proofs.Sizes.{joining_simple, joining_size, unjoining_simple, unjoining_size, no_joins_simple, no_joins_size}
use Rattle.disassembly.proofs.Steps.{with_table_keeps, with_table_new}

-- ---- tables in use

step_grows : (s : Step) (p : Part) (x : ℕ) → p.in_use x ≡ true → (after s p).in_use x ≡ true
step_grows (Edge v w) p x h = h
step_grows (Node u v w) p x h = grind (arith, nat_tests)

pub builds_grow : {p q : Part} {l : List Step} → Builds p l q → (x : ℕ) → p.in_use x ≡ true → q.in_use x ≡ true
builds_grow done x h = h
builds_grow (next {p = p} {s = s} ok b) x h = builds_grow b x (step_grows s p x h)

-- ---- one step

-- the joins of a part as a graph of n tables
abbrev graph_of : ℕ → Part → Graph
graph_of n p = record { tables = n; adj = p.joins }

-- a part among n tables: its joins are those of a graph, between tables in use
record Placed (n : ℕ) (p : Part) : Type 0 where
  simple : Simple (graph_of n p)
  held : (a b : ℕ) → p.joins a b ≡ true → p.in_use a ≡ true

-- a table of a pair
pair_first : (v w a b : ℕ) → same_pair v w a b ≡ true → (a ≡ v) ⊎ (a ≡ w)
pair_first v w a b h = grind (arith, nat_tests)

-- a join put in between tables of U
with_held : (v w : ℕ) (J : ℕ → ℕ → Bool) (U : ℕ → Bool) → U v ≡ true → U w ≡ true → ((a b : ℕ) → J a b ≡ true → U a ≡ true) → (a b : ℕ) → with_join v w J a b ≡ true → U a ≡ true
with_held v w J U uv uw h a b k =
    ⊎_elim
    (λ e. ⊎_elim (λ (q : a ≡ v). rw q uv) (λ (q : a ≡ w). rw q uw) (pair_first v w a b e))
    (λ j. h a b j)
    (or_cases (same_pair v w a b) (J a b) k)

without_held : (v w : ℕ) (J : ℕ → ℕ → Bool) (a b : ℕ) → without_join v w J a b ≡ true → J a b ≡ true
without_held v w J a b h = grind arith

without_off : (v w : ℕ) (J : ℕ → ℕ → Bool) (a b : ℕ) → J a b ≡ false → without_join v w J a b ≡ false
without_off v w J a b h = grind arith

-- u is new, so the joins of u are none but that with v
only_with : (u v w : ℕ) (J : ℕ → ℕ → Bool) → (u ≡ w → ⊥) → (v ≡ w → ⊥) → J u w ≡ false → with_join u v J u w ≡ false
only_with u v w J n m h = grind (arith, nat_tests)

edge_placed : (n v w : ℕ) (p : Part) → Placed n p → Allowed (Edge v w) p → v < n → w < n → Placed n (after (Edge v w) p) × (size (graph_of n (after (Edge v w) p)) ≡ size (graph_of n p) + 1)
edge_placed n v w p s ok vn wn = (
  record {
    simple = joining_simple (graph_of n p) v w vn wn ok.2 s.simple;
    held = with_held v w p.joins p.in_use ok.0 ok.1 s.held;
  },
  joining_size (graph_of n p) v w vn wn ok.2 s.simple ok.3,
)

node_placed : (n u v w : ℕ) (p : Part) → Placed n p → Allowed (Node u v w) p → u < n → v < n → w < n
    → Placed n (after (Node u v w) p) × (size (graph_of n (after (Node u v w) p)) ≡ size (graph_of n p) + 1)
node_placed n u v w p s ok un vn wn =
    let vw : v ≡ w → ⊥ = ok.3 in
    let uv : u ≡ v → ⊥ = λ e. both_ways (p.in_use u) ok.0 (ap p.in_use e ∙ ok.1) in
    let uw : u ≡ w → ⊥ = λ e. both_ways (p.in_use u) ok.0 (ap p.in_use e ∙ ok.2) in
    let free : (x : ℕ) → p.joins u x ≡ false = λ x. ⊎_elim (λ e. absurd (both_ways (p.in_use u) ok.0 (s.held u x e))) (λ e. e) (cases_Bool (p.joins u x)) in
    let m : Graph = graph_of n p in
    let one : Simple (unjoining m v w) = unjoining_simple m v w s.simple in
    let two : Simple (joining (unjoining m v w) u v) = joining_simple (unjoining m v w) u v un vn uv one in
    let a : size m ≡ size (unjoining m v w) + 1 = unjoining_size m v w vn wn vw s.simple ok.4 in
    let off : without_join v w p.joins u v ≡ false = without_off v w p.joins u v (free v) in
    let b : size (joining (unjoining m v w) u v) ≡ size (unjoining m v w) + 1 = joining_size (unjoining m v w) u v un vn uv one off in
    let still : with_join u v (without_join v w p.joins) u w ≡ false = only_with u v w (without_join v w p.joins) uw vw (without_off v w p.joins u w (free w)) in
    let c : size (joining (joining (unjoining m v w) u v) u w) ≡ size (joining (unjoining m v w) u v) + 1 = joining_size (joining (unjoining m v w) u v) u w un wn uw two still in (
      record {
        simple = joining_simple (joining (unjoining m v w) u v) u w un wn uw two;
        held = with_held u w (with_join u v (without_join v w p.joins)) (with_table u p.in_use) (with_table_new u p.in_use) (with_table_keeps u p.in_use w ok.2)
            (with_held u v (without_join v w p.joins) (with_table u p.in_use) (with_table_new u p.in_use) (with_table_keeps u p.in_use v ok.1)
            (λ x y h. with_table_keeps u p.in_use x (s.held x y (without_held v w p.joins x y h))));
      },
      sums (size m) (size (unjoining m v w)) (size (joining (unjoining m v w) u v)) (size (joining (joining (unjoining m v w) u v) u w)) a b c,
    )
  where
    sums : (x y z t : ℕ) → x ≡ y + 1 → z ≡ y + 1 → t ≡ z + 1 → t ≡ x + 1
    sums x y z t a b c = omega arith

step_size : (n : ℕ) (s : Step) (p : Part) → Placed n p → Allowed s p → ((x : ℕ) → (after s p).in_use x ≡ true → x < n) → Placed n (after s p) × (size (graph_of n (after s p)) ≡ size (graph_of n p) + 1)
step_size n (Edge v w) p s ok small = edge_placed n v w p s ok (small v ok.0) (small w ok.1)
step_size n (Node u v w) p s ok small =
    node_placed n u v w p s ok (small u (with_table_new u p.in_use)) (small v (with_table_keeps u p.in_use v ok.1)) (small w (with_table_keeps u p.in_use w ok.2))

-- ---- the whole build

builds_size : (n : ℕ) {p q : Part} {l : List Step} → Builds p l q → Placed n p → ((x : ℕ) → q.in_use x ≡ true → x < n) → size (graph_of n q) ≡ size (graph_of n p) + length l
builds_size n {p} done s small = omega arith
builds_size n {q = q} (next {p = p} {s = t} {l = l} ok b) s small =
    let on : Placed n (after t p) × (size (graph_of n (after t p)) ≡ size (graph_of n p) + 1) = step_size n t p s ok (λ x h. small x (builds_grow b x h)) in
    let ih : size (graph_of n q) ≡ size (graph_of n (after t p)) + length l = builds_size n b on.0 small in
    more (size (graph_of n p)) (size (graph_of n (after t p))) (size (graph_of n q)) (length l) on.1 ih
  where
    more : (x y z k : ℕ) → y ≡ x + 1 → z ≡ y + k → z ≡ x + suc k
    more x y z k a b = omega arith

pub corner_in : (t : Triangle) → ((triangle t).in_use t.a ≡ true) × ((triangle t).in_use t.b ≡ true) × ((triangle t).in_use t.c ≡ true)
corner_in t = (grind (arith, nat_tests), grind (arith, nat_tests), grind (arith, nat_tests))

-- two pairs with one table in common
pair_other : (a b c : ℕ) → a < b → b < c → (same_pair a b a c ≡ false) × ((same_pair a c b c || (same_pair a b b c || false)) ≡ false)
pair_other a b c ab bc = (grind (arith, nat_tests), grind (arith, nat_tests))

triangle_placed : (n : ℕ) (t : Triangle) → Ascending t → 1 ≤ n → n ≤ 64 → t.c < n → Placed n (triangle t) × (size (graph_of n (triangle t)) ≡ 3)
triangle_placed n t up some few cn =
    let ab : t.a < t.b = up.0 in
    let bc : t.b < t.c = up.1 in
    let an : t.a < n = omega arith in
    let bn : t.b < n = omega arith in
    let nab : t.a ≡ t.b → ⊥ = λ e. omega arith in
    let nac : t.a ≡ t.c → ⊥ = λ e. omega arith in
    let nbc : t.b ≡ t.c → ⊥ = λ e. omega arith in
    let none : Simple (no_joins n) = no_joins_simple n some few in
    let one : Simple (joining (no_joins n) t.a t.b) = joining_simple (no_joins n) t.a t.b an bn nab none in
    let two : Simple (joining (joining (no_joins n) t.a t.b) t.a t.c) = joining_simple (joining (no_joins n) t.a t.b) t.a t.c an cn nac one in
    let off : (same_pair t.a t.b t.a t.c || false) ≡ false = ap (λ v. v || false) (pair_other t.a t.b t.c ab bc).0 in
    let a : size (joining (no_joins n) t.a t.b) ≡ size (no_joins n) + 1 = joining_size (no_joins n) t.a t.b an bn nab none refl in
    let b : size (joining (joining (no_joins n) t.a t.b) t.a t.c) ≡ size (joining (no_joins n) t.a t.b) + 1 =
    joining_size (joining (no_joins n) t.a t.b) t.a t.c an cn nac one off in
    let c : size (joining (joining (joining (no_joins n) t.a t.b) t.a t.c) t.b t.c) ≡ size (joining (joining (no_joins n) t.a t.b) t.a t.c) + 1 =
    joining_size (joining (joining (no_joins n) t.a t.b) t.a t.c) t.b t.c bn cn nbc two (pair_other t.a t.b t.c ab bc).1 in (
      record {
        simple = joining_simple (joining (joining (no_joins n) t.a t.b) t.a t.c) t.b t.c bn cn nbc two;
        held = with_held t.b t.c (with_join t.a t.c (with_join t.a t.b (λ _ _. false))) (triangle t).in_use (corner_in t).1 (corner_in t).2
            (with_held t.a t.c (with_join t.a t.b (λ _ _. false)) (triangle t).in_use (corner_in t).0 (corner_in t).2
            (with_held t.a t.b (λ _ _. false) (triangle t).in_use (corner_in t).0 (corner_in t).1 (λ x y h. absurd (false≢true h))));
      },
      sums (size (no_joins n)) (size (joining (no_joins n) t.a t.b)) (size (joining (joining (no_joins n) t.a t.b) t.a t.c))
          (size (joining (joining (joining (no_joins n) t.a t.b) t.a t.c) t.b t.c)) (no_joins_size n) a b c,
    )
  where
    sums : (x y z s : ℕ) → x ≡ 0 → y ≡ x + 1 → z ≡ y + 1 → s ≡ z + 1 → s ≡ 3
    sums x y z s a b c d = omega arith

pub build_length : (m : Graph) → Simple m → (t : Triangle) (l : List Step) → LegalBuild m t l → size m ≡ 3 + length l
build_length m s t l b =
    let small : (x : ℕ) → is_table m x ≡ true → x < m.tables = λ x h. ltb-true x m.tables h in
    let top : t.c < m.tables = small t.c (builds_grow b.1 t.c (corner_in t).2) in
    let start = triangle_placed m.tables t b.0 s.some s.few top in
    let whole-size : size m ≡ size (graph_of m.tables (triangle t)) + length l = builds_size m.tables b.1 start.0 small in
    whole-size ∙ ap (λ k. k + length l) start.1

-- ---- one graph

builds_nil : {p q : Part} → Builds p [] q → p ≡ q
builds_nil done = refl

builds_tail : {p q : Part} {s : Step} {l : List Step} → Builds p (s ∷ l) q → Builds (after s p) l q
builds_tail (next ok b) = b

pub builds_same : {p q : Part} {l : List Step} → Builds p l q → {k : Part} → Builds p l k → q ≡ k
builds_same done b = builds_nil b
builds_same (next ok a) b = builds_same a (builds_tail b)

-- graphs with the same tables have as many
tables_same : (n k : ℕ) → ((x : ℕ) → ltb x n ≡ ltb x k) → n ≡ k
tables_same n k h =
    ⊎_elim
    (λ e. e)
    (⊎_elim
    (λ l. absurd (let z : n < n = ltb-true n n (h n ∙ lt-ltb n k l) in omega arith))
    (λ l. absurd (let z : k < k = ltb-true k k (sym (h k) ∙ lt-ltb k n l) in omega arith)))
    (cases_order n k)

whole_same : (m k : Graph) → whole m ≡ whole k → m ≡ k
whole_same m k e =
    let tables : m.tables ≡ k.tables = tables_same m.tables k.tables (λ x. ap (λ p. p.in_use x) e) in
    λ i. record { tables = tables i; adj = (e i).joins }

pub one_graph : (m k : Graph) (t : Triangle) (l : List Step) → LegalBuild m t l → LegalBuild k t l → m ≡ k
one_graph m k t l a b = whole_same m k (builds_same a.1 b.1)
