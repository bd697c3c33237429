-- Marks without a ring, mark by mark.
--
--   Across U J a b x y        joins J lead from x to y, or from the one to a or b and from the other of these to y
--   across_one, one_across    walks with one join more are exactly those
--   joining_acyclic, closes_nothing
--                             a mark between two tables that the marks do not connect closes no ring
--   Forest t                  a simple graph without a ring
--   forest_start, forest_join no marks, and one more between two tables that the marks do not connect
--   forest_less               one mark taken out
--   apart_tables, apart_unmarked
--                             tables that the marks do not connect are two, and are not marked
use Rattle.std.proofs.Common.{◌≡◌, ℕ, ◌<◌, ◌≤◌, Bool, true, false, not, ◌&&◌, ◌||◌, ◌⊎◌, sym, ◌∙◌, subst, inl, inr, ⊎_elim, arith}
use Rattle.std.proofs.lemmas.Bool.{cases_Bool, both_ways, false≢true, or_cases, and_parts}
use Rattle.std.proofs.lemmas.Bool.Decides.{nat_tests}
use Rattle.theory.specs.Graph.{Graph, Simple, joined, is_table, table_count, same_pair, joining, unjoining, no_joins}
use Rattle.theory.specs.Build.{with_join, without_join}
use Rattle.theory.proofs.Sizes.{joining_simple, unjoining_simple, no_joins_simple}
use Rattle.disassembly.specs.Walks.{here, on, Leads, Reaches}
use Rattle.disassembly.proofs.Walks.{join_walks, bind, turned, one, stays, leads_turned}
use Rattle.disassembly.proofs.Keys.{graph_on}
use Rattle.spanning.specs.Laws.{Acyclic, ClosesNothing}

pair_ends : (a b x y : ℕ) → same_pair a b x y ≡ true → ((x ≡ a) × (y ≡ b)) ⊎ ((x ≡ b) × (y ≡ a))
pair_ends a b x y h = grind (arith, nat_tests)

-- ---- walks with one join more

abbrev pub Across : (ℕ → Bool) → (ℕ → ℕ → Bool) → ℕ → ℕ → ℕ → ℕ → Type 0
Across U J a b x y = Reaches U J x y ⊎ ((Reaches U J x a × Reaches U J b y) ⊎ (Reaches U J x b × Reaches U J a y))

module _ (U : ℕ → Bool) (J : ℕ → ℕ → Bool) (a b : ℕ) where
  -- a step along a join of J, then on
  step_on : (c d y : ℕ) → Leads U J c d → Across U J a b d y → Across U J a b c y
  step_on c d y l = ⊎_elim (λ w. inl (on l w)) (⊎_elim (λ q. inr (inl (on l q.0, q.1))) (λ q. inr (inr (on l q.0, q.1))))

  -- a step from a to b, or from b to a, then on
  from_a : (y : ℕ) → Across U J a b b y → Across U J a b a y
  from_a y = ⊎_elim (λ w. inr (inl (here, w))) (⊎_elim (λ q. inr (inl (here, q.1))) (λ q. inl q.1))

  from_b : (y : ℕ) → Across U J a b a y → Across U J a b b y
  from_b y = ⊎_elim (λ w. inr (inr (here, w))) (⊎_elim (λ q. inl q.1) (λ q. inr (inr (here, q.1))))

  pub across_one : {x y : ℕ} → Reaches U (with_join a b J) x y → Across U J a b x y
  across_one here = inl here
  across_one {y = y} (on {a = c} {b = d} l w) =
      let again : Across U J a b d y = across_one w in
      ⊎_elim
      (λ k. ⊎_elim
      (λ e. subst (λ v. Across U J a b v y) (sym e.0) (from_a y (subst (λ v. Across U J a b v y) e.1 again)))
      (λ e. subst (λ v. Across U J a b v y) (sym e.0) (from_b y (subst (λ v. Across U J a b v y) e.1 again)))
      (pair_ends a b c d k))
      (λ j. step_on c d y (j, l.1, l.2) again)
      (or_cases (same_pair a b c d) (J c d) l.0)

  with_more : (c d : ℕ) → J c d ≡ true → with_join a b J c d ≡ true
  with_more c d j = grind arith

  pair_first : with_join a b J a b ≡ true
  pair_first = grind (arith, nat_tests)

  pair_second : with_join a b J b a ≡ true
  pair_second = grind (arith, nat_tests)

  widened : {x y : ℕ} → Reaches U J x y → Reaches U (with_join a b J) x y
  widened w = bind (λ c d l. one (with_more c d l.0, l.1, l.2)) w

  pub one_across : U a ≡ true → U b ≡ true → {x y : ℕ} → Across U J a b x y → Reaches U (with_join a b J) x y
  one_across ua ub = ⊎_elim widened (⊎_elim
      (λ q. join_walks (widened q.0) (on (pair_first, ua, ub) (widened q.1)))
      (λ q. join_walks (widened q.0) (on (pair_second, ub, ua) (widened q.1))))

-- ---- no ring is closed

-- without x–y, the join of a and b is gone where it is the same pair, and else it is put in after
only_old : (J : ℕ → ℕ → Bool) (a b x y c d : ℕ) → same_pair a b x y ≡ true → without_join x y (with_join a b J) c d ≡ true → J c d ≡ true
only_old J a b x y c d e h =
    ⊎_elim (λ (q : same_pair a b c d ≡ true). absurd (both_ways (same_pair x y c d) (not_that (same_pair x y c d) (with_join a b J c d) h) (pair_trans a b x y c d e q)))
    (λ j. j) (or_cases (same_pair a b c d) (J c d) (and_parts (not (same_pair x y c d)) (with_join a b J c d) h).1)
  where
    not_that : (p q : Bool) → (not p && q) ≡ true → p ≡ false
    not_that p q k = grind arith

    pair_trans : (a b x y c d : ℕ) → same_pair a b x y ≡ true → same_pair a b c d ≡ true → same_pair x y c d ≡ true
    pair_trans a b x y c d k l = grind (arith, nat_tests)

swapped : (j s p : Bool) → (not p && (s || j)) ≡ true → (s || (not p && j)) ≡ true
swapped j s p h = grind arith

old_join : (s j : Bool) → (s || j) ≡ true → s ≡ false → j ≡ true
old_join s j h k = grind arith

less_join : (p j : Bool) → (not p && j) ≡ true → j ≡ true
less_join p j h = grind arith

module _ (t : Graph) (s : Simple t) (ring-free : Acyclic t) (a b : ℕ) (apart : Reaches (is_table t) (joined t) a b → ⊥) where
  turn : (c d : ℕ) → Leads (is_table t) (joined t) c d → Leads (is_table t) (joined t) d c
  turn = leads_turned (is_table t) (joined t) (graph_on t s) (is_table t)

  -- walks in the marks without x–y are walks in the marks
  full : (x y : ℕ) {c d : ℕ} → Reaches (is_table t) (without_join x y (joined t)) c d → Reaches (is_table t) (joined t) c d
  full x y w = bind (λ c d l. one (less_join (same_pair x y c d) (joined t c d) l.0, l.1, l.2)) w

  -- a ring through the new mark
  through_new : (x y : ℕ) → same_pair a b x y ≡ true → Reaches (is_table t) (without_join x y (with_join a b (joined t))) x y → ⊥
  through_new x y e w =
      let old : Reaches (is_table t) (joined t) x y = bind (λ c d l. one (only_old (joined t) a b x y c d e l.0, l.1, l.2)) w in
      ⊎_elim (λ q. apart (subst (λ v. Reaches (is_table t) (joined t) v b) q.0 (subst (λ v. Reaches (is_table t) (joined t) x v) q.1 old)))
      (λ q. apart (turned turn (subst (λ v. Reaches (is_table t) (joined t) v a) q.0 (subst (λ v. Reaches (is_table t) (joined t) x v) q.1 old))))
      (pair_ends a b x y e)

  -- a ring through an old one
  through_old : (x y : ℕ) → joined t x y ≡ true → Reaches (is_table t) (without_join x y (with_join a b (joined t))) x y → ⊥
  through_old x y j w =
      let xy : Leads (is_table t) (joined t) x y = (j, (graph_on t s).within x y j, (graph_on t s).within y x (s.symmetric y x ∙ j)) in
      ⊎_elim (λ k. ring-free x y j k)
      (⊎_elim
      (λ q. apart (join_walks (turned turn (full x y q.0)) (on xy (turned turn (full x y q.1)))))
      (λ q. apart (join_walks (full x y q.1) (on (turn x y xy) (full x y q.0)))))
      (across_one (is_table t) (without_join x y (joined t)) a b
      (bind (λ c d l. one (swapped (joined t c d) (same_pair a b c d) (same_pair x y c d) l.0, l.1, l.2)) w))

  pub joining_acyclic : Acyclic (joining t a b)
  joining_acyclic x y j w = ⊎_elim
      (λ e. through_new x y e w)
      (λ e. through_old x y (old_join (same_pair a b x y) (joined t x y) j e) w)
      (cases_Bool (same_pair a b x y))

pub closes_nothing : ClosesNothing
closes_nothing t s ring-free a b an bn apart = joining_acyclic t s ring-free a b apart

-- ---- forests

pub record Forest (t : Graph) : Type 0 where
  pub simple : Simple t
  pub acyclic : Acyclic t

pub forest_start : (n : ℕ) → 1 ≤ n → n ≤ 64 → Forest (no_joins n)
forest_start n some few = record { simple = no_joins_simple n some few; acyclic = λ a b j w. false≢true j }

-- tables that the marks do not connect are two, and not joined
pub apart_tables : (t : Graph) (a b : ℕ) → (Reaches (is_table t) (joined t) a b → ⊥) → a ≡ b → ⊥
apart_tables t a b apart e = apart (stays e)

pub apart_unmarked : (t : Graph) → Simple t → (a b : ℕ) → (Reaches (is_table t) (joined t) a b → ⊥) → joined t a b ≡ false
apart_unmarked t s a b apart = ⊎_elim
    (λ j. absurd (apart (one (j, (graph_on t s).within a b j, (graph_on t s).within b a (s.symmetric b a ∙ j)))))
    (λ e. e) (cases_Bool (joined t a b))

pub forest_join : (t : Graph) → Forest t → (a b : ℕ) → a < table_count t → b < table_count t → (Reaches (is_table t) (joined t) a b → ⊥) → Forest (joining t a b)
forest_join t f a b an bn apart = record {
  simple = joining_simple t a b an bn (apart_tables t a b apart) f.simple;
  acyclic = joining_acyclic t f.simple f.acyclic a b apart;
}

fewer_still : (J : ℕ → ℕ → Bool) (a b x y c d : ℕ) → without_join x y (without_join a b J) c d ≡ true → without_join x y J c d ≡ true
fewer_still J a b x y c d h = off (same_pair x y c d) (same_pair a b c d) (J c d) h
  where
    off : (p q j : Bool) → (not p && (not q && j)) ≡ true → (not p && j) ≡ true
    off p q j k = grind arith

pub forest_less : (t : Graph) → Forest t → (a b : ℕ) → Forest (unjoining t a b)
forest_less t f a b = record {
  simple = unjoining_simple t a b f.simple;
  acyclic = λ x y j w. f.acyclic x y (less_join (same_pair a b x y) (joined t x y) j)
      (bind (λ c d l. one (fewer_still (joined t) a b x y c d l.0, l.1, l.2)) w);
}
