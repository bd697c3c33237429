-- Cross joins for table 0, counted in the order in which a search leaves the tables: each with those left before it.
--
--   among m t L a b     a and b are both in L, and cross for table 0
--   count_beyond        a test that no number from n on passes
--   crossed_now         the cross joins of the next table with tables left before are its unmarked joins with those of them that do
--                       not lie under it
--   crossed_more        so many more are counted
--   crossed_none, crossed_all
--                       none at the beginning, and at the end all
--   moved_along         along a mark the cross count moves by the joins that are gained and lost
use Rattle.std.proofs.Common.{◌≡◌, ℕ, zero, suc, ◌+◌, ◌-◌, ◌<◌, ◌≤◌, Bool, true, false, not, ◌&&◌, ◌||◌, eqb, List, [], ◌∷◌, refl, ap, ◌∙◌, subst, ⊎_elim, arith}
use Rattle.std.proofs.lemmas.Bool.{cases_eq, cases_Bool, both_ways, eq-eqb, ne_eqb}
use Rattle.theory.specs.Graph.{Graph, joined, is_table, table_count, count, pairs}
use Rattle.theory.proofs.Sizes.{pairs_same}
use Rattle.disassembly.specs.Search.{has, discovery, searched}
use Rattle.disassembly.specs.Tree.{Over}
use Rattle.spanning.specs.Crossing.{on_path, cross, cross_count}
use Rattle.spanning.specs.Laws.{MarksOf, parent_in, unmarked}
use Rattle.spanning.proofs.Counting.{bit, star, pairs_add, pairs_zero, star_count}
use Rattle.spanning.proofs.Rooted.{Rooted, climbs}
use Rattle.spanning.proofs.Paths.{path_over, path_under}
use Rattle.spanning.proofs.Along.{seen_from_zero}
use Rattle.spanning.proofs.DriveLeaving.{MayLeave, root_parent}
use Rattle.spanning.proofs.DriveUnder.{Gathered, under_all, under_sound}

pub count_beyond : (p : ℕ → Bool) (n k : ℕ) → ((x : ℕ) → n ≤ x → p x ≡ false) → count p (k + n) ≡ count p n
count_beyond p n zero none = ap (count p) (let e : zero + n ≡ n = omega arith in e)
count_beyond p n (suc k) none =
    let ih : count p (k + n) ≡ count p n = count_beyond p n k none in
    let e : suc k + n ≡ suc (k + n) = omega arith in
    let off : p (k + n) ≡ false = none (k + n) (omega arith) in
    ap (count p) e ∙ ap (λ c. count p (k + n) + bit c) off ∙ (omega arith)

pub count_in : (p : ℕ → Bool) (n k : ℕ) → n ≤ k → ((x : ℕ) → n ≤ x → p x ≡ false) → count p k ≡ count p n
count_in p n k h none = let e : k ≡ (k - n) + n = omega arith in ap (count p) e ∙ count_beyond p n (k - n) none

abbrev pub among : Graph → Graph → List ℕ → ℕ → ℕ → Bool
among m t L a b = (has L a && has L b) && cross m t 0 a b

-- ---- the next table v

module _ (m t : Graph) (h : MarksOf m t) where
  abbrev n : ℕ
  n = table_count m

  abbrev f : ℕ → ℕ
  f = parent_in t

  abbrev rank : ℕ → ℕ
  rank = discovery (searched (is_table t) (joined t) 0).seen

  hangs : Rooted t f 0 rank
  hangs = seen_from_zero t h.spanning

  in_tree : (x : ℕ) → x < n → x < table_count t
  in_tree x l = rw h.same l

  pub goes_up : (x : ℕ) → x < table_count m → (x ≡ 0 → ⊥) → parent_in t x < table_count m
  goes_up x l x0 = subst (λ k. f x < k) h.same (climbs t h.spanning.simple f 0 rank hangs x (in_tree x l) x0)

  cross_turned : (a b : ℕ) → cross m t 0 a b ≡ cross m t 0 b a
  unfolding cross
  cross_turned a b = rw (h.simple.symmetric a b, h.spanning.simple.symmetric a b) (ends (joined m b a && not (joined t b a)) (on_path t 0 a b) (on_path t 0 b a))
    where
      ends : (j x y : Bool) → (j && (not x && not y)) ≡ (j && (not y && not x))
      ends j x y = grind arith

  module _ (L : List ℕ) (T : ℕ → ℕ → Bool) (q : Gathered f n L T) (v : ℕ) (w : MayLeave f n L v) (low : (x : ℕ) → has L x ≡ true → x < n) where
    -- what lies under v, and v under none of the others
    path_down : (x : ℕ) → x < n → on_path t 0 v x ≡ (eqb x v || T v x)
    path_down x l = path_under t h.spanning.simple f 0 rank hangs v x (eqb x v || T v x) (in_tree x l)
        (under_sound f n goes_up (root_parent t) L T q v w x, under_all f n goes_up (root_parent t) L T q v w x l)

    path_up : (x : ℕ) → has L x ≡ true → on_path t 0 x v ≡ false
    path_up x k = ⊎_elim
        (λ (e : on_path t 0 x v ≡ true).
        let o : Over f 0 x v = path_over t h.spanning.simple f 0 rank hangs x v (in_tree v w.table) e in
        absurd (both_ways (has L v) w.new (q.inside x v (q.full x v k w.table o))))
        (λ e. e)
        (cases_Bool (on_path t 0 x v))

    pub crossed_now : (x : ℕ) → ((unmarked m t v x && has L x) && not (eqb x v || T v x)) ≡ (has L x && cross m t 0 v x)
    unfolding cross
    crossed_now x = ⊎_elim
        (λ (k : has L x ≡ true). rw (k, path_down x (low x k), path_up x k) (here (joined m v x && not (joined t v x)) (eqb x v || T v x)))
        (λ (k : has L x ≡ false). rw k (away (joined m v x && not (joined t v x)) (eqb x v || T v x)))
        (cases_Bool (has L x))
      where
        here : (j u : Bool) → ((j && true) && not u) ≡ (true && (j && (not u && not false)))
        here j u = grind arith

        away : (j u : Bool) → ((j && false) && not u) ≡ false
        away j u = grind arith

    abbrev now : ℕ → Bool
    now x = has L x && cross m t 0 v x

    abbrev Level : ℕ → ℕ → Type 0
    Level a b = bit (among m t L a b) + bit (star v now a b) ≡ bit (among m t (v ∷ L) a b) + bit false

    level : (a b : ℕ) → a < b → Level a b
    level a b l = ⊎_elim
        (λ (e : a ≡ v).
        let b_v : eqb b v ≡ false = ne_eqb b v (λ z. omega arith) in
        let a_v : eqb a v ≡ true = eq-eqb a v e in
        let out : has L a ≡ false = rw e w.new in
        let same : cross m t 0 v b ≡ cross m t 0 a b = rw e refl in
        rw (a_v, b_v, out, same) (first (has L b) (cross m t 0 a b)))
        (λ (a-v : a ≡ v → ⊥). ⊎_elim
        (λ (e : b ≡ v).
        let a_v : eqb a v ≡ false = ne_eqb a v a-v in
        let b_v : eqb b v ≡ true = eq-eqb b v e in
        let out : has L b ≡ false = rw e w.new in
        let same : cross m t 0 v a ≡ cross m t 0 a b = rw e (cross_turned v a) in
        rw (a_v, b_v, out, same) (second (has L a) (cross m t 0 a b)))
        (λ (b-v : b ≡ v → ⊥).
        let a_v : eqb a v ≡ false = ne_eqb a v a-v in
        let b_v : eqb b v ≡ false = ne_eqb b v b-v in
        rw (a_v, b_v) (neither (has L a) (has L b) (cross m t 0 a b)))
        (cases_eq b v))
        (cases_eq a v)
      where
        first : (k c : Bool) → bit ((false && k) && c) + bit ((true && (k && c)) || (false && (false && c))) ≡ bit (((true || false) && (false || k)) && c) + bit false
        first k c = grind arith

        second : (k c : Bool) → bit ((k && false) && c) + bit ((false && (false && c)) || (true && (k && c))) ≡ bit (((false || k) && (true || false)) && c) + bit false
        second k c = grind arith

        neither : (j k c : Bool) → bit ((j && k) && c) + bit ((false && (k && c)) || (false && (j && c))) ≡ bit (((false || j) && (false || k)) && c) + bit false
        neither j k c = grind arith

    pub crossed_more : pairs (among m t (v ∷ L)) (table_count m) ≡ pairs (among m t L) (table_count m) + count (λ x. has L x && cross m t 0 v x) (table_count m)
    crossed_more =
        let e = pairs_add (among m t L) (star v now) (among m t (v ∷ L)) (λ _ _. false) n (λ a b l k. level a b l) in
        let c : pairs (star v now) n ≡ count now n = star_count v now n w.table (ap (λ k. k && cross m t 0 v v) w.new) in
        let z : pairs (λ _ _. false) n ≡ 0 = pairs_zero (λ _ _. false) n (λ a b l k. refl) in
        omega arith

pub crossed_none : (m t : Graph) (n : ℕ) → pairs (among m t []) n ≡ 0
crossed_none m t n = pairs_zero (among m t []) n (λ a b l k. refl)

pub crossed_all : (m t : Graph) (L : List ℕ) → ((x : ℕ) → x < table_count m → has L x ≡ true) → pairs (among m t L) (table_count m) ≡ cross_count m t 0
crossed_all m t L all = pairs_same (among m t L) (cross m t 0) (table_count m)
    (λ a b l k. let ha : has L a ≡ true = all a (omega arith) in let hb : has L b ≡ true = all b k in rw (ha, hb) refl)
