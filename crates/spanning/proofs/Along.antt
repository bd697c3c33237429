-- Cross counts from one table to another: at table 0, and along a mark.
--
--   seen_from_zero   the tree hangs from table 0
--   count_at_zero    a cross join for table 0 is an unmarked one between two tables of which neither is under the other
--   count_along      how the cross count moves from a table's parent to the table
use Rattle.std.proofs.Common.{◌≡◌, ℕ, ◌+◌, ◌<◌, ◌≤◌, Bool, true, false, not, ◌&&◌, ◌↔◌, sym, refl, ap, ◌∙◌, subst, ap₂, inl, inr, ⊎_elim, arith}
use mathlib.Core.Bool.{and_comm}
use Rattle.std.specs.Cmp.{both_ways as same_test}
use Rattle.std.proofs.lemmas.Bool.{cases_eq, cases_Bool, both_ways, lt-ltb}
use Rattle.std.proofs.lemmas.Bool.Decides.{nat_tests}
use Rattle.theory.specs.Graph.{Graph, Simple, joined, is_table, table_count, count, pairs}
use Rattle.theory.proofs.Sizes.{pairs_same}
use Rattle.disassembly.specs.Walks.{here, on, Leads, Reaches, without}
use Rattle.disassembly.specs.Tree.{self, up}
use Rattle.disassembly.specs.Search.{discovery, searched}
use Rattle.disassembly.proofs.Walks.{join_walks, turned, one, true_without, without_true, leads_turned}
use Rattle.disassembly.proofs.Trees.{over_father}
use Rattle.disassembly.proofs.Keys.{graph_on}
use Rattle.spanning.specs.Spanning.{Spanning}
use Rattle.spanning.specs.Crossing.{OnPath, on_path, cross}
use Rattle.spanning.specs.Laws.{parent_in, Under, unmarked, CountAtZero, CountAlong}
use Rattle.spanning.proofs.Counting.{bit, star, pairs_add, star_count}
use Rattle.spanning.proofs.Rooted.{Rooted, spanning_rooted, climbs, not_over_parent, stays_below, below_walk, beside_walk}
use Rattle.spanning.proofs.Paths.{path_is, is_path, path_under}

abbrev rank_in : Graph → ℕ → ℕ
rank_in t = discovery (searched (is_table t) (joined t) 0).seen

pub seen_from_zero : (t : Graph) → Spanning t → Rooted t (parent_in t) 0 (discovery (searched (is_table t) (joined t) 0).seen)
seen_from_zero t g = spanning_rooted t g 0 (let some : 1 ≤ table_count t = g.simple.some in omega arith)

-- ---- at table 0

pub count_at_zero : CountAtZero
unfolding cross
count_at_zero m t h under tells-under =
    pairs_same (cross m t 0) (λ a b. unmarked m t a b && (not (under a b) && not (under b a))) (table_count m)
    (λ a b k l.
    let bn : b < table_count t = rw h.same l in
    let an : a < table_count t = omega arith in
    let same : (x y : ℕ) → x < table_count t → y < table_count t → on_path t 0 x y ≡ under x y =
    λ x y xn yn. path_under t h.spanning.simple (parent_in t) 0 (rank_in t) (seen_from_zero t h.spanning) x y (under x y) yn (tells-under x y xn yn) in
    ap₂ (λ x y. unmarked m t a b && (not x && not y)) (same a b an bn) (same b a bn an))

-- ---- along the mark between a table s and its parent

-- the test is false where it is not on the path
path_not : (t : Graph) → Simple t → (r a b : ℕ) → r < table_count t → (OnPath t r a b → ⊥) → on_path t r a b ≡ false
path_not t g r a b rn n = ⊎_elim (λ e. absurd (n (path_is t g r a b rn e))) (λ e. e) (cases_Bool (on_path t r a b))

module _ (t : Graph) (g : Spanning t) (s : ℕ) (s0 : s ≡ 0 → ⊥) (sn : s < table_count t) where
  abbrev p : ℕ
  p = parent_in t s

  abbrev simple : Simple t
  simple = g.simple

  hangs : Rooted t (parent_in t) 0 (rank_in t)
  hangs = seen_from_zero t g

  pn : p < table_count t
  pn = climbs t simple (parent_in t) 0 (rank_in t) hangs s sn s0

  above : Under t s p → ⊥
  above = not_over_parent t simple (parent_in t) 0 (rank_in t) hangs s sn s0

  p_not_s : p ≡ s → ⊥
  p_not_s e = above (subst (λ x. Under t s x) (sym e) self)

  ps : joined t p s ≡ true
  ps = hangs.mark s sn s0

  sp : joined t s p ≡ true
  sp = simple.symmetric s p ∙ ps

  off : (a x : ℕ) → x < table_count t → (x ≡ a → ⊥) → without a (is_table t) x ≡ true
  off a x l n = true_without a (is_table t) x (lt-ltb x (table_count t) l) n

  turn : (a c d : ℕ) → Leads (without a (is_table t)) (joined t) c d → Leads (without a (is_table t)) (joined t) d c
  turn a = leads_turned (is_table t) (joined t) (graph_on t simple) (without a (is_table t))

  -- other tables see no difference
  on_same : (a b : ℕ) → (a ≡ s → ⊥) → (a ≡ p → ⊥) → OnPath t p a b → OnPath t s a b
  on_same a b a_s a-p = ⊎_elim (λ e. absurd (a-p (sym e))) (⊎_elim (λ e. inr (inl e))
      (λ n. inr (inr (λ w. n (on (ps, off a p pn (λ e. a-p (sym e)), off a s sn (λ e. a_s (sym e))) w)))))

  on_back : (a b : ℕ) → (a ≡ s → ⊥) → (a ≡ p → ⊥) → OnPath t s a b → OnPath t p a b
  on_back a b a_s a-p = ⊎_elim (λ e. absurd (a_s (sym e))) (⊎_elim (λ e. inr (inl e))
      (λ n. inr (inr (λ w. n (on (sp, off a s sn (λ e. a_s (sym e)), off a p pn (λ e. a-p (sym e))) w)))))

  -- one step from under s that does not come to p stays under s
  step_under : (c d : ℕ) → joined t c d ≡ true → (d ≡ p → ⊥) → Under t s c → Under t s d
  step_under c d j n o =
      ⊎_elim
      (λ k. ⊎_elim (λ (z : s ≡ c). absurd (n (sym k.1 ∙ ap (parent_in t) (sym z)))) (λ z. subst (λ x. Under t s x) k.1 (over_father (parent_in t) 0 o z)) (cases_eq s c))
      (λ k. up k.0 (subst (λ x. Under t s x) (sym k.1) o))
      (hangs.marks c d j)

  stays_under : {c d : ℕ} → Reaches (without p (is_table t)) (joined t) c d → Under t s c → Under t s d
  stays_under here o = o
  stays_under (on {a = c} {b = d} l w) o = stays_under w (step_under c d l.0 (without_true p (is_table t) d l.2).1 o)

  -- p on the path from s: exactly where b is not under s
  s_p : (b : ℕ) → b < table_count t → (b ≡ p → ⊥) → OnPath t s p b → Under t s b → ⊥
  s_p b bn bp h o = ⊎_elim (λ e. p_not_s (sym e)) (⊎_elim bp (λ n. n (below_walk t simple (parent_in t) 0 (rank_in t) hangs s p above o bn))) h

  s_p_back : (b : ℕ) → (Under t s b → ⊥) → OnPath t s p b
  s_p_back b n = inr (inr (λ w. n (stays_under w self)))

  -- s on the path from p: exactly where b is under s
  p_s : (b : ℕ) → Under t s b → OnPath t p s b
  p_s b o = inr (inr (λ w. above (stays_below t simple (parent_in t) 0 (rank_in t) hangs s (turned (turn s) w) o)))

  p_s_back : (b : ℕ) → b < table_count t → (Under t s b → ⊥) → OnPath t p s b → ⊥
  p_s_back b bn k h = ⊎_elim p_not_s (⊎_elim (λ e. k (subst (λ x. Under t s x) (sym e) self))
      (λ n. n (join_walks (turned (turn s) (beside_walk t simple (parent_in t) 0 (rank_in t) hangs s (hangs.rooted p pn) pn above))
      (beside_walk t simple (parent_in t) 0 (rank_in t) hangs s (hangs.rooted b bn) bn k)))) h

  path_same : (a b : ℕ) → (a ≡ s → ⊥) → (a ≡ p → ⊥) → on_path t s a b ≡ on_path t p a b
  path_same a b k l = same_test (on_path t s a b) (on_path t p a b)
      (λ z. is_path t simple p a b pn (on_back a b k l (path_is t simple s a b sn z)))
      (λ z. is_path t simple s a b sn (on_same a b k l (path_is t simple p a b pn z)))

  path_here : (x b : ℕ) → x < table_count t → on_path t x x b ≡ true
  path_here x b xn = is_path t simple x x b xn (inl refl)

  path_beside : (b : ℕ) → (b ≡ s → ⊥) → (b ≡ p → ⊥) → (on_path t s b p ≡ false) × (on_path t p b s ≡ false)
  path_beside b k l = (
    path_not t simple s b p sn (⊎_elim (λ e. k (sym e)) (⊎_elim (λ e. l (sym e)) (λ n. n (one (sp, off b s sn (λ e. k (sym e)), off b p pn (λ e. l (sym e))))))),
    path_not t simple p b s pn (⊎_elim (λ e. l (sym e)) (⊎_elim (λ e. k (sym e)) (λ n. n (one (ps, off b p pn (λ e. l (sym e)), off b s sn (λ e. k (sym e))))))),
  )

  module _ (under : ℕ → Bool) (tells-under : (b : ℕ) → b < table_count t → (under b ≡ true) ↔ Under t s b) where
    not_under : (b : ℕ) → b < table_count t → under b ≡ false → Under t s b → ⊥
    not_under b bn e o = both_ways (under b) e ((tells-under b bn).1 o)

    path_from_s : (b : ℕ) → b < table_count t → (b ≡ p → ⊥) → on_path t s p b ≡ not (under b)
    path_from_s b bn k = ⊎_elim
        (λ (e : under b ≡ true). rw e (path_not t simple s p b sn (λ z. s_p b bn k z ((tells-under b bn).0 e))))
        (λ (e : under b ≡ false). rw e (is_path t simple s p b sn (s_p_back b (not_under b bn e))))
        (cases_Bool (under b))

    path_from_p : (b : ℕ) → b < table_count t → on_path t p s b ≡ under b
    path_from_p b bn = ⊎_elim
        (λ (e : under b ≡ true). rw e (is_path t simple p s b pn (p_s b ((tells-under b bn).0 e))))
        (λ (e : under b ≡ false). rw e (path_not t simple p s b pn (p_s_back b bn (not_under b bn e))))
        (cases_Bool (under b))

    module _ (J : ℕ → ℕ → Bool) (J-same : (a b : ℕ) → J a b ≡ J b a) (J-loopless : (a : ℕ) → J a a ≡ false) where
      abbrev crossing : ℕ → ℕ → ℕ → Bool
      crossing x a b = (J a b && not (joined t a b)) && (not (on_path t x a b) && not (on_path t x b a))

      -- unmarked joins of p with tables under s, and of s with tables not under s
      abbrev gained : ℕ → Bool
      gained b = (J p b && not (joined t p b)) && under b

      abbrev lost : ℕ → Bool
      lost b = (J s b && not (joined t s b)) && not (under b)

      abbrev Level : ℕ → ℕ → Type 0
      Level a b = bit (crossing s a b) + bit (star s lost a b) ≡ bit (crossing p a b) + bit (star p gained a b)

      crossing_turned : (x a b : ℕ) → crossing x b a ≡ crossing x a b
      crossing_turned x a b = rw (J-same b a, simple.symmetric b a) (ap (λ z. (J a b && not (joined t a b)) && z) (and_comm (not (on_path t x b a)) (not (on_path t x a b))))

      crossing_marked : (x a b : ℕ) → joined t a b ≡ true → crossing x a b ≡ false
      crossing_marked x a b h = rw h (none (J a b) (not (on_path t x a b) && not (on_path t x b a)))
        where
          none : (j z : Bool) → ((j && false) && z) ≡ false
          none j z = grind arith

      star_turned : (x : ℕ) (q : ℕ → Bool) (a b : ℕ) → star x q b a ≡ star x q a b
      star_turned x q a b = grind (arith, nat_tests)

      star_off : (x : ℕ) (q : ℕ → Bool) (a b : ℕ) → (a ≡ x → ⊥) → (b ≡ x → ⊥) → star x q a b ≡ false
      star_off x q a b h k = grind (arith, nat_tests)

      star_on : (x : ℕ) (q : ℕ → Bool) (b : ℕ) → (b ≡ x → ⊥) → star x q x b ≡ q b
      star_on x q b h = grind (arith, nat_tests)

      marked_off : (j u : Bool) → ((j && false) && u) ≡ false
      marked_off j u = grind arith

      level_turned : (a b : ℕ) → Level a b → Level b a
      level_turned a b h = rw (crossing_turned s a b, crossing_turned p a b, star_turned s lost a b, star_turned p gained a b) h

      at_p : (b : ℕ) → b < table_count t → (b ≡ p → ⊥) → Level p b
      at_p b bn k = ⊎_elim
          (λ (e : b ≡ s). rw e (rw (crossing_marked s p s ps, crossing_marked p p s ps, star_turned s lost s p, star_on s lost p p_not_s, star_on p gained s (λ z. p_not_s (sym z)))
          (let o : lost p ≡ false = rw sp (marked_off (J s p) (not (under p))) in
          let i : gained s ≡ false = rw ps (marked_off (J p s) (under s)) in
          rw (o, i) refl)))
          (λ ne. rw (star_off s lost p b p_not_s ne, star_on p gained b k) (rw (path_from_s b bn k, path_here p b pn, (path_beside b ne k).0) (both (J p b && not (joined t p b)) (under b))))
          (cases_eq b s)
        where
          both : (c u : Bool) → bit (c && (not (not u) && not false)) + bit false ≡ bit (c && (not true && not (on_path t p b p))) + bit (c && u)
          both c u = grind arith

      at_s : (b : ℕ) → b < table_count t → (b ≡ s → ⊥) → Level s b
      at_s b bn k = ⊎_elim
          (λ (e : b ≡ p). rw e (level_turned p s (at_p s sn (λ z. p_not_s (sym z)))))
          (λ ne. rw (star_on s lost b k, star_off p gained s b (λ z. p_not_s (sym z)) ne) (rw (path_from_p b bn, path_here s b sn, (path_beside b k ne).1) (both (J s b && not (joined t s b)) (under b))))
          (cases_eq b p)
        where
          both : (c u : Bool) → bit (c && (not true && not (on_path t s b s))) + bit (c && not u) ≡ bit (c && (not u && not false)) + bit false
          both c u = grind arith

      level : (a b : ℕ) → a < table_count t → b < table_count t → (a ≡ b → ⊥) → Level a b
      level a b an bn ab =
          ⊎_elim (λ (e : a ≡ p). rw e (at_p b bn (λ k. ab (e ∙ sym k))))
          (λ a-p. ⊎_elim (λ (e : a ≡ s). rw e (at_s b bn (λ k. ab (e ∙ sym k))))
          (λ a_s. ⊎_elim (λ (e : b ≡ p). rw e (level_turned p a (at_p a an a-p)))
          (λ b-p. ⊎_elim (λ (e : b ≡ s). rw e (level_turned s a (at_s a an a_s)))
          (λ b_s. rw (path_same a b a_s a-p, path_same b a b_s b-p, star_off s lost a b a_s b_s, star_off p gained a b a-p b-p) refl)
          (cases_eq b s)) (cases_eq b p)) (cases_eq a s)) (cases_eq a p)

      no_loop : (j k u : Bool) → j ≡ false → ((j && k) && u) ≡ false
      no_loop j k u e = grind arith

      along : pairs (crossing s) (table_count t) + count lost (table_count t) ≡ pairs (crossing p) (table_count t) + count gained (table_count t)
      along =
          let e = pairs_add (crossing s) (star s lost) (crossing p) (star p gained) (table_count t) (λ a b k l. level a b (omega arith) l (λ z. omega arith)) in
          let c : pairs (star s lost) (table_count t) ≡ count lost (table_count t) = star_count s lost (table_count t) sn (no_loop (J s s) (not (joined t s s)) (not (under s)) (J-loopless s)) in
          let d : pairs (star p gained) (table_count t) ≡ count gained (table_count t) = star_count p gained (table_count t) pn (no_loop (J p p) (not (joined t p p)) (under p) (J-loopless p)) in
          omega arith

pub count_along : CountAlong
unfolding cross
count_along m t h under tells-under s s0 sn =
    let sm : s < table_count t = rw h.same sn in
    subst (λ n. pairs (cross m t s) n + count (λ x. unmarked m t s x && not (under s x)) n ≡ pairs (cross m t (parent_in t s)) n + count (λ x. unmarked m t (parent_in t s) x && under s x) n)
    h.same
    (along t h.spanning s (λ e. omega arith) sm (under s) (λ b bn. tells-under s b sm bn) (joined m) h.simple.symmetric h.simple.loopless)
