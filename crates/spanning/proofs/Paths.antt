-- The test for the marked path, and cross joins by it.
--
--   path_is, is_path, on_path_exactly
--                         the test finds exactly the tables on the marked path
--   path_over, over_path  the test finds exactly the ancestors, where the tree hangs from the root of the path
--   path_under            where a test tells the ancestors, it is the test for the path
--   cross_not, cross_none
--                         when a join is not a cross join, and what that tells
use Rattle.std.proofs.Common.{◌≡◌, ℕ, ◌<◌, Bool, true, false, not, ◌&&◌, ◌||◌, eqb, ◌⊎◌, ◌↔◌, sym, ◌∙◌, inl, inr, ⊎_elim, arith}
use Rattle.std.specs.Cmp.{both_ways as same_test}
use Rattle.std.proofs.lemmas.Bool.{cases_eq, cases_Bool, both_ways, lt-ltb}
use Rattle.std.proofs.lemmas.Bool.Decides.{nat_tests}
use Rattle.theory.specs.Graph.{Graph, Simple, joined, is_table, table_count}
use Rattle.disassembly.specs.Walks.{without}
use Rattle.disassembly.specs.Tree.{Over}
use Rattle.disassembly.specs.Reach.{reached}
use Rattle.disassembly.proofs.Walks.{true_without, without_true}
use Rattle.disassembly.proofs.Reach.{walk_reached, reached_walk}
use Rattle.disassembly.proofs.Keys.{graph_on}
use Rattle.spanning.specs.Crossing.{OnPath, on_path, cross}
use Rattle.spanning.specs.Laws.{OnPathExactly}
use Rattle.spanning.proofs.Rooted.{Rooted, over_on, on_over}

-- the cases of the test
test_ends : (r a b : ℕ) (c : Bool) → (r ≡ a) ⊎ (b ≡ a) → (eqb r a || (eqb b a || not c)) ≡ true
test_ends r a b c (inl e) = grind (arith, nat_tests)
test_ends r a b c (inr e) = grind (arith, nat_tests)

test_between : (r a b : ℕ) (c : Bool) → (r ≡ a → ⊥) → (b ≡ a → ⊥) → (eqb r a || (eqb b a || not c)) ≡ not c
test_between r a b c n m = grind (arith, nat_tests)

not_true_is : (c : Bool) → not c ≡ true → c ≡ false
not_true_is c h = grind arith

not_false_is : (c : Bool) → c ≡ false → not c ≡ true
not_false_is c h = grind arith

module _ (t : Graph) (s : Simple t) (r a b : ℕ) (rn : r < table_count t) where
  few_off : (x : ℕ) → without a (is_table t) x ≡ true → x < 64
  few_off x h = (graph_on t s).few x (without_true a (is_table t) x h).0

  pub path_is : on_path t r a b ≡ true → OnPath t r a b
  unfolding on_path
  path_is h = ⊎_elim (λ e. inl e)
      (λ n. inr (⊎_elim (λ e. inl e)
      (λ m. inr (λ w. both_ways (reached (without a (is_table t)) (joined t) r b)
      (not_true_is (reached (without a (is_table t)) (joined t) r b) (sym (test_between r a b (reached (without a (is_table t)) (joined t) r b) n m) ∙ h))
      (walk_reached (without a (is_table t)) (joined t) few_off s.symmetric s.loopless r (true_without a (is_table t) r (lt-ltb r (table_count t) rn) n) b w)))
      (cases_eq b a)))
      (cases_eq r a)

  pub is_path : OnPath t r a b → on_path t r a b ≡ true
  unfolding on_path
  is_path p = ⊎_elim (λ e. test_ends r a b (reached (without a (is_table t)) (joined t) r b) (inl e))
      (λ n. ⊎_elim (λ e. test_ends r a b (reached (without a (is_table t)) (joined t) r b) (inr e))
      (λ m. test_between r a b (reached (without a (is_table t)) (joined t) r b) n m ∙ not_false_is (reached (without a (is_table t)) (joined t) r b) (none n m))
      (cases_eq b a))
      (cases_eq r a)
    where
      none : (r ≡ a → ⊥) → (b ≡ a → ⊥) → reached (without a (is_table t)) (joined t) r b ≡ false
      none n m = ⊎_elim
          (λ k. absurd (⊎_elim n (⊎_elim m (λ z. z (reached_walk (without a (is_table t)) (joined t) few_off s.symmetric s.loopless r (true_without a (is_table t) r (lt-ltb r (table_count t) rn) n) b k))) p))
          (λ k. k) (cases_Bool (reached (without a (is_table t)) (joined t) r b))

pub on_path_exactly : OnPathExactly
on_path_exactly t s r a b rn = (path_is t s r a b rn, is_path t s r a b rn)

-- ---- where the tree hangs from r

module _ (t : Graph) (s : Simple t) (f : ℕ → ℕ) (r : ℕ) (rank : ℕ → ℕ) (h : Rooted t f r rank) where
  pub path_over : (a b : ℕ) → b < table_count t → on_path t r a b ≡ true → Over f r a b
  path_over a b l p = on_over t s f r rank h a b l (path_is t s r a b h.root p)

  pub over_path : (a b : ℕ) → Over f r a b → on_path t r a b ≡ true
  over_path a b o = is_path t s r a b h.root (over_on t s f r rank h a b o)

  pub path_under : (a b : ℕ) (under : Bool) → b < table_count t → (under ≡ true) ↔ Over f r a b → on_path t r a b ≡ under
  path_under a b under l tells-under = same_test (on_path t r a b) under (λ p. tells-under.1 (path_over a b l p)) (λ u. over_path a b (tells-under.0 u))

-- ---- cross joins

cross_off : (j m x y : Bool) → (j ≡ true → m ≡ false → (x ≡ true) ⊎ (y ≡ true)) → ((j && not m) && (not x && not y)) ≡ false
cross_off j m x y h = ⊎_elim
    (λ (e : j ≡ true). ⊎_elim (λ (k : m ≡ true). grind arith) (λ (k : m ≡ false). ⊎_elim (λ z. grind arith) (λ z. grind arith) (h e k)) (cases_Bool m))
    (λ (e : j ≡ false). grind arith)
    (cases_Bool j)

off_cross : (j m x y : Bool) → ((j && not m) && (not x && not y)) ≡ false → j ≡ true → m ≡ false → (x ≡ true) ⊎ (y ≡ true)
off_cross j m x y h e k = grind arith

pub cross_not : (m t : Graph) (r a b : ℕ) → (joined m a b ≡ true → joined t a b ≡ false → (on_path t r a b ≡ true) ⊎ (on_path t r b a ≡ true)) → cross m t r a b ≡ false
unfolding cross
cross_not m t r a b h = cross_off (joined m a b) (joined t a b) (on_path t r a b) (on_path t r b a) h

pub cross_none : (m t : Graph) (r a b : ℕ) → cross m t r a b ≡ false → joined m a b ≡ true → joined t a b ≡ false → (on_path t r a b ≡ true) ⊎ (on_path t r b a ≡ true)
unfolding cross
cross_none m t r a b h j k = off_cross (joined m a b) (joined t a b) (on_path t r a b) (on_path t r b a) h j k
