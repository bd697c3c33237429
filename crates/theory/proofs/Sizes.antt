-- Joins counted: what one edit makes of the number of joins, and how many there can be. Also that edits keep a graph simple.
--
--   pair_swap, pair_flip, pair_no_loop, pair_within, pair_itself, pair_adj   what a pair that is the same as another tells
--   count_le, count_same, count_one                    numbers counted: at most all; by equal tests; by a test that passes one more
--   pairs_same, pairs_one, pairs_most                  pairs counted, likewise: at most n * (n - 1) / 2
--   joining_simple, unjoining_simple, no_joins_simple  simple graphs
--   joining_flip, joining_back                         a pair can be named either way round; what is taken out can be put back
--   joining_size, unjoining_size, no_joins_size        their sizes
--   size_most                                          64 tables have 2016 pairs
--   with_adj, alike                                    a graph of so many tables with these joins; joins that agree on every pair make one graph
--   clamped_same                                       a number of tables within the limits is not clamped
use Rattle.std.proofs.Common.{◌≡◌, ℕ, zero, suc, ◌+◌, ◌-◌, ◌*◌, ◌<◌, ◌≤◌, Bool, true, false, cond, not, ◌&&◌, ◌||◌, eqb, sym, refl, ap, ◌∙◌, ap₂, ⊎_elim, suc-mul, mul-le-mul, mul-suc, arith}
use mathlib.Core.Path.{fun_ext}
use borrow.Author.Tests.{clash}
use Rattle.std.proofs.lemmas.Bool.Decides.{nat_tests}
use Rattle.std.proofs.lemmas.Bool.{cases_eq, cases_order, or_cases, and_parts, and_right}
use Rattle.theory.specs.Graph.{Graph, Simple, same_pair, joining, unjoining, no_joins, clamped, count, pairs, size}

-- ---- one pair against another

pub pair_swap : (a b x y : ℕ) → same_pair a b x y ≡ same_pair a b y x
pair_swap a b x y = grind (arith, nat_tests)

pub pair_flip : (a b x y : ℕ) → same_pair a b x y ≡ same_pair b a x y
pair_flip a b x y = grind (arith, nat_tests)

pub pair_no_loop : (a b x : ℕ) → (a ≡ b → ⊥) → same_pair a b x x ≡ false
pair_no_loop a b x ne = grind (arith, nat_tests)

pub pair_within : (n a b x y : ℕ) → a < n → b < n → same_pair a b x y ≡ true → x < n
pair_within n a b x y ha hb e = grind (arith, nat_tests)

pub pair_itself : (a b : ℕ) → same_pair a b a b ≡ true
pair_itself a b = grind (arith, nat_tests)

-- the pair a < b at other pairs x < y: in another column, and in the column of b
pair_apart : (a b x y : ℕ) → a < b → x < y → (y ≡ b → ⊥) → same_pair a b x y ≡ false
pair_apart a b x y l k ne = grind (arith, nat_tests)

pair_above : (a b x : ℕ) → a < b → x < b → (x ≡ a → ⊥) → same_pair a b x b ≡ false
pair_above a b x l k ne = grind (arith, nat_tests)

-- what is joined at a pair is joined at that pair either way round
pub pair_adj : (m : Graph) (a b x y : ℕ) → Simple m → m.adj a b ≡ true → same_pair a b x y ≡ true → m.adj x y ≡ true
pair_adj m a b x y s held e =
    ⊎_elim
    (λ (c : (eqb a x && eqb b y) ≡ true). let p : x ≡ a = grind (arith, nat_tests) in let q : y ≡ b = grind (arith, nat_tests) in ap₂ m.adj p q ∙ held)
    (λ (c : (eqb a y && eqb b x) ≡ true). let p : x ≡ b = grind (arith, nat_tests) in let q : y ≡ a = grind (arith, nat_tests) in ap₂ m.adj p q ∙ s.symmetric b a ∙ held)
    (or_cases (eqb a x && eqb b y) (eqb a y && eqb b x) e)

-- ---- counting

pub count_le : (p : ℕ → Bool) (n : ℕ) → count p n ≤ n
count_le p zero = omega arith
count_le p (suc n) =
    let ih : count p n ≤ n = count_le p n in
    elim (p n) as (λ v. count p n + cond v 1 0 ≤ suc n) [ true ↦ omega arith | false ↦ omega arith ]

pub count_same : (p q : ℕ → Bool) (n : ℕ) → ((k : ℕ) → k < n → p k ≡ q k) → count p n ≡ count q n
count_same p q zero h = refl
count_same p q (suc n) h = ap₂ (λ c v. c + cond v 1 0) (count_same p q n (λ k l. h k (omega arith))) (h n (omega arith))

-- q passes one number below n that p does not: a
pub count_one : (p q : ℕ → Bool) (a n : ℕ) → a < n → p a ≡ false → q a ≡ true → ((k : ℕ) → k < n → (k ≡ a → ⊥) → p k ≡ q k) → count q n ≡ count p n + 1
count_one p q a zero l f t h = absurd (omega arith)
count_one p q a (suc n) l f t h =
    ⊎_elim
    (λ (e : a ≡ n).
    let below : count p n ≡ count q n = count_same p q n (λ k m. h k (omega arith) (omega arith)) in
    let pn : cond {A = ℕ} (p n) 1 0 ≡ 0 = ap (λ k. cond (p k) 1 0) (sym e) ∙ ap (λ v. cond v 1 0) f in
    let qn : cond {A = ℕ} (q n) 1 0 ≡ 1 = ap (λ k. cond (q k) 1 0) (sym e) ∙ ap (λ v. cond v 1 0) t in
    omega arith)
    (λ (ne : a ≡ n → ⊥).
    let below : count q n ≡ count p n + 1 = count_one p q a n (omega arith) f t (λ k m other. h k (omega arith) other) in
    let here : cond (p n) 1 0 ≡ cond {A = ℕ} (q n) 1 0 = ap (λ v. cond v 1 0) (h n (omega arith) (λ e. ne (sym e))) in
    omega arith)
    (cases_eq a n)

pub pairs_same : (p q : ℕ → ℕ → Bool) (n : ℕ) → ((x y : ℕ) → x < y → y < n → p x y ≡ q x y) → pairs p n ≡ pairs q n
pairs_same p q zero h = refl
pairs_same p q (suc n) h =
    ap₂ ◌+◌ (pairs_same p q n (λ x y l m. h x y l (omega arith))) (count_same (λ x. p x n) (λ x. q x n) n (λ k l. h k n l (omega arith)))

-- q passes one pair below n that p does not: a < b
pub pairs_one : (p q : ℕ → ℕ → Bool) (a b n : ℕ) → a < b → b < n → p a b ≡ false → q a b ≡ true
    → ((x y : ℕ) → x < y → (y ≡ b → ⊥) → p x y ≡ q x y) → ((x : ℕ) → x < b → (x ≡ a → ⊥) → p x b ≡ q x b) → pairs q n ≡ pairs p n + 1
pairs_one p q a b zero l m f t apart above = absurd (omega arith)
pairs_one p q a b (suc n) l m f t apart above =
    ⊎_elim
    (λ (e : b ≡ n).
    let below : pairs p n ≡ pairs q n = pairs_same p q n (λ x y k j. apart x y k (omega arith)) in
    let here : count (λ x. q x b) b ≡ count (λ x. p x b) b + 1 = count_one (λ x. p x b) (λ x. q x b) a b l f t above in
    let pn : count (λ x. p x b) b ≡ count (λ x. p x n) n = ap (λ k. count (λ x. p x k) k) e in
    let qn : count (λ x. q x b) b ≡ count (λ x. q x n) n = ap (λ k. count (λ x. q x k) k) e in
    omega arith)
    (λ (ne : b ≡ n → ⊥).
    let below : pairs q n ≡ pairs p n + 1 = pairs_one p q a b n l (omega arith) f t apart above in
    let here : count (λ x. p x n) n ≡ count (λ x. q x n) n = count_same (λ x. p x n) (λ x. q x n) n (λ k j. apart k n j (λ e. ne (sym e))) in
    omega arith)
    (cases_eq b n)

twice_pairs : (p : ℕ → ℕ → Bool) (n : ℕ) → pairs p (suc n) * 2 ≤ suc n * n
twice_pairs p zero = omega arith
twice_pairs p (suc n) =
    let ih : pairs p (suc n) * 2 ≤ suc n * n = twice_pairs p n in
    let last : count (λ x. p x (suc n)) (suc n) ≤ suc n = count_le (λ x. p x (suc n)) (suc n) in
    let square : suc (suc n) * suc n ≡ suc n * n + suc n + suc n = suc-mul (suc n) (suc n) ∙ ap (λ v. v + suc n) (mul-suc (suc n) n) in
    omega arith

pub pairs_most : (p : ℕ → ℕ → Bool) (n : ℕ) → pairs p n * 2 ≤ n * (n - 1)
pairs_most p zero = omega arith
pairs_most p (suc n) =
    let less : n ≡ suc n - 1 = omega arith in
    let same : suc n * n ≡ suc n * (suc n - 1) = ap (λ k. suc n * k) less in
    let most : pairs p (suc n) * 2 ≤ suc n * n = twice_pairs p n in
    omega arith

pub size_most : (m : Graph) → m.tables ≤ 64 → size m ≤ 2016
size_most m few =
    let most : size m * 2 ≤ m.tables * (m.tables - 1) = pairs_most m.adj m.tables in
    let less : m.tables - 1 ≤ 63 = omega arith in
    let all : m.tables * (m.tables - 1) ≤ 64 * 63 = mul-le-mul few less in
    omega arith

-- ---- one graph

abbrev pub with_adj : ℕ → (ℕ → ℕ → Bool) → Graph
with_adj n J = record { tables = n; adj = J }

pub alike : (n : ℕ) (J K : ℕ → ℕ → Bool) → ((x y : ℕ) → J x y ≡ K x y) → with_adj n J ≡ with_adj n K
alike n J K same = ap (with_adj n) (fun_ext (λ x. fun_ext (same x)))

-- ---- one pair put in

pub joining_simple : (m : Graph) (a b : ℕ) → a < m.tables → b < m.tables → (a ≡ b → ⊥) → Simple m → Simple (joining m a b)
joining_simple m a b ha hb ne s = record {
  some = s.some;
  few = s.few;
  symmetric = λ x y. ap₂ ◌||◌ (pair_swap a b x y) (s.symmetric x y);
  loopless = λ x. ap₂ ◌||◌ (pair_no_loop a b x ne) (s.loopless x);
  within = λ x y e. ⊎_elim (λ p. pair_within m.tables a b x y ha hb p) (λ q. s.within x y q) (or_cases (same_pair a b x y) (m.adj x y) e);
}

pub joining_flip : (m : Graph) (a b : ℕ) → joining m a b ≡ joining m b a
joining_flip m a b = alike m.tables (joining m a b).adj (joining m b a).adj (λ x y. ap (λ c. c || m.adj x y) (pair_flip a b x y))

joining_size_up : (m : Graph) (a b : ℕ) → a < b → b < m.tables → m.adj a b ≡ false → size (joining m a b) ≡ size m + 1
joining_size_up m a b l hb free =
    pairs_one m.adj (joining m a b).adj a b m.tables l hb free
    (ap (λ c. c || m.adj a b) (pair_itself a b))
    (λ x y k ne. sym (ap (λ c. c || m.adj x y) (pair_apart a b x y l k ne)))
    (λ x k ne. sym (ap (λ c. c || m.adj x b) (pair_above a b x l k ne)))

pub joining_size : (m : Graph) (a b : ℕ) → a < m.tables → b < m.tables → (a ≡ b → ⊥) → Simple m → m.adj a b ≡ false → size (joining m a b) ≡ size m + 1
joining_size m a b ha hb ne s free =
    ⊎_elim
    (λ e. absurd (ne e))
    (⊎_elim
    (λ l. joining_size_up m a b l hb free)
    (λ l. ap size (joining_flip m a b) ∙ joining_size_up m b a l ha (s.symmetric b a ∙ free)))
    (cases_order a b)

-- ---- one pair taken out

pub unjoining_simple : (m : Graph) (a b : ℕ) → Simple m → Simple (unjoining m a b)
unjoining_simple m a b s = record {
  some = s.some;
  few = s.few;
  symmetric = λ x y. ap₂ (λ c v. not c && v) (pair_swap a b x y) (s.symmetric x y);
  loopless = λ x. and_right (not (same_pair a b x x)) (m.adj x x) (s.loopless x);
  within = λ x y e. s.within x y (and_parts (not (same_pair a b x y)) (m.adj x y) e).1;
}

put_back : (c v : Bool) → (c ≡ true → v ≡ true) → (c || (not c && v)) ≡ v
put_back true v h = sym (h refl)
put_back false v h = refl

pub joining_back : (m : Graph) (a b : ℕ) → Simple m → m.adj a b ≡ true → joining (unjoining m a b) a b ≡ m
joining_back m a b s held = alike m.tables (joining (unjoining m a b) a b).adj m.adj (λ x y. put_back (same_pair a b x y) (m.adj x y) (pair_adj m a b x y s held))

pub unjoining_size : (m : Graph) (a b : ℕ) → a < m.tables → b < m.tables → (a ≡ b → ⊥) → Simple m → m.adj a b ≡ true → size m ≡ size (unjoining m a b) + 1
unjoining_size m a b ha hb ne s held =
    ap size (sym (joining_back m a b s held))
    ∙ joining_size (unjoining m a b) a b ha hb ne (unjoining_simple m a b s) (ap (λ c. not c && m.adj a b) (pair_itself a b))

-- ---- no pair

count_none : (n : ℕ) → count (λ _. false) n ≡ 0
count_none zero = refl
count_none (suc n) = ap (λ c. c + 0) (count_none n)

pub no_joins_size : (n : ℕ) → size (no_joins n) ≡ 0
no_joins_size zero = refl
no_joins_size (suc n) = ap₂ ◌+◌ (no_joins_size n) (count_none n)

pub no_joins_simple : (n : ℕ) → 1 ≤ n → n ≤ 64 → Simple (no_joins n)
no_joins_simple n some few = record { some = some; few = few; symmetric = λ _ _. refl; loopless = λ _. refl; within = λ _ _ e. absurd (clash e) }

-- ---- how many tables

pub clamped_same : (n : ℕ) → 1 ≤ n → n ≤ 64 → clamped n ≡ n
clamped_same n some few = grind (arith, nat_tests)
