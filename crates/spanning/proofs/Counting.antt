-- Counting: tests that pass as many numbers, or pairs, together; and the pairs that have one given table.
--
--   bit b               1 for true, 0 for false
--   count_add           two tests that pass as often as two others at each number
--   count_zero          a test that passes none
--   none_counted, some_counted
--                       what is not passed where none are counted, and one that is passed where some are
--   count_most, count_less
--                       a test that passes no more than another, and one that passes fewer
--   count_single        one number
--   pairs_add           the same as count_add, for pairs
--   pairs_zero, none_paired, some_paired
--                       the same as count_zero, none_counted and some_counted, for pairs
--   star s q            the pairs of s with a number that passes q
--   star_count          there are as many as numbers that pass q
use Rattle.std.proofs.Common.{◌≡◌, ℕ, zero, suc, ◌+◌, ◌<◌, ◌≤◌, Bool, true, false, cond, ◌&&◌, ◌||◌, eqb, refl, ⊎_elim, arith}
use Rattle.std.proofs.lemmas.Bool.{cases_eq, cases_Bool}
use Rattle.std.proofs.lemmas.Bool.Decides.{nat_tests}
use Rattle.theory.specs.Graph.{count, pairs}
use Rattle.theory.proofs.Sizes.{count_same}

abbrev pub bit : Bool → ℕ
bit b = cond b 1 0

pub count_add : (p q u v : ℕ → Bool) (n : ℕ) → ((x : ℕ) → x < n → bit (p x) + bit (q x) ≡ bit (u x) + bit (v x)) → count p n + count q n ≡ count u n + count v n
count_add p q u v zero h = refl
count_add p q u v (suc n) h =
    let ih : count p n + count q n ≡ count u n + count v n = count_add p q u v n (λ x l. h x (omega arith)) in
    let e : bit (p n) + bit (q n) ≡ bit (u n) + bit (v n) = h n (omega arith) in
    omega arith

pub count_zero : (p : ℕ → Bool) (n : ℕ) → ((x : ℕ) → x < n → p x ≡ false) → count p n ≡ 0
count_zero p zero h = refl
count_zero p (suc n) h =
    let ih : count p n ≡ 0 = count_zero p n (λ x l. h x (omega arith)) in
    let e : p n ≡ false = h n (omega arith) in
    grind arith

pub none_counted : (p : ℕ → Bool) (n : ℕ) → count p n ≡ 0 → (x : ℕ) → x < n → p x ≡ false
none_counted p zero h x l = absurd (omega arith)
none_counted p (suc n) h x l =
    let ih : count p n ≡ 0 → x < n → p x ≡ false = λ z k. none_counted p n z x k in
    ⊎_elim
    (λ (e : p n ≡ true). let z : count p n + bit (p n) ≡ 0 = h in absurd (grind arith))
    (λ (e : p n ≡ false). ⊎_elim (λ (q : x ≡ n). rw q e) (λ q. ih (grind arith) (omega arith)) (cases_eq x n))
    (cases_Bool (p n))

pub some_counted : (p : ℕ → Bool) (n : ℕ) → 0 < count p n → (x : ℕ) × (x < n) × (p x ≡ true)
some_counted p zero h = absurd (omega arith)
some_counted p (suc n) h =
    let ih : 0 < count p n → (x : ℕ) × (x < n) × (p x ≡ true) = λ z. some_counted p n z in
    ⊎_elim
    (λ (e : p n ≡ true). (n, omega arith, e))
    (λ (e : p n ≡ false). let q = ih (grind arith) in (q.0, omega (arith, q.1), q.2))
    (cases_Bool (p n))

pub count_most : (p q : ℕ → Bool) (n : ℕ) → ((x : ℕ) → p x ≡ true → q x ≡ true) → count p n ≤ count q n
count_most p q zero h = omega arith
count_most p q (suc n) h =
    let ih : count p n ≤ count q n = count_most p q n h in
    let k : p n ≡ true → q n ≡ true = h n in
    grind arith

pub count_less : (p q : ℕ → Bool) (n : ℕ) → ((x : ℕ) → p x ≡ true → q x ≡ true) → (w : ℕ) → w < n → p w ≡ false → q w ≡ true → count p n < count q n
count_less p q zero h w l f g = absurd (omega arith)
count_less p q (suc n) h w l f g =
    ⊎_elim
    (λ (e : w ≡ n).
    let ih : count p n ≤ count q n = count_most p q n h in
    let pn : p n ≡ false = rw e at f in
    let qn : q n ≡ true = rw e at g in
    grind arith)
    (λ (ne : w ≡ n → ⊥).
    let ih : count p n < count q n = count_less p q n h w (omega arith) f g in
    let k : p n ≡ true → q n ≡ true = h n in
    grind arith)
    (cases_eq w n)

pub count_single : (s : ℕ) (c : Bool) (n : ℕ) → s < n → count (λ a. eqb a s && c) n ≡ bit c
count_single s c zero h = absurd (omega arith)
count_single s c (suc n) h =
    ⊎_elim
    (λ (e : s ≡ n). let z : count (λ a. eqb a s && c) n ≡ 0 = count_zero (λ a. eqb a s && c) n (λ x l. grind (arith, nat_tests)) in grind (arith, nat_tests))
    (λ (ne : s ≡ n → ⊥). let ih : count (λ a. eqb a s && c) n ≡ bit c = count_single s c n (omega arith) in grind (arith, nat_tests))
    (cases_eq s n)

-- ---- pairs

pub pairs_add : (p q u v : ℕ → ℕ → Bool) (n : ℕ) → ((a b : ℕ) → a < b → b < n → bit (p a b) + bit (q a b) ≡ bit (u a b) + bit (v a b)) → pairs p n + pairs q n ≡ pairs u n + pairs v n
pairs_add p q u v zero h = refl
pairs_add p q u v (suc n) h =
    let ih : pairs p n + pairs q n ≡ pairs u n + pairs v n = pairs_add p q u v n (λ a b k l. h a b k (omega arith)) in
    let e : count (λ a. p a n) n + count (λ a. q a n) n ≡ count (λ a. u a n) n + count (λ a. v a n) n = count_add (λ a. p a n) (λ a. q a n) (λ a. u a n) (λ a. v a n) n (λ a l. h a n l (omega arith)) in
    omega arith

pub pairs_zero : (p : ℕ → ℕ → Bool) (n : ℕ) → ((a b : ℕ) → a < b → b < n → p a b ≡ false) → pairs p n ≡ 0
pairs_zero p zero h = refl
pairs_zero p (suc n) h =
    let ih : pairs p n ≡ 0 = pairs_zero p n (λ a b k l. h a b k (omega arith)) in
    let e : count (λ a. p a n) n ≡ 0 = count_zero (λ a. p a n) n (λ a l. h a n l (omega arith)) in
    omega arith

pub none_paired : (p : ℕ → ℕ → Bool) (n : ℕ) → pairs p n ≡ 0 → (a b : ℕ) → a < b → b < n → p a b ≡ false
none_paired p zero h a b k l = absurd (omega arith)
none_paired p (suc n) h a b k l =
    let ih : pairs p n ≡ 0 → b < n → p a b ≡ false = λ z m. none_paired p n z a b k m in
    let last : (x : ℕ) → x < n → p x n ≡ false = none_counted (λ x. p x n) n (omega arith) in
    ⊎_elim (λ (e : b ≡ n). rw e (last a (omega arith))) (λ (ne : b ≡ n → ⊥). ih (omega arith) (omega arith)) (cases_eq b n)

pub some_paired : (p : ℕ → ℕ → Bool) (n : ℕ) → 0 < pairs p n → (a b : ℕ) × (a < b) × (b < n) × (p a b ≡ true)
some_paired p zero h = absurd (omega arith)
some_paired p (suc n) h =
    let ih : 0 < pairs p n → (a b : ℕ) × (a < b) × (b < n) × (p a b ≡ true) = λ z. some_paired p n z in
    ⊎_elim
    (λ (e : count (λ x. p x n) n ≡ 0). let q = ih (omega arith) in (q.0, q.1, q.2, omega (arith, q.3), q.4))
    (λ (ne : count (λ x. p x n) n ≡ 0 → ⊥). let q = some_counted (λ x. p x n) n (omega arith) in (q.0, n, q.1, omega arith, q.2))
    (cases_eq (count (λ x. p x n) n) 0)

-- ---- the pairs of s with a number that passes

abbrev pub star : ℕ → (ℕ → Bool) → ℕ → ℕ → Bool
star s q a b = (eqb a s && q b) || (eqb b s && q a)

star_none : (s : ℕ) (q : ℕ → Bool) (n : ℕ) → n ≤ s → pairs (star s q) n ≡ 0
star_none s q n h = pairs_zero (star s q) n (λ a b k l. grind (arith, nat_tests))

pub star_count : (s : ℕ) (q : ℕ → Bool) (n : ℕ) → s < n → q s ≡ false → pairs (star s q) n ≡ count q n
star_count s q zero h k = absurd (omega arith)
star_count s q (suc n) h k =
    ⊎_elim
    (λ (e : s ≡ n).
    let z : pairs (star s q) n ≡ 0 = star_none s q n (omega arith) in
    let c : count (λ a. star s q a n) n ≡ count q n = count_same (λ a. star s q a n) q n (λ a l. grind (arith, nat_tests)) in
    let kn : q n ≡ false = rw e at k in
    grind arith)
    (λ (ne : s ≡ n → ⊥).
    let ih : pairs (star s q) n ≡ count q n = star_count s q n (omega arith) k in
    let c : count (λ a. star s q a n) n ≡ count (λ a. eqb a s && q n) n = count_same (λ a. star s q a n) (λ a. eqb a s && q n) n (λ a l. grind (arith, nat_tests)) in
    let d : count (λ a. eqb a s && q n) n ≡ bit (q n) = count_single s (q n) n (omega arith) in
    omega arith)
    (cases_eq s n)
