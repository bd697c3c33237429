-- What edits of a list of pairs make of the graph that it means, and what a store owes of its list.
--
--   no_more        a list has at least as many pairs as joins
--   put_in         a pair put behind the others
--   left           what the others mean where a pair is taken out
--   fewer          they are fewer
--   Owed, owed     the ghost fields of a store whose list means m
use Rattle.std.proofs.Common.{◌≡◌, ℕ, suc, ◌+◌, ◌<◌, ◌≤◌, Bool, true, false, cond, not, ◌&&◌, ◌||◌, List, [], ◌∷◌, ◌++◌, length, filter, sym, refl, ap, ◌∙◌, subst, ⊎_elim, arith}
use borrow.Author.Tests.{clash}
use Rattle.std.proofs.lemmas.Bool.Decides.{nat_tests}
use Rattle.std.proofs.lemmas.Bool.{cases_Bool}
use Rattle.std.proofs.lemmas.List.Folds.{list_any-append}
use Rattle.theory.specs.Graph.{Graph, Simple, same_pair, joining, unjoining, size}
use Rattle.theory.proofs.Sizes.{alike, pair_swap, pair_itself, pair_adj, joining_size, no_joins_size}
use Rattle.run_calls.specs.Pairs.{held, listed, others}

-- ---- a list and its joins

held_swap : (l : List (ℕ × ℕ)) (a b : ℕ) → held l a b ≡ held l b a
held_swap [] a b = refl
held_swap (p ∷ l) a b = let rest : held l a b ≡ held l b a = held_swap l a b in let first = pair_swap p.0 p.1 a b in λ i. first i || rest i

either_right : (a b : Bool) → (a || b) ≡ false → b ≡ false
either_right a b e = grind (arith, nat_tests)

or_held : (a b : Bool) → b ≡ true → (a || b) ≡ true
or_held a b e = grind (arith, nat_tests)

absorbed : (c v : Bool) → (c ≡ true → v ≡ true) → (c || v) ≡ v
absorbed true v h = sym (h refl)
absorbed false v h = refl

simple_rest : (n : ℕ) (p : ℕ × ℕ) (l : List (ℕ × ℕ)) → Simple (listed n (p ∷ l)) → Simple (listed n l)
simple_rest n p l s = record {
  some = s.some;
  few = s.few;
  symmetric = held_swap l;
  loopless = λ a. either_right (same_pair p.0 p.1 a a) (held l a a) (s.loopless a);
  within = λ a b e. s.within a b (or_held (same_pair p.0 p.1 a b) (held l a b) e);
}

pub no_more : (n : ℕ) (l : List (ℕ × ℕ)) → Simple (listed n l) → size (listed n l) ≤ length l
no_more n [] s = let none = no_joins_size n in omega (arith, none)
no_more n (p ∷ l) s =
    let rest = simple_rest n p l s in
    let ih : size (listed n l) ≤ length l = no_more n l rest in
    ⊎_elim
    (λ (there : held l p.0 p.1 ≡ true).
    let same : listed n (p ∷ l) ≡ listed n l = alike n (held (p ∷ l)) (held l) (λ x y. absorbed (same_pair p.0 p.1 x y) (held l x y) (pair_adj (listed n l) p.0 p.1 x y rest there)) in
    let as_many = ap size same in
    omega (arith, as_many, ih))
    (λ (free : held l p.0 p.1 ≡ false).
    let itself : held (p ∷ l) p.0 p.1 ≡ true = ap (λ c. c || held l p.0 p.1) (pair_itself p.0 p.1) in
    let hv : p.0 < n = s.within p.0 p.1 itself in
    let hw : p.1 < n = s.within p.1 p.0 (s.symmetric p.1 p.0 ∙ itself) in
    let apart : p.0 ≡ p.1 → ⊥ = λ e. clash (sym (s.loopless p.0) ∙ subst (λ k. held (p ∷ l) p.0 k ≡ true) (sym e) itself) in
    let one = joining_size (listed n l) p.0 p.1 hv hw apart rest free in
    omega (arith, one, ih))
    (cases_Bool (held l p.0 p.1))

-- ---- one pair put in

turned : (c v : Bool) → (v || (c || false)) ≡ (c || v)
turned c v = grind (arith, nat_tests)

pub put_in : (n a b : ℕ) (l : List (ℕ × ℕ)) → listed n (l ++ (a, b) ∷ []) ≡ joining (listed n l) a b
put_in n a b l = alike n (held (l ++ (a, b) ∷ [])) (joining (listed n l) a b).adj
    (λ x y. list_any-append (λ p. same_pair p.0 p.1 x y) l ((a, b) ∷ []) ∙ turned (same_pair a b x y) (held l x y))

-- ---- one pair taken out

-- the pair of p, which is another than a, b, or the same
kept_pair : (p q a b x y : ℕ) (v : Bool) → same_pair p q a b ≡ false
    → (same_pair p q x y || (not (same_pair a b x y) && v)) ≡ (not (same_pair a b x y) && (same_pair p q x y || v))
kept_pair p q a b x y v other = grind (arith, nat_tests)

gone_pair : (p q a b x y : ℕ) (v : Bool) → same_pair p q a b ≡ true
    → (not (same_pair a b x y) && v) ≡ (not (same_pair a b x y) && (same_pair p q x y || v))
gone_pair p q a b x y v same = grind (arith, nat_tests)

held_left : (a b : ℕ) (l : List (ℕ × ℕ)) (x y : ℕ) → held (filter (others a b) l) x y ≡ (not (same_pair a b x y) && held l x y)
held_left a b [] x y = grind (arith, nat_tests)
held_left a b (p ∷ l) x y =
    let ih : held (filter (others a b) l) x y ≡ (not (same_pair a b x y) && held l x y) = held_left a b l x y in
    ⊎_elim
    (λ (same : same_pair p.0 p.1 a b ≡ true).
    ap (λ c. held (cond (not c) (p ∷ filter (others a b) l) (filter (others a b) l)) x y) same ∙ ih ∙ gone_pair p.0 p.1 a b x y (held l x y) same)
    (λ (other : same_pair p.0 p.1 a b ≡ false).
    ap (λ c. held (cond (not c) (p ∷ filter (others a b) l) (filter (others a b) l)) x y) other
    ∙ ap (λ v. same_pair p.0 p.1 x y || v) ih ∙ kept_pair p.0 p.1 a b x y (held l x y) other)
    (cases_Bool (same_pair p.0 p.1 a b))

pub left : (n a b : ℕ) (l : List (ℕ × ℕ)) → listed n (filter (others a b) l) ≡ unjoining (listed n l) a b
left n a b l = alike n (held (filter (others a b) l)) (unjoining (listed n l) a b).adj (held_left a b l)

no_longer : (a b : ℕ) (l : List (ℕ × ℕ)) → length (filter (others a b) l) ≤ length l
no_longer a b [] = omega arith
no_longer a b (p ∷ l) =
    let ih : length (filter (others a b) l) ≤ length l = no_longer a b l in
    elim (others a b p) as (λ c. length (cond c (p ∷ filter (others a b) l) (filter (others a b) l)) ≤ suc (length l)) [ true ↦ omega arith | false ↦ omega arith ]

pub fewer : (a b : ℕ) (l : List (ℕ × ℕ)) → held l a b ≡ true → length (filter (others a b) l) + 1 ≤ length l
fewer a b [] there = absurd (clash there)
fewer a b (p ∷ l) there =
    ⊎_elim
    (λ (same : same_pair p.0 p.1 a b ≡ true).
    let most = no_longer a b l in
    let gone : length (filter (others a b) (p ∷ l)) ≡ length (filter (others a b) l) = ap (λ c. length (cond (not c) (p ∷ filter (others a b) l) (filter (others a b) l))) same in
    omega (arith, most, gone))
    (λ (other : same_pair p.0 p.1 a b ≡ false).
    let later : held l a b ≡ true = sym (ap (λ c. c || held l a b) other) ∙ there in
    let ih : length (filter (others a b) l) + 1 ≤ length l = fewer a b l later in
    let stays : length (filter (others a b) (p ∷ l)) ≡ suc (length (filter (others a b) l)) = ap (λ c. length (cond (not c) (p ∷ filter (others a b) l) (filter (others a b) l))) other in
    omega (arith, ih, stays))
    (cases_Bool (same_pair p.0 p.1 a b))

-- ---- the ghost fields

pub record Owed (n : ℕ) (l : List (ℕ × ℕ)) : Type 0 where
  pub some : 1 ≤ n
  pub few : n ≤ 64
  pub symmetric : (a b : ℕ) → held l a b ≡ held l b a
  pub loopless : (a : ℕ) → held l a a ≡ false
  pub within : (a b : ℕ) → held l a b ≡ true → a < n
  pub counted : length l ≡ size (listed n l)

pub owed : (n : ℕ) (l : List (ℕ × ℕ)) (m : Graph) → listed n l ≡ m → Simple m → length l ≡ size m → Owed n l
owed n l m means simple counted =
    let s : Simple (listed n l) = subst Simple (sym means) simple in
    record { some = s.some; few = s.few; symmetric = s.symmetric; loopless = s.loopless; within = s.within; counted = counted ∙ ap size (sym means) }
