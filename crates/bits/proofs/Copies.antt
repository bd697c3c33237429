-- A graph copied row by row: how each join found, and the end of each row, go on.
--
--   copied_none, copied_all   nothing is copied before row 0; all is after the last row
--   copied_join, join_next    the next join of v from b on, put in
--   copied_row                no join of v is left: the next row begins
--   other_small               what is joined with a table is a table
--   copied_apart              the next join is not in yet
use Rattle.std.proofs.Common.{◌≡◌, ℕ, ◌+◌, ◌<◌, ◌≤◌, Bool, true, false, ◌&&◌, ◌||◌, ◌⊎◌, sym, refl, ap, ◌∙◌, inl, inr, ⊎_elim, arith}
use Rattle.std.proofs.lemmas.Bool.Decides.{nat_tests}
use Rattle.std.proofs.lemmas.Bool.{cases_eq, cases_Bool, cases_lt}
use Rattle.theory.specs.Graph.{Graph, Simple, Lowest, same_pair, joining, no_joins}
use Rattle.theory.proofs.Sizes.{alike, pair_adj}
use Rattle.bits.specs.Copy.{passed, copied}

-- pairs that are not joined need no care
where_joined : (p q j : Bool) → (j ≡ true → p ≡ q) → (p && j) ≡ (q && j)
where_joined p q true h = ap (λ v. v && true) (h refl)
where_joined p q false h = grind (arith, nat_tests)

none_passed : (x y : ℕ) → (x ≡ y → ⊥) → passed 0 1 x y ≡ false
none_passed x y ne = grind (arith, nat_tests)

pub copied_none : (m : Graph) → Simple m → copied m 0 1 ≡ no_joins m.tables
copied_none m s = alike m.tables (λ x y. passed 0 1 x y && m.adj x y) (λ _ _. false) (λ x y. ⊎_elim
    (λ (e : x ≡ y). let no_loop : m.adj x y ≡ false = ap (m.adj x) (sym e) ∙ s.loopless x in grind (arith, nat_tests))
    (λ (ne : x ≡ y → ⊥). let off : passed 0 1 x y ≡ false = none_passed x y ne in grind (arith, nat_tests))
    (cases_eq x y))

all_passed : (n x y : ℕ) → x < n → passed n (n + 1) x y ≡ true
all_passed n x y l = grind (arith, nat_tests)

pub copied_all : (m : Graph) → Simple m → copied m m.tables (m.tables + 1) ≡ m
copied_all m s = alike m.tables (λ x y. passed m.tables (m.tables + 1) x y && m.adj x y) m.adj (λ x y. ⊎_elim
    (λ (e : m.adj x y ≡ true). let on : passed m.tables (m.tables + 1) x y ≡ true = all_passed m.tables x y (s.within x y e) in grind (arith, nat_tests))
    (λ (e : m.adj x y ≡ false). grind (arith, nat_tests))
    (cases_Bool (m.adj x y)))

-- what is joined with a table is a table
pub other_small : (m : Graph) → Simple m → (v w : ℕ) → m.adj v w ≡ true → w < m.tables
other_small m s v w t = s.within w v (s.symmetric w v ∙ t)

module _ (m : Graph) (s : Simple m) (v b : ℕ) (above : v + 1 ≤ b) where
  -- the row goes on to the next one where no join of v is left
  row_passed : ((j : ℕ) → b ≤ j → m.adj v j ≡ false) → (x y : ℕ) → m.adj x y ≡ true → passed v b x y ≡ passed (v + 1) (v + 2) x y
  row_passed over x y e =
      let ne : x ≡ y → ⊥ = λ (q : x ≡ y). absurd (let z : true ≡ false = sym e ∙ ap (m.adj x) (sym q) ∙ s.loopless x in grind (arith, nat_tests)) in
      let right : x ≡ v → y < b = λ (q : x ≡ v). ⊎_elim (λ l. l) (λ l. absurd (let z : true ≡ false = sym e ∙ ap (λ k. m.adj k y) q ∙ over y l in grind (arith, nat_tests))) (cases_lt y b) in
      let left : y ≡ v → x < b = λ (q : y ≡ v). ⊎_elim (λ l. l) (λ l. absurd (let z : true ≡ false = sym e ∙ s.symmetric x y ∙ ap (λ k. m.adj k x) q ∙ over x l in grind (arith, nat_tests))) (cases_lt x b) in
      grind (arith, nat_tests)

  pub copied_row : ((j : ℕ) → b ≤ j → m.adj v j ≡ false) → copied m v b ≡ copied m (v + 1) (v + 2)
  copied_row over = alike m.tables (λ x y. passed v b x y && m.adj x y) (λ x y. passed (v + 1) (v + 2) x y && m.adj x y)
      (λ x y. where_joined (passed v b x y) (passed (v + 1) (v + 2) x y) (m.adj x y) (row_passed over x y))

  module _ (w : ℕ) (low : Lowest (m.adj v) b w) where
    join_passed : (x y : ℕ) → m.adj x y ≡ true → passed v (w + 1) x y ≡ (same_pair v w x y || passed v b x y)
    join_passed x y e =
        let up : b ≤ w = low.above in
        let right : x ≡ v → (y < b) ⊎ (w ≤ y) = λ (q : x ≡ v). ⊎_elim (λ l. inl l) (λ l. ⊎_elim (λ k. absurd (let z : true ≡ false = sym e ∙ ap (λ k. m.adj k y) q ∙ low.none y l k in grind (arith, nat_tests))) (λ k. inr k) (cases_lt y w)) (cases_lt y b) in
        let left : y ≡ v → (x < b) ⊎ (w ≤ x) = λ (q : y ≡ v). ⊎_elim (λ l. inl l) (λ l. ⊎_elim (λ k. absurd (let z : true ≡ false = sym e ∙ s.symmetric x y ∙ ap (λ k. m.adj k x) q ∙ low.none x l k in grind (arith, nat_tests))) (λ k. inr k) (cases_lt x w)) (cases_lt x b) in
        grind (arith, nat_tests)

    -- the pair itself is joined
    pair_joined : (x y : ℕ) → same_pair v w x y ≡ true → m.adj x y ≡ true
    pair_joined x y e = pair_adj m v w x y s low.holds e

    join_tests : (p q c j : Bool) → (j ≡ true → p ≡ (c || q)) → (c ≡ true → j ≡ true) → (p && j) ≡ (c || (q && j))
    join_tests p q true true h k = ap (λ v. v && true) (h refl)
    join_tests p q true false h k = absurd (let z : false ≡ true = k refl in grind (arith, nat_tests))
    join_tests p q false true h k = ap (λ v. v && true) (h refl)
    join_tests p q false false h k = grind (arith, nat_tests)

    copied_join : copied m v (w + 1) ≡ joining (copied m v b) v w
    copied_join = alike m.tables (λ x y. passed v (w + 1) x y && m.adj x y) (λ x y. same_pair v w x y || (passed v b x y && m.adj x y))
        (λ x y. join_tests (passed v (w + 1) x y) (passed v b x y) (same_pair v w x y) (m.adj x y) (join_passed x y) (pair_joined x y))

    -- what the pair is put into, and what it makes of it
    pub join_next : (k l : Graph) → k ≡ copied m v b → l ≡ joining k v w → l ≡ copied m v (w + 1)
    join_next k l is made = made ∙ ap (λ (h : Graph). joining h v w) is ∙ sym copied_join

    pub copied_apart : (copied m v b).adj v w ≡ false
    copied_apart = let up : b ≤ w = low.above in let off : passed v b v w ≡ false = grind (arith, nat_tests) in ap (λ c. c && m.adj v w) off
