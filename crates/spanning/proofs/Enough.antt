-- Marks without a ring, one fewer than tables, connect all of them. The tables that are their own label are counted: without marks
-- all are, and each mark takes one away.
--
--   Counted t         labels for the marks of t, where the tables that are their own label and the marks are as many as the tables
--   counted_join      one more mark
--   forest_counted    a forest has such labels
--   enough_marks      one fewer than tables connect all
--   forest_spanning   such a forest is a spanning tree
use Rattle.std.proofs.Common.{◌≡◌, ℕ, zero, suc, ◌+◌, ◌<◌, Bool, true, false, cond, not, ◌&&◌, eqb, ◌⊎◌, sym, refl, ap, ◌∙◌, subst, inl, inr, ⊎_elim, arith}
use Rattle.std.proofs.lemmas.Bool.{cases_eq, cases_order, both_ways, eq-eqb, ltb-true}
use Rattle.std.proofs.lemmas.Bool.Decides.{nat_tests}
use Rattle.theory.specs.Graph.{Graph, Simple, joined, is_table, table_count, joining, unjoining, count, size}
use Rattle.theory.proofs.Sizes.{count_one, joining_size, joining_back, unjoining_size}
use Rattle.disassembly.specs.Walks.{here, on, Reaches, Connected}
use Rattle.disassembly.proofs.Walks.{stays}
use Rattle.spanning.specs.Spanning.{Spanning}
use Rattle.spanning.specs.Laws.{EnoughMarks}
use Rattle.spanning.proofs.Counting.{none_paired, some_paired, count_less}
use Rattle.spanning.proofs.Forests.{Forest, forest_less, apart_tables, apart_unmarked}
use Rattle.spanning.proofs.Labels.{Labelled, merged, labels_join}

pub record Counted (t : Graph) : Type 0 where
  pub label : ℕ → ℕ
  pub labelled : Labelled t label
  -- a label is a table, and its own label
  pub table : (x : ℕ) → x < table_count t → label x < table_count t
  pub settled : (x : ℕ) → x < table_count t → label (label x) ≡ label x
  pub total : count (λ x. eqb (label x) x) (table_count t) + size t ≡ table_count t

-- ---- counting

count_all : (n : ℕ) → count (λ x. eqb x x) n ≡ n
count_all zero = refl
count_all (suc n) =
    let ih : count (λ x. eqb x x) n ≡ n = count_all n in
    let e : eqb n n ≡ true = grind (arith, nat_tests) in
    grind arith

-- two numbers that pass are at least two
two_counted : (p : ℕ → Bool) (n : ℕ) → count p n ≡ 1 → (x y : ℕ) → x < n → y < n → p x ≡ true → p y ≡ true → x ≡ y
two_counted p n one x y xn yn px py = ⊎_elim (λ e. e)
    (λ (ne : x ≡ y → ⊥).
    let less : count (λ k. p k && not (eqb k x)) n < count p n = count_less (λ k. p k && not (eqb k x)) p n (λ k h. first (p k) (not (eqb k x)) h) x xn (here_not x px) px in
    let more : count (λ _. false) n < count (λ k. p k && not (eqb k x)) n =
    count_less (λ _. false) (λ k. p k && not (eqb k x)) n (λ k h. absurd (both_ways false refl h)) y yn refl (there y py ne) in
    absurd (omega arith))
    (cases_eq x y)
  where
    first : (a b : Bool) → (a && b) ≡ true → a ≡ true
    first a b h = grind arith

    here_not : (k : ℕ) → p k ≡ true → (p k && not (eqb k k)) ≡ false
    here_not k h = grind (arith, nat_tests)

    there : (k : ℕ) → p k ≡ true → (x ≡ k → ⊥) → (p k && not (eqb k x)) ≡ true
    there k h n = grind (arith, nat_tests)

-- ---- without marks

module _ (t : Graph) (s : Simple t) (none : size t ≡ 0) where
  no_mark : (a b : ℕ) → joined t a b ≡ true → ⊥
  no_mark a b j = ⊎_elim
      (λ (e : a ≡ b). both_ways (joined t a a) (s.loopless a) (subst (λ x. joined t a x ≡ true) (sym e) j))
      (⊎_elim
      (λ l. both_ways (joined t a b) (none_paired (joined t) (table_count t) none a b l (s.within b a (s.symmetric b a ∙ j))) j)
      (λ l. both_ways (joined t b a) (none_paired (joined t) (table_count t) none b a l (s.within a b j)) (s.symmetric b a ∙ j)))
      (cases_order a b)

  no_walk : {x y : ℕ} → Reaches (is_table t) (joined t) x y → x ≡ y
  no_walk here = refl
  no_walk (on {a = c} {b = d} l w) = absurd (no_mark c d l.0)

  counted_start : Counted t
  counted_start = record {
    label = λ x. x;
    labelled = λ x y xn yn. (stays, no_walk);
    table = λ x l. l;
    settled = λ x l. refl;
    total = let c : count (λ x. eqb x x) (table_count t) ≡ table_count t = count_all (table_count t) in omega arith;
  }

-- ---- one more mark

module _ (label : ℕ → ℕ) (a b : ℕ) (ne : label a ≡ label b → ⊥) (settled-a : label (label a) ≡ label a) (settled-b : label (label b) ≡ label b) where
  -- the label of b is no longer its own; other tables are as they were
  gone : eqb (merged label a b (label b)) (label b) ≡ false
  gone = let e : merged label a b (label b) ≡ label a = rw settled-b (grind (arith, nat_tests)) in rw e (apart (label a) (label b) ne)
    where
      apart : (x y : ℕ) → (x ≡ y → ⊥) → eqb x y ≡ false
      apart x y n = grind (arith, nat_tests)

  kept : (x : ℕ) → (x ≡ label b → ⊥) → eqb (merged label a b x) x ≡ eqb (label x) x
  kept x n = ⊎_elim
      (λ (e : label x ≡ label b).
      let own : label x ≡ x → ⊥ = λ k. n (sym k ∙ e) in
      let other : label a ≡ x → ⊥ = λ k. ne (sym settled-a ∙ ap label k ∙ e) in
      at (label x) (label a) (label b) x e own other)
      (λ (k : label x ≡ label b → ⊥). off (label x) (label a) (label b) x k)
      (cases_eq (label x) (label b))
    where
      at : (l c d y : ℕ) → l ≡ d → (l ≡ y → ⊥) → (c ≡ y → ⊥) → eqb (cond (eqb l d) c l) y ≡ eqb l y
      at l c d y e k m = grind (arith, nat_tests)

      off : (l c d y : ℕ) → (l ≡ d → ⊥) → eqb (cond (eqb l d) c l) y ≡ eqb l y
      off l c d y k = grind (arith, nat_tests)

  merged_either : (x : ℕ) → (merged label a b x ≡ label a) ⊎ ((label x ≡ label b → ⊥) × (merged label a b x ≡ label x))
  merged_either x = either (label x) (label a) (label b)
    where
      either : (l c d : ℕ) → (cond (eqb l d) c l ≡ c) ⊎ ((l ≡ d → ⊥) × (cond (eqb l d) c l ≡ l))
      either l c d = ⊎_elim (λ (e : l ≡ d). inl (grind (arith, nat_tests))) (λ (n : l ≡ d → ⊥). inr (n, grind (arith, nat_tests))) (cases_eq l d)

  -- a merged label has itself as its merged label
  merged_settled : (x : ℕ) → label (label x) ≡ label x → merged label a b (merged label a b x) ≡ merged label a b x
  merged_settled x own = ⊎_elim
      (λ (e : merged label a b x ≡ label a). ap (merged label a b) e ∙ at_own (label a) settled-a ne ∙ sym e)
      (λ q. ap (merged label a b) q.1 ∙ at_own (label x) own q.0 ∙ sym q.1)
      (merged_either x)
    where
      at_own : (y : ℕ) → label y ≡ y → (y ≡ label b → ⊥) → merged label a b y ≡ y
      at_own y e n = grind (arith, nat_tests)

pub counted_join : (t : Graph) → Simple t → (a b : ℕ) → a < table_count t → b < table_count t → (Reaches (is_table t) (joined t) a b → ⊥) → Counted t → Counted (joining t a b)
counted_join t s a b an bn apart c =
    let ne : c.label a ≡ c.label b → ⊥ = λ e. apart ((c.labelled a b an bn).0 e) in
    let sa : c.label (c.label a) ≡ c.label a = c.settled a an in
    let sb : c.label (c.label b) ≡ c.label b = c.settled b bn in
    record {
      label = merged c.label a b;
      labelled = labels_join t c.label c.labelled a b an bn;
      table = λ x l. ⊎_elim
          (λ (e : merged c.label a b x ≡ c.label a). subst (λ y. y < table_count t) (sym e) (c.table a an))
          (λ q. subst (λ y. y < table_count t) (sym q.1) (c.table x l))
          (merged_either c.label a b ne sa sb x);
      settled = λ x l. merged_settled c.label a b ne sa sb x (c.settled x l);
      total =
          let fewer : count (λ x. eqb (c.label x) x) (table_count t) ≡ count (λ x. eqb (merged c.label a b x) x) (table_count t) + 1 =
          count_one (λ x. eqb (merged c.label a b x) x) (λ x. eqb (c.label x) x) (c.label b) (table_count t) (c.table b bn)
          (gone c.label a b ne sa sb) (eq-eqb (c.label (c.label b)) (c.label b) sb) (λ k _ n. kept c.label a b ne sa sb k n) in
          let more : size (joining t a b) ≡ size t + 1 = joining_size t a b an bn (apart_tables t a b apart) s (apart_unmarked t s a b apart) in
          let all : count (λ x. eqb (c.label x) x) (table_count t) + size t ≡ table_count t = c.total in
          omega arith;
    }

-- ---- a forest, mark by mark

forest_from : (k : ℕ) (t : Graph) → Forest t → size t ≡ k → Counted t
forest_from zero t f e = counted_start t f.simple e
forest_from (suc k) t f e =
    let q = some_paired (joined t) (table_count t) (omega arith) in
    let a = q.0 in
    let b = q.1 in
    let j : joined t a b ≡ true = q.4 in
    let an : a < table_count t = f.simple.within a b j in
    let less : size t ≡ size (unjoining t a b) + 1 = unjoining_size t a b an q.3 (λ z. let l : a < b = q.2 in omega arith) f.simple j in
    let rest : Counted (unjoining t a b) = forest_from k (unjoining t a b) (forest_less t f a b) (omega arith) in
    subst Counted (joining_back t a b f.simple j) (counted_join (unjoining t a b) (forest_less t f a b).simple a b an q.3 (f.acyclic a b j) rest)

pub forest_counted : (t : Graph) → Forest t → Counted t
forest_counted t f = forest_from (size t) t f refl

connects : (t : Graph) → Forest t → size t + 1 ≡ table_count t → Connected (is_table t) (joined t)
connects t f e a b ua ub =
    let c = forest_counted t f in
    let an : a < table_count t = ltb-true a (table_count t) ua in
    let bn : b < table_count t = ltb-true b (table_count t) ub in
    let all : count (λ x. eqb (c.label x) x) (table_count t) + size t ≡ table_count t = c.total in
    (c.labelled a b an bn).0 (two_counted (λ x. eqb (c.label x) x) (table_count t) (omega arith) (c.label a) (c.label b) (c.table a an) (c.table b bn)
    (eq-eqb (c.label (c.label a)) (c.label a) (c.settled a an)) (eq-eqb (c.label (c.label b)) (c.label b) (c.settled b bn)))

pub enough_marks : EnoughMarks
enough_marks t s ring-free e = connects t (record { simple = s; acyclic = ring-free }) e

pub forest_spanning : (t : Graph) → Forest t → size t + 1 ≡ table_count t → Spanning t
forest_spanning t f e = record { simple = f.simple; connected = connects t f e; acyclic = f.acyclic; fewer = e }
