-- Joins taken out of a part, and a table spliced out of it: the steps that put them back.
--
--   builds_more, one_step      builds one after another, and of one step
--   part_path                  parts that agree on every table and on every pair are equal
--   SimplePart p               what holds of the joins of a part
--   apart, ends_in             what a join tells of its two tables
--   append_nil, append_more, reversed_append   lists put together, and reversed
--   unjoin_simple, stripped_simple          joins taken out leave a simple part
--   stripped_in_use, stripped_joins         what is left when the joins of u with some tables are taken out
--   undo_edge, undo_stripped, undo_node     the steps that put back one join, those joins, and the table u
use Rattle.std.proofs.Common.{◌≡◌, ℕ, Bool, true, false, not, ◌&&◌, ◌||◌, eqb, ltb, ◌⊎◌, List, [], ◌∷◌, ◌++◌, sym, refl, ap, ◌∙◌, subst, ⊎_elim, arith}
use Rattle.std.proofs.lemmas.Bool.{cases_eq, cases_Bool, both_ways}
use Rattle.std.proofs.lemmas.Bool.Decides.{nat_tests}
use Rattle.theory.specs.Graph.{same_pair}
use Rattle.theory.specs.Build.{Part, Allowed, after, with_join, without_join, with_table, Builds, done, next}
use Rattle.theory.specs.declared.step.Step.{Step}
use Rattle.theory.specs.declared.step.Step.TheVariants.{Edge, Node}
use Rattle.disassembly.specs.Walks.{SimpleOn, without}
use Rattle.disassembly.specs.Search.{has}
use Rattle.disassembly.specs.Disassembly.{edge, node, unjoin, stripped, spliced, edges, reversed}
use Rattle.disassembly.proofs.Members.{has_more, has_head, Distinct}

-- ---- builds and parts

pub builds_more : {p q s : Part} {l m : List Step} → Builds p l q → Builds q m s → Builds p (l ++ m) s
builds_more done b = b
builds_more (next ok a) b = next ok (builds_more a b)

pub part_path : (p q : Part) → ((x : ℕ) → p.in_use x ≡ q.in_use x) → ((x y : ℕ) → p.joins x y ≡ q.joins x y) → p ≡ q
part_path p q u j = λ i. record { in_use = λ x. u x i; joins = λ x y. j x y i }

pub one_step : (s : Step) (p q : Part) → Allowed s p → after s p ≡ q → Builds p (s ∷ []) q
one_step s p q ok e = next ok (subst (λ k. Builds (after s p) [] k) e done)

abbrev pub SimplePart : Part → Type 0
SimplePart p = SimpleOn p.in_use p.joins

pub apart : (p : Part) → SimplePart p → (a b : ℕ) → p.joins a b ≡ true → a ≡ b → ⊥
apart p s a b j e = both_ways (p.joins b b) (s.loopless b) (subst (λ x. p.joins x b ≡ true) e j)

pub ends_in : (p : Part) → SimplePart p → (a b : ℕ) → p.joins a b ≡ true → (p.in_use a ≡ true) × (p.in_use b ≡ true)
ends_in p s a b j = (s.within a b j, s.within b a (s.symmetric b a ∙ j))

pub append_nil : {A : Type 0} (l : List A) → l ++ [] ≡ l
append_nil [] = refl
append_nil (x ∷ l) = ap (λ k. x ∷ k) (append_nil l)

pub append_more : {A : Type 0} (l m n : List A) → (l ++ m) ++ n ≡ l ++ (m ++ n)
append_more [] m n = refl
append_more (x ∷ l) m n = ap (λ k. x ∷ k) (append_more l m n)

pub reversed_append : {A : Type 0} (l m : List A) → reversed (l ++ m) ≡ reversed m ++ reversed l
reversed_append [] m = sym (append_nil (reversed m))
reversed_append (x ∷ l) m = ap (λ k. k ++ (x ∷ [])) (reversed_append l m) ∙ append_more (reversed m) (reversed l) (x ∷ [])

-- ---- one join

without_true : (v w : ℕ) (J : ℕ → ℕ → Bool) (a b : ℕ) → without_join v w J a b ≡ true → J a b ≡ true
without_true v w J a b h = grind (arith, nat_tests)

without_false : (v w : ℕ) (J : ℕ → ℕ → Bool) (a b : ℕ) → J a b ≡ false → without_join v w J a b ≡ false
without_false v w J a b h = grind (arith, nat_tests)

without_same : (v w : ℕ) (J : ℕ → ℕ → Bool) (a b : ℕ) → J a b ≡ J b a → without_join v w J a b ≡ without_join v w J b a
without_same v w J a b h = grind (arith, nat_tests)

pub unjoin_simple : (v w : ℕ) (p : Part) → SimplePart p → SimplePart (unjoin v w p)
unjoin_simple v w p s = record {
  few = s.few;
  symmetric = λ a b. without_same v w p.joins a b (s.symmetric a b);
  loopless = λ a. without_false v w p.joins a a (s.loopless a);
  within = λ a b h. s.within a b (without_true v w p.joins a b h);
}

pair_is : (v w x y : ℕ) → same_pair v w x y ≡ true → ((x ≡ v) × (y ≡ w)) ⊎ ((x ≡ w) × (y ≡ v))
pair_is v w x y e = grind (arith, nat_tests)

back_again : (v w : ℕ) (J : ℕ → ℕ → Bool) → J v w ≡ true → J w v ≡ true → (x y : ℕ) → with_join v w (without_join v w J) x y ≡ J x y
back_again v w J h k x y =
    ⊎_elim
    (λ (e : same_pair v w x y ≡ true).
    let j : J x y ≡ true = ⊎_elim (λ z. rw (z.0, z.1) h) (λ z. rw (z.0, z.1) k) (pair_is v w x y e) in
    grind arith)
    (λ (e : same_pair v w x y ≡ false). grind arith)
    (cases_Bool (same_pair v w x y))

pub undo_edge : (v w : ℕ) (p : Part) → SimplePart p → p.joins v w ≡ true → Builds (unjoin v w p) (edge v w ∷ []) p
undo_edge v w p s j =
    ⊎_elim
    (λ e. rw (up e) (one_step (Edge v w) (unjoin v w p) p (iv, iw, apart p s v w j, off v w)
    (part_path (after (Edge v w) (unjoin v w p)) p (λ x. refl) (back_again v w p.joins j jw))))
    (λ e. rw (down e) (one_step (Edge w v) (unjoin v w p) p (iw, iv, (λ k. apart p s v w j (sym k)), off_turned v w)
    (part_path (after (Edge w v) (unjoin v w p)) p (λ x. refl) (λ x y. turned x y ∙ back_again v w p.joins j jw x y))))
    (cases_Bool (ltb v w))
  where
    jw : p.joins w v ≡ true
    jw = s.symmetric w v ∙ j

    iv : p.in_use v ≡ true
    iv = s.within v w j

    iw : p.in_use w ≡ true
    iw = s.within w v jw

    up : ltb v w ≡ true → edge v w ≡ Edge v w
    up e = rw e

    down : ltb v w ≡ false → edge v w ≡ Edge w v
    down e = rw e

    off : (v w : ℕ) → without_join v w p.joins v w ≡ false
    off v w = grind (arith, nat_tests)

    off_turned : (v w : ℕ) → without_join v w p.joins w v ≡ false
    off_turned v w = grind (arith, nat_tests)

    turned : (x y : ℕ) → with_join w v (without_join v w p.joins) x y ≡ with_join v w (without_join v w p.joins) x y
    turned x y = grind (arith, nat_tests)

-- ---- the joins of one table with some others

without_other : (u v : ℕ) (J : ℕ → ℕ → Bool) (x : ℕ) → (u ≡ v → ⊥) → (x ≡ v → ⊥) → without_join u v J u x ≡ J u x
without_other u v J x n m = grind (arith, nat_tests)

pub undo_stripped : (u : ℕ) (vs : List ℕ) (p : Part) → SimplePart p → Distinct vs → ((x : ℕ) → has vs x ≡ true → p.joins u x ≡ true)
    → Builds (stripped u vs p) (reversed (edges u vs)) p
undo_stripped u [] p s d h = done
undo_stripped u (v ∷ vs) p s d h =
    let j : p.joins u v ≡ true = h v (has_head v vs) in
    builds_more (undo_stripped u vs (unjoin u v p) (unjoin_simple u v p s) d.1
    (λ x k. without_other u v p.joins x (apart p s u v j) (λ e. both_ways (has vs v) d.0 (subst (λ z. has vs z ≡ true) e k)) ∙ h x (has_more v vs x k)))
    (undo_edge u v p s j)

pub stripped_simple : (u : ℕ) (vs : List ℕ) (p : Part) → SimplePart p → SimplePart (stripped u vs p)
stripped_simple u [] p s = s
stripped_simple u (v ∷ vs) p s = stripped_simple u vs (unjoin u v p) (unjoin_simple u v p s)

pub stripped_in_use : (u : ℕ) (vs : List ℕ) (p : Part) → (stripped u vs p).in_use ≡ p.in_use
stripped_in_use u [] p = refl
stripped_in_use u (v ∷ vs) p = stripped_in_use u vs (unjoin u v p)

pub stripped_joins : (u : ℕ) (vs : List ℕ) (p : Part) (x y : ℕ) → (stripped u vs p).joins x y ≡ (not ((eqb u x && has vs y) || (eqb u y && has vs x)) && p.joins x y)
stripped_joins u [] p x y = grind (arith, nat_tests)
stripped_joins u (v ∷ vs) p x y = stripped_joins u vs (unjoin u v p) x y ∙ grind (arith, nat_tests)

-- ---- a table on the join of two others

-- the joins after u is put on the join of f and a again
module _ (u f a : ℕ) (J : ℕ → ℕ → Bool) (same : (x y : ℕ) → J x y ≡ J y x) (fu : u ≡ f → ⊥) (au : u ≡ a → ⊥)
    (uf : J u f ≡ true) (ua : J u a ≡ true) (nfa : J f a ≡ false) (only : (x : ℕ) → J u x ≡ true → (x ≡ f) ⊎ (x ≡ a)) where
  rest : ℕ → ℕ → Bool
  rest x y = (not (eqb u x) && not (eqb u y)) && J x y

  splice_u : (y : ℕ) → with_join u a (with_join u f (without_join f a (with_join f a rest))) u y ≡ J u y
  unfolding rest
  splice_u y =
      ⊎_elim
      (λ (e : y ≡ f). rw e (grind (arith, nat_tests)))
      (λ (nf : y ≡ f → ⊥). ⊎_elim
      (λ (e : y ≡ a). rw e (grind (arith, nat_tests)))
      (λ (na : y ≡ a → ⊥). let no_join : J u y ≡ false = grind arith in grind (arith, nat_tests))
      (cases_eq y a))
      (cases_eq y f)

  splice_off : (x y : ℕ) → (x ≡ u → ⊥) → (y ≡ u → ⊥) → with_join u a (with_join u f (without_join f a (with_join f a rest))) x y ≡ J x y
  unfolding rest
  splice_off x y nx ny =
      let naf : J a f ≡ false = same a f ∙ nfa in
      ⊎_elim (λ (e : same_pair f a x y ≡ true). grind (arith, nat_tests)) (λ (e : same_pair f a x y ≡ false). grind (arith, nat_tests)) (cases_Bool (same_pair f a x y))

  splice_turned : (x y : ℕ) → with_join u a (with_join u f (without_join f a (with_join f a rest))) x y ≡ with_join u a (with_join u f (without_join f a (with_join f a rest))) y x
  unfolding rest
  splice_turned x y = let e = same x y in grind (arith, nat_tests)

  splice_all : (x y : ℕ) → with_join u a (with_join u f (without_join f a (with_join f a (λ x y. (not (eqb u x) && not (eqb u y)) && J x y)))) x y ≡ J x y
  unfolding rest
  splice_all x y =
      ⊎_elim
      (λ (e : x ≡ u). rw e (splice_u y))
      (λ nx. ⊎_elim (λ (e : y ≡ u). rw e (splice_turned x u ∙ splice_u x ∙ same u x)) (λ ny. splice_off x y nx ny) (cases_eq y u))
      (cases_eq x u)

-- u on the join of f and a, where its other joins are gone and f and a are not joined otherwise
module _ (u f a : ℕ) (q : Part) (s : SimplePart q) (uf : q.joins u f ≡ true) (ua : q.joins u a ≡ true) (fa : f ≡ a → ⊥) (nfa : q.joins f a ≡ false)
    (only : (x : ℕ) → q.joins u x ≡ true → (x ≡ f) ⊎ (x ≡ a)) where
  pub undo_node : Builds (spliced u f a q) (node u f a ∷ []) q
  undo_node =
      ⊎_elim
      (λ e. rw (up e) (one_step (Node u f a) (spliced u f a q) q (nu, uses f (λ k. fu (sym k)) inf, uses a (λ k. au (sym k)) ina, fa, grind (arith, nat_tests))
      (part_path (after (Node u f a) (spliced u f a q)) q use_same (λ x y. joins_same x y))))
      (λ e. rw (down e) (one_step (Node u a f) (spliced u f a q) q (nu, uses a (λ k. au (sym k)) ina, uses f (λ k. fu (sym k)) inf, (λ k. fa (sym k)), grind (arith, nat_tests))
      (part_path (after (Node u a f) (spliced u f a q)) q use_same (λ x y. swapped x y ∙ joins_same x y))))
      (cases_Bool (ltb f a))
    where
      fu : u ≡ f → ⊥
      fu = apart q s u f uf

      au : u ≡ a → ⊥
      au = apart q s u a ua

      inu : q.in_use u ≡ true
      inu = s.within u f uf

      inf : q.in_use f ≡ true
      inf = (ends_in q s u f uf).1

      ina : q.in_use a ≡ true
      ina = (ends_in q s u a ua).1

      nu : without u q.in_use u ≡ false
      nu = grind (arith, nat_tests)

      uses : (x : ℕ) → (x ≡ u → ⊥) → q.in_use x ≡ true → without u q.in_use x ≡ true
      uses x n h = grind (arith, nat_tests)

      use_same : (x : ℕ) → with_table u (without u q.in_use) x ≡ q.in_use x
      use_same x = ⊎_elim (λ (e : x ≡ u). rw e (grind (arith, nat_tests))) (λ e. grind (arith, nat_tests)) (cases_eq x u)

      up : ltb f a ≡ true → node u f a ≡ Node u f a
      up e = rw e

      down : ltb f a ≡ false → node u f a ≡ Node u a f
      down e = rw e

      joins_same : (x y : ℕ) → (after (Node u f a) (spliced u f a q)).joins x y ≡ q.joins x y
      joins_same = splice_all u f a q.joins s.symmetric fu au uf ua nfa only

      swapped : (x y : ℕ) → (after (Node u a f) (spliced u f a q)).joins x y ≡ (after (Node u f a) (spliced u f a q)).joins x y
      swapped x y = grind (arith, nat_tests)
