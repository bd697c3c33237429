-- Marks gathered one after another: what they make, and what is told of them.
--
--   with_more, with_none, marked_with
--                      one mark, and then the others; no mark; marks put into tables without joins
--   size_marks         no mark makes more than one join
--   all_first, all_rest, all_more
--                      the first of marks that are joins, and the others
--   Gathered, gathers  what is accepted is a forest of one join for each mark, all of them joins of the graph
--   gathers_all        and such marks are accepted
--   Refused, refuses   what a refusal tells
use Rattle.std.proofs.Common.{◌≡◌, ℕ, zero, suc, ◌+◌, ◌<◌, ◌≤◌, Bool, true, false, not, ◌&&◌, ◌||◌, ◌≢◌, List, [], ◌∷◌, length, take, slice_get, Some, None, Ok, Err, sym, refl, ap, ◌∙◌, subst, ⊎_elim, arith}
use Rattle.std.proofs.lemmas.Bool.{cases_Bool, both_ways}
use Rattle.std.proofs.lemmas.Bool.Decides.{nat_tests}
use Rattle.theory.specs.Build.{without_join}
use Rattle.theory.specs.Graph.{Graph, Simple, joined, is_table, table_count, same_pair, joining, no_joins, size}
use Rattle.theory.specs.declared.mark.Mark.{Mark}
use Rattle.theory.proofs.Sizes.{alike, pair_adj, pair_itself, joining_simple, joining_size}
use Rattle.disassembly.specs.Walks.{Reaches}
use Rattle.disassembly.proofs.Walks.{bind, one}
use Rattle.spanning.specs.Laws.{Acyclic}
use Rattle.spanning.proofs.Forests.{Forest, forest_join, apart_unmarked}
use Rattle.trees.specs.Tree.{leads, mark_answer, refused_at, marks_judged, has_mark, marked, AllJoins, MarkAmiss}
use Rattle.trees.specs.Forest.{with_marks}
use Rattle.trees.specs.declared.fault.MarkFault.{MarkFault}
use Rattle.trees.specs.declared.fault.TreeFault.{TreeFault}
use Rattle.trees.specs.declared.fault.TreeFault.TheVariants as filling
use Rattle.trees.proofs.Leads.{leads_walk, apart_walk}
use Rattle.trees.proofs.Judged.{Accepted, accepted, accepts, amiss, not_amiss, answer_cases}

-- ---- what marks make

shifted : (p q r : Bool) → ((p || q) || r) ≡ (q || (p || r))
shifted p q r = grind arith

or_none : (p : Bool) → (p || false) ≡ p
or_none p = grind arith

pub with_more : (t : Graph) (k : Mark) (l : List Mark) → with_marks t (k ∷ l) ≡ with_marks (joining t k.v k.w) l
with_more t k l = alike t.tables (λ a b. (same_pair k.v k.w a b || has_mark l a b) || t.adj a b) (λ a b. has_mark l a b || (same_pair k.v k.w a b || t.adj a b))
    (λ a b. shifted (same_pair k.v k.w a b) (has_mark l a b) (t.adj a b))

pub with_none : (t : Graph) → with_marks t [] ≡ t
with_none t = refl

pub marked_with : (n : ℕ) (l : List Mark) → with_marks (no_joins n) l ≡ marked n l
marked_with n l = alike n (λ a b. has_mark l a b || false) (has_mark l) (λ a b. or_none (has_mark l a b))

-- ---- marks that are joins

pub all_first : (m : Graph) (k : Mark) (l : List Mark) → AllJoins m (k ∷ l) → joined m k.v k.w ≡ true
all_first m k l h = h 0 k refl

pub all_rest : (m : Graph) (k : Mark) (l : List Mark) → AllJoins m (k ∷ l) → AllJoins m l
all_rest m k l h i x e = h (suc i) x e

none_joins : (m : Graph) → AllJoins m []
none_joins m i x e = absurd (let z : None ≡ Some x = e in cc)

pub all_more : (m : Graph) (k : Mark) (l : List Mark) → joined m k.v k.w ≡ true → AllJoins m l → AllJoins m (k ∷ l)
all_more m k l j h zero x e = let same : k ≡ x = (let z : Some k ≡ Some x = e in cc) in subst (λ (y : Mark). joined m y.v y.w ≡ true) same j
all_more m k l j h (suc i) x e = h i x e

-- the ends of a mark that is a join of m
record Ends (m : Graph) (k : Mark) : Type 0 where
  first : k.v < table_count m
  second : k.w < table_count m
  two : k.v ≢ k.w

ends : (m : Graph) → Simple m → (k : Mark) → joined m k.v k.w ≡ true → Ends m k
ends m s k j = record {
  first = s.within k.v k.w j;
  second = s.within k.w k.v (s.symmetric k.w k.v ∙ j);
  two = λ e. both_ways (joined m k.v k.v) (s.loopless k.v) (subst (λ x. joined m k.v x ≡ true) (sym e) j);
}

-- ---- how many joins marks make

-- a pair that is joined already
joined_again : (t : Graph) → Simple t → (a b : ℕ) → joined t a b ≡ true → joining t a b ≡ t
joined_again t s a b j = alike t.tables (λ x y. same_pair a b x y || t.adj x y) t.adj
    (λ x y. absorbed (same_pair a b x y) (t.adj x y) (pair_adj t a b x y s j))
  where
    absorbed : (p q : Bool) → (p ≡ true → q ≡ true) → (p || q) ≡ q
    absorbed true q h = sym (h refl)
    absorbed false q h = refl

size_more : (t : Graph) → Simple t → (a b : ℕ) → a < table_count t → b < table_count t → a ≢ b → size (joining t a b) ≤ size t + 1
size_more t s a b an bn ne = ⊎_elim
    (λ (j : joined t a b ≡ true). let e : size (joining t a b) ≡ size t = ap size (joined_again t s a b j) in omega arith)
    (λ (j : joined t a b ≡ false). let e : size (joining t a b) ≡ size t + 1 = joining_size t a b an bn ne s j in omega arith)
    (cases_Bool (joined t a b))

module _ (m : Graph) (s : Simple m) where
  -- a mark of m among the tables of t
  abbrev Fits : Graph → Type 0
  Fits t = table_count t ≡ table_count m

  in_graph : (t : Graph) → Fits t → (x : ℕ) → x < table_count m → x < table_count t
  in_graph t n x l = omega arith

  pub size_marks : (l : List Mark) (t : Graph) → Simple t → Fits t → AllJoins m l → size (with_marks t l) ≤ size t + length l
  size_marks [] t u n h = let e : size (with_marks t []) ≡ size t = refl in omega arith
  size_marks (k ∷ l) t u n h =
      let at = ends m s k (all_first m k l h) in
      let an : k.v < table_count t = in_graph t n k.v at.first in
      let bn : k.w < table_count t = in_graph t n k.w at.second in
      let more : size (joining t k.v k.w) ≤ size t + 1 = size_more t u k.v k.w an bn at.two in
      let rest : size (with_marks (joining t k.v k.w) l) ≤ size (joining t k.v k.w) + length l =
      size_marks l (joining t k.v k.w) (joining_simple t k.v k.w an bn at.two u) n (all_rest m k l h) in
      let e : size (with_marks t (k ∷ l)) ≡ size (with_marks (joining t k.v k.w) l) = ap size (with_more t k l) in
      let long : length (k ∷ l) ≡ suc (length l) = refl in
      omega arith

  -- ---- a mark that is accepted

  module _ (t : Graph) (f : Forest t) (n : Fits t) (k : Mark) (a : Accepted m t k) where
    apart : Reaches (is_table t) (joined t) k.v k.w → ⊥
    apart = apart_walk t f.simple k.v k.w (in_graph t n k.v a.first) a.apart

    pub forest_more : Forest (joining t k.v k.w)
    forest_more = forest_join t f k.v k.w (in_graph t n k.v a.first) (in_graph t n k.w a.second) apart

    pub one_more : size (joining t k.v k.w) ≡ size t + 1
    one_more = joining_size t k.v k.w (in_graph t n k.v a.first) (in_graph t n k.w a.second) a.two f.simple (apart_unmarked t f.simple k.v k.w apart)

  -- ---- all are accepted

  pub record Gathered (t : Graph) (l : List Mark) : Type 0 where
    pub forest : Forest (with_marks t l)
    pub total : size (with_marks t l) ≡ size t + length l
    pub joins : AllJoins m l

  pub gathers : (l : List Mark) (t : Graph) (i : ℕ) → Forest t → Fits t → marks_judged m t i l ≡ Ok tt → Gathered t l
  unfolding marks_judged
  gathers [] t i f n e = record { forest = f; total = (let z : size (with_marks t []) ≡ size t = refl in omega arith); joins = none_joins m }
  gathers (k ∷ l) t i f n e =
      let again = λ (g : Forest (joining t k.v k.w)) (z : marks_judged m (joining t k.v k.w) (i + 1) l ≡ Ok tt). gathers l (joining t k.v k.w) (i + 1) g n z in
      ⊎_elim
      (λ ok.
      let a = accepted m t k ok in
      let rest : Gathered (joining t k.v k.w) l = again (forest_more t f n k a) (sym (ap (λ r. refused_at i r (marks_judged m (joining t k.v k.w) (i + 1) l)) ok) ∙ e) in
      let more : size (joining t k.v k.w) ≡ size t + 1 = one_more t f n k a in
      let all : size (with_marks (joining t k.v k.w) l) ≡ size (joining t k.v k.w) + length l = rest.total in
      let same : size (with_marks t (k ∷ l)) ≡ size (with_marks (joining t k.v k.w) l) = ap size (with_more t k l) in
      let long : length (k ∷ l) ≡ suc (length l) = refl in
      record {
        forest = subst (λ u. Forest u) (sym (with_more t k l)) rest.forest;
        total = omega arith;
        joins = all_more m k l a.joins rest.joins;
      })
      (λ q. absurd (let z : Err (filling.Mark i q.0) ≡ Ok tt = sym (ap (λ r. refused_at i r (marks_judged m (joining t k.v k.w) (i + 1) l)) q.1) ∙ e in cc))
      (answer_cases (mark_answer m t k))

  -- ---- and only those of a forest

  -- where the marks up to t lead from the one end of k to the other, k repeats one of them or closes a ring
  module _ (t : Graph) (u : Simple t) (n : Fits t) (k : Mark) (l : List Mark) (h : AllJoins m (k ∷ l))
      (free : Acyclic (with_marks t (k ∷ l))) (total : size (with_marks t (k ∷ l)) ≡ size t + length (k ∷ l)) where
    at : Ends m k
    at = ends m s k (all_first m k l h)

    new : joined t k.v k.w ≡ false
    new = ⊎_elim
        (λ (j : joined t k.v k.w ≡ true).
        let e : size (with_marks t (k ∷ l)) ≡ size (with_marks t l) = ap size (with_more t k l ∙ ap (λ g. with_marks g l) (joined_again t u k.v k.w j)) in
        let most : size (with_marks t l) ≤ size t + length l = size_marks l t u n (all_rest m k l h) in
        let long : length (k ∷ l) ≡ suc (length l) = refl in
        let z : size (with_marks t (k ∷ l)) ≡ size t + length (k ∷ l) = total in
        absurd (omega arith))
        (λ j. j)
        (cases_Bool (joined t k.v k.w))

    -- a join of t is another than k, and is among all marks
    other_join : (a b : ℕ) → joined t a b ≡ true → without_join k.v k.w (joined (with_marks t (k ∷ l))) a b ≡ true
    other_join a b j = other (same_pair k.v k.w a b) (has_mark (k ∷ l) a b) (joined t a b) j
        (λ e. both_ways (joined t k.v k.w) new (pair_adj t a b k.v k.w u j (pair_turn k.v k.w a b e)))
      where
        other : (p q r : Bool) → r ≡ true → (p ≡ true → ⊥) → (not p && (q || r)) ≡ true
        other true q r e z = absurd (z refl)
        other false q r e z = grind arith

        pair_turn : (a b x y : ℕ) → same_pair a b x y ≡ true → same_pair x y a b ≡ true
        pair_turn a b x y e = grind (arith, nat_tests)

    is_mark : joined (with_marks t (k ∷ l)) k.v k.w ≡ true
    is_mark = first_of_three (same_pair k.v k.w k.v k.w) (has_mark l k.v k.w) (joined t k.v k.w) (pair_itself k.v k.w)
      where
        first_of_three : (p q r : Bool) → p ≡ true → ((p || q) || r) ≡ true
        first_of_three p q r e = grind arith

    not_led : leads t k.v k.w ≡ false
    not_led = ⊎_elim
        (λ (e : leads t k.v k.w ≡ true).
        absurd (free k.v k.w is_mark (bind (λ c d z. one (other_join c d z.0, z.1, z.2)) (leads_walk t u k.v k.w (in_graph t n k.v at.first) e))))
        (λ e. e)
        (cases_Bool (leads t k.v k.w))

    pub is_accepted : Accepted m t k
    is_accepted = record { first = at.first; second = at.second; two = at.two; joins = all_first m k l h; apart = not_led }

  pub gathers_all : (l : List Mark) (t : Graph) (i : ℕ) → Forest t → Fits t → AllJoins m l → Acyclic (with_marks t l)
      → size (with_marks t l) ≡ size t + length l → marks_judged m t i l ≡ Ok tt
  unfolding marks_judged
  gathers_all [] t i f n h free total = refl
  gathers_all (k ∷ l) t i f n h free total =
      let a = is_accepted t f.simple n k l h free total in
      let more : size (joining t k.v k.w) ≡ size t + 1 = one_more t f n k a in
      let same : size (with_marks t (k ∷ l)) ≡ size (with_marks (joining t k.v k.w) l) = ap size (with_more t k l) in
      let long : length (k ∷ l) ≡ suc (length l) = refl in
      ap (λ r. refused_at i r (marks_judged m (joining t k.v k.w) (i + 1) l)) (accepts m t k a)
      ∙ gathers_all l (joining t k.v k.w) (i + 1) (forest_more t f n k a) n (all_rest m k l h) (subst (λ u. Acyclic u) (with_more t k l) free) (omega arith)

  -- ---- one is refused

  pub record Refused (t : Graph) (i : ℕ) (l : List Mark) (f : TreeFault) : Type 0 where
    pub before : ℕ
    pub mark : Mark
    pub fault : MarkFault
    pub is : f ≡ filling.Mark (i + before) fault
    pub there : slice_get l before ≡ Some mark
    pub joins : AllJoins m (take before l)
    pub acyclic : Acyclic (with_marks t (take before l))
    pub sound : (j : ℕ) (x : Mark) (g : MarkFault) → j < before → slice_get l j ≡ Some x → MarkAmiss m (with_marks t (take j l)) x g → ⊥
    pub told : MarkAmiss m (with_marks t (take before l)) mark fault

  -- nothing is amiss with the first mark, nor with those after it
  sound_more : (t : Graph) (k : Mark) (l : List Mark) (i : ℕ) → Simple t → Fits t → Accepted m t k
      → ((j : ℕ) (x : Mark) (g : MarkFault) → j < i → slice_get l j ≡ Some x → MarkAmiss m (with_marks (joining t k.v k.w) (take j l)) x g → ⊥)
      → (j : ℕ) (x : Mark) (g : MarkFault) → j < suc i → slice_get (k ∷ l) j ≡ Some x → MarkAmiss m (with_marks t (take j (k ∷ l))) x g → ⊥
  sound_more t k l i u n a rest zero x g h e z =
      let same : k ≡ x = (let y : Some k ≡ Some x = e in cc) in
      not_amiss m t k u n a g (subst (λ (y : Mark). MarkAmiss m t y g) (sym same) z)
  sound_more t k l i u n a rest (suc j) x g h e z = rest j x g (omega arith) e (subst (λ v. MarkAmiss m v x g) (with_more t k (take j l)) z)

  pub refuses : (l : List Mark) (t : Graph) (i : ℕ) (f : TreeFault) → Forest t → Fits t → marks_judged m t i l ≡ Err f → Refused t i l f
  unfolding marks_judged
  refuses [] t i f g n e = absurd (let z : Ok tt ≡ Err f = e in cc)
  refuses (k ∷ l) t i f g n e =
      let again = λ (h : Forest (joining t k.v k.w)) (z : marks_judged m (joining t k.v k.w) (i + 1) l ≡ Err f). refuses l (joining t k.v k.w) (i + 1) f h n z in
      ⊎_elim
      (λ ok.
      let a = accepted m t k ok in
      let rest : Refused (joining t k.v k.w) (i + 1) l f = again (forest_more t g n k a) (sym (ap (λ r. refused_at i r (marks_judged m (joining t k.v k.w) (i + 1) l)) ok) ∙ e) in
      let turn : i + 1 + rest.before ≡ i + suc rest.before = omega arith in
      record {
        before = suc rest.before;
        mark = rest.mark;
        fault = rest.fault;
        is = rest.is ∙ ap (λ j. filling.Mark j rest.fault) turn;
        there = rest.there;
        joins = all_more m k (take rest.before l) a.joins rest.joins;
        acyclic = subst (λ u. Acyclic u) (sym (with_more t k (take rest.before l))) rest.acyclic;
        sound = sound_more t k l rest.before g.simple n a rest.sound;
        told = subst (λ u. MarkAmiss m u rest.mark rest.fault) (sym (with_more t k (take rest.before l))) rest.told;
      })
      (λ q.
      let broke : Err (filling.Mark i q.0) ≡ Err f = sym (ap (λ r. refused_at i r (marks_judged m (joining t k.v k.w) (i + 1) l)) q.1) ∙ e in
      let is : filling.Mark i q.0 ≡ f = cc in
      let turn : i ≡ i + 0 = omega arith in
      record {
        before = 0;
        mark = k;
        fault = q.0;
        is = sym is ∙ ap (λ j. filling.Mark j q.0) turn;
        there = refl;
        joins = none_joins m;
        acyclic = g.acyclic;
        sound = λ j x h z. absurd (omega arith);
        told = amiss m t k g.simple n q.0 q.1;
      })
      (answer_cases (mark_answer m t k))
