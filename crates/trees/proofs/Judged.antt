-- One mark judged: what an answer tells.
--
--   Accepted m t k       mark k is a join of m, and the marks of t do not lead from the one end to the other
--   accepted, accepts    a mark is accepted exactly then
--   amiss                a refusal tells the first condition that holds
--   not_amiss            where a mark is accepted, none does
--   answer_cases         accepted or refused
use Rattle.std.proofs.Common.{◌≡◌, ℕ, ◌<◌, ◌≤◌, Bool, true, false, not, eqb, ◌⊎◌, ◌≢◌, List, [], ◌∷◌, Ok, Err, Result, nat_lt, sym, refl, ◌∙◌, subst, inl, inr, ⊎_elim, arith, eqb-true}
use Rattle.std.proofs.lemmas.Bool.{both_ways}
use Rattle.std.proofs.lemmas.Bool.Decides.{nat_tests}
use Rattle.theory.specs.Graph.{Graph, Simple, joined, is_table, table_count}
use Rattle.theory.specs.declared.mark.Mark.{Mark}
use Rattle.graph.specs.First.{refused_first}
use Rattle.graph.specs.declared.fault.StoreFault.TheVariants.{UnknownTable, SameTable, AlreadyJoined, NotJoined, Full}
use Rattle.disassembly.specs.Walks.{Reaches}
use Rattle.trees.specs.Tree.{leads, mark_answer, MarkAmiss}
use Rattle.trees.specs.declared.fault.MarkFault.{MarkFault}
use Rattle.trees.specs.declared.fault.MarkFault.TheVariants.{Store, ClosesRing}
use Rattle.trees.proofs.First.{first_off, first_ok, first_err}
use Rattle.trees.proofs.Leads.{leads_walk, apart_walk}

pub answer_cases : {F : Type 0} (r : Result Unit F) → (r ≡ Ok tt) ⊎ ((f : F) × (r ≡ Err f))
answer_cases (Ok u) = inl refl
answer_cases (Err f) = inr (f, refl)

pub record Accepted (m t : Graph) (k : Mark) : Type 0 where
  pub first : k.v < table_count m
  pub second : k.w < table_count m
  pub two : k.v ≢ k.w
  pub joins : joined m k.v k.w ≡ true
  pub apart : leads t k.v k.w ≡ false

is_below : (a n : ℕ) → not (nat_lt a n) ≡ false → a < n
is_below a n e = grind (arith, nat_tests)

is_above : (a n : ℕ) → not (nat_lt a n) ≡ true → n ≤ a
is_above a n e = grind (arith, nat_tests)

below_is : (a n : ℕ) → a < n → not (nat_lt a n) ≡ false
below_is a n l = grind (arith, nat_tests)

are_two : (a b : ℕ) → eqb a b ≡ false → a ≢ b
are_two a b e = λ z. absurd (grind (arith, nat_tests))

two_are : (a b : ℕ) → a ≢ b → eqb a b ≡ false
two_are a b n = grind (arith, nat_tests)

was_true : (p : Bool) → not p ≡ false → p ≡ true
was_true p e = grind arith

was_false : (p : Bool) → not p ≡ true → p ≡ false
was_false p e = grind arith

true_not : (p : Bool) → p ≡ true → not p ≡ false
true_not p e = grind arith

module _ (m t : Graph) (k : Mark) where
  abbrev Cases : Type 0
  Cases = List (Bool × MarkFault)

  abbrev ring : Cases
  ring = (leads t k.v k.w, ClosesRing k.v k.w) ∷ []

  abbrev no_join : Cases
  no_join = (not (joined m k.v k.w), Store (NotJoined k.v k.w)) ∷ ring

  abbrev same : Cases
  same = (eqb k.v k.w, Store (SameTable k.v)) ∷ no_join

  abbrev other : Cases
  other = (not (is_table m k.w), Store (UnknownTable k.w)) ∷ same

  pub accepted : mark_answer m t k ≡ Ok tt → Accepted m t k
  accepted e =
      let a = first_ok (not (is_table m k.v)) (Store (UnknownTable k.v)) other e in
      let b = first_ok (not (is_table m k.w)) (Store (UnknownTable k.w)) same a.1 in
      let c = first_ok (eqb k.v k.w) (Store (SameTable k.v)) no_join b.1 in
      let d = first_ok (not (joined m k.v k.w)) (Store (NotJoined k.v k.w)) ring c.1 in
      let f = first_ok (leads t k.v k.w) (ClosesRing k.v k.w) [] d.1 in
      record {
        first = is_below k.v (table_count m) a.0;
        second = is_below k.w (table_count m) b.0;
        two = are_two k.v k.w c.0;
        joins = was_true (joined m k.v k.w) d.0;
        apart = f.0;
      }

  pub accepts : Accepted m t k → mark_answer m t k ≡ Ok tt
  accepts h =
      first_off (not (is_table m k.v)) (Store (UnknownTable k.v)) other (below_is k.v (table_count m) h.first)
      ∙ (first_off (not (is_table m k.w)) (Store (UnknownTable k.w)) same (below_is k.w (table_count m) h.second)
      ∙ (first_off (eqb k.v k.w) (Store (SameTable k.v)) no_join (two_are k.v k.w h.two)
      ∙ (first_off (not (joined m k.v k.w)) (Store (NotJoined k.v k.w)) ring (true_not (joined m k.v k.w) h.joins)
      ∙ first_off (leads t k.v k.w) (ClosesRing k.v k.w) [] h.apart)))

  module _ (s : Simple t) (as_many : table_count t ≡ table_count m) (g : MarkFault) where
    abbrev Amiss : MarkFault → Type 0
    Amiss f = MarkAmiss m t k f

    none_left : (r : Result Unit MarkFault) → r ≡ Ok tt → r ≡ Err g → ⊥
    none_left r e f = cc

    pub amiss : mark_answer m t k ≡ Err g → MarkAmiss m t k g
    amiss e = ⊎_elim
        (λ p. subst Amiss p.1 (is_above k.v (table_count m) p.0, inl refl))
        (λ p. let first : k.v < table_count m = is_below k.v (table_count m) p.0 in
        ⊎_elim
        (λ q. subst Amiss q.1 (is_above k.w (table_count m) q.0, inr (refl, first)))
        (λ q. let second : k.w < table_count m = is_below k.w (table_count m) q.0 in
        ⊎_elim
        (λ r. subst Amiss r.1 (first, refl, eqb-true k.v k.w r.0))
        (λ r. let two : k.v ≢ k.w = are_two k.v k.w r.0 in
        ⊎_elim
        (λ u. subst Amiss u.1 (refl, refl, first, second, two, was_false (joined m k.v k.w) u.0))
        (λ u. let joins : joined m k.v k.w ≡ true = was_true (joined m k.v k.w) u.0 in
        ⊎_elim
        (λ w. subst Amiss w.1 (refl, refl, joins, leads_walk t s k.v k.w (subst (λ n. k.v < n) (sym as_many) first) w.0))
        (λ w. absurd (none_left (refused_first []) refl w.1))
        (first_err (leads t k.v k.w) (ClosesRing k.v k.w) [] g u.1))
        (first_err (not (joined m k.v k.w)) (Store (NotJoined k.v k.w)) ring g r.1))
        (first_err (eqb k.v k.w) (Store (SameTable k.v)) no_join g q.1))
        (first_err (not (is_table m k.w)) (Store (UnknownTable k.w)) same g p.1))
        (first_err (not (is_table m k.v)) (Store (UnknownTable k.v)) other g e)

  pub not_amiss : Simple t → table_count t ≡ table_count m → Accepted m t k → (f : MarkFault) → MarkAmiss m t k f → ⊥
  not_amiss s n a (Store (UnknownTable x)) h =
      let first : k.v < table_count m = a.first in
      let second : k.w < table_count m = a.second in
      let out : table_count m ≤ x = h.0 in
      ⊎_elim (λ (e : x ≡ k.v). omega arith) (λ q. let e : x ≡ k.w = q.0 in omega arith) h.1
  not_amiss s n a (Store (SameTable x)) h = a.two h.2
  not_amiss s n a (Store (NotJoined x y)) h =
      both_ways (joined m k.v k.w) (subst (λ z. joined m z k.w ≡ false) h.0 (subst (λ z. joined m x z ≡ false) h.1 h.5)) a.joins
  not_amiss s n a (Store (AlreadyJoined x y)) h = h
  not_amiss s n a (Store (Full c)) h = h
  not_amiss s n a (ClosesRing x y) h =
      apart_walk t s k.v k.w (subst (λ z. k.v < z) (sym n) a.first) a.apart
      (subst (λ z. Reaches (is_table t) (joined t) z k.w) h.0 (subst (λ z. Reaches (is_table t) (joined t) x z) h.1 h.3))
