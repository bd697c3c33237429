-- The filling as a whole, over plain values, and its laws.
--
--   count_ok, count_err           the right number of marks, and another
--   exit_told                     a refusal handed on
--   made_tree, made_fewer         the graph of marks that are accepted
--   fills_exactly, fill_refused   the laws of the answer
--   Fill, fill_laws               the laws of any answer that is equal to it
use Rattle.std.proofs.Common.{◌≡◌, ℕ, ◌+◌, ◌-◌, ◌≤◌, cond, eqb, ◌⊎◌, inl, inr, List, length, take, Ok, Err, Result, sym, refl, ap, ◌∙◌, subst, ⊎_elim, arith}
use Rattle.std.specs.Prelude.{MatchResult}
use Rattle.std.proofs.lemmas.Bool.{cases_eq, cond-true, cond-false, eq-eqb, ne_eqb}
use Rattle.theory.specs.Graph.{Graph, Simple, table_count, no_joins, size}
use Rattle.theory.specs.declared.mark.Mark.{Mark}
use Rattle.theory.proofs.Sizes.{no_joins_size}
use Rattle.spanning.specs.Laws.{Acyclic}
use Rattle.spanning.proofs.Forests.{Forest, forest_start}
use Rattle.spanning.proofs.Enough.{forest_spanning}
use Rattle.trees.specs.Tree.{marks_judged, fill_answer, marked, MarksTree, FillsExactly, MarkAmiss, FaultTold, FillRefused}
use Rattle.trees.specs.Forest.{with_marks}
use Rattle.trees.specs.declared.fault.TreeFault.{TreeFault}
use Rattle.trees.specs.declared.fault.TreeFault.TheVariants as filling
use Rattle.trees.proofs.Gathers.{Gathered, gathers, gathers_all, Refused, refuses, marked_with}

module _ (m : Graph) (s : Simple m) (l : List Mark) where
  abbrev n : ℕ
  n = table_count m

  abbrev alone : Graph
  alone = no_joins (table_count m)

  abbrev judged : Result Unit TreeFault
  judged = marks_judged m (no_joins (table_count m)) 0 l

  -- what the count alone is answered
  abbrev pub counted : Result Unit TreeFault
  counted = cond (eqb (length l + 1) (table_count m)) (Ok tt) (Err (filling.WrongCount (table_count m - 1)))

  wrong_count : (length l + 1 ≡ table_count m → ⊥) → fill_answer m l ≡ Err (filling.WrongCount (table_count m - 1))
  unfolding fill_answer
  wrong_count ne = cond-false (eqb (length l + 1) n) judged (Err (filling.WrongCount (n - 1))) (ne_eqb (length l + 1) n ne)

  right_count : length l + 1 ≡ table_count m → fill_answer m l ≡ marks_judged m (no_joins (table_count m)) 0 l
  unfolding fill_answer
  right_count e = cond-true (eqb (length l + 1) n) judged (Err (filling.WrongCount (n - 1))) (eq-eqb (length l + 1) n e)

  counted_cases : ((length l + 1 ≡ table_count m) × (counted ≡ Ok tt)) ⊎ ((fill_answer m l ≡ Err (filling.WrongCount (table_count m - 1))) × (counted ≡ Err (filling.WrongCount (table_count m - 1))))
  counted_cases = ⊎_elim
      (λ (e : length l + 1 ≡ n). inl (e, cond-true (eqb (length l + 1) n) (Ok tt) (Err (filling.WrongCount (n - 1))) (eq-eqb (length l + 1) n e)))
      (λ (ne : length l + 1 ≡ n → ⊥). inr (wrong_count ne, cond-false (eqb (length l + 1) n) (Ok tt) (Err (filling.WrongCount (n - 1))) (ne_eqb (length l + 1) n ne)))
      (cases_eq (length l + 1) n)

  pub count_ok : (r : Result Unit TreeFault) → r ≡ counted → r ≡ Ok tt → length l + 1 ≡ table_count m
  count_ok r is ok = ⊎_elim (λ p. p.0) (λ p. absurd (let z : Err (filling.WrongCount (n - 1)) ≡ Ok tt = sym p.1 ∙ sym is ∙ ok in cc)) counted_cases

  pub count_err : (r : Result Unit TreeFault) (f : TreeFault) → r ≡ counted → r ≡ Err f → fill_answer m l ≡ Err f
  count_err r f is e = ⊎_elim (λ p. absurd (let z : Ok tt ≡ Err f = sym p.1 ∙ sym is ∙ e in cc)) (λ p. p.0 ∙ sym p.1 ∙ sym is ∙ e) counted_cases

  -- at the exit of a `?`
  pub exit_told : {T : Type 0} (final : Result T TreeFault) (y f : TreeFault) → final ≡ Err y → y ≡ f → fill_answer m l ≡ Err f
      → MatchResult final (λ _. fill_answer m l ≡ Ok tt) (λ g. fill_answer m l ≡ Err g)
  exit_told final y f gave by e = subst (λ r. MatchResult r (λ _. fill_answer m l ≡ Ok tt) (λ g. fill_answer m l ≡ Err g)) (sym gave) (e ∙ ap (λ g. Err g) (sym by))

  start : Forest (no_joins (table_count m))
  start = forest_start n s.some s.few

  -- ---- accepted

  module _ (fewer : length l + 1 ≡ table_count m) (ok : marks_judged m (no_joins (table_count m)) 0 l ≡ Ok tt) where
    gathered : Gathered m s (no_joins (table_count m)) l
    gathered = gathers m s l alone 0 start refl ok

    forest : Forest (marked (table_count m) l)
    forest = subst (λ u. Forest u) (marked_with n l) gathered.forest

    pub total : size (marked (table_count m) l) + 1 ≡ table_count m
    total =
        let e : size (marked n l) ≡ size alone + length l = ap size (sym (marked_with n l)) ∙ gathered.total in
        let none : size alone ≡ 0 = no_joins_size n in
        omega arith

    pub filled : MarksTree m l
    filled = record { fewer = fewer; joins = gathered.joins; spanning = forest_spanning (marked n l) forest total }

  accepted_all : MarksTree m l → marks_judged m (no_joins (table_count m)) 0 l ≡ Ok tt
  accepted_all h =
      let free : Acyclic (with_marks alone l) = subst (λ u. Acyclic u) (sym (marked_with n l)) h.spanning.acyclic in
      let e : size (with_marks alone l) ≡ size (marked n l) = ap size (marked_with n l) in
      let none : size alone ≡ 0 = no_joins_size n in
      let fewer : size (marked n l) + 1 ≡ table_count m = h.spanning.fewer in
      let long : length l + 1 ≡ table_count m = h.fewer in
      gathers_all m s l alone 0 start refl h.joins free (omega arith)

  pub fills_exactly : FillsExactly m l (fill_answer m l)
  fills_exactly = (
    (λ ok. ⊎_elim
        (λ e. filled e (sym (right_count e) ∙ ok))
        (λ ne. absurd (let z : Err (filling.WrongCount (n - 1)) ≡ Ok tt = sym (wrong_count ne) ∙ ok in cc))
        (cases_eq (length l + 1) n)),
    (λ h. right_count h.fewer ∙ accepted_all h),
  )

  -- ---- refused

  pub fill_refused : FillRefused m l (fill_answer m l)
  fill_refused f e = ⊎_elim
      (λ (c : length l + 1 ≡ n).
      let r : Refused m s alone 0 l f = refuses m s l alone 0 f start refl (sym (right_count c) ∙ e) in
      let turn : 0 + r.before ≡ r.before = omega arith in
      let is : f ≡ filling.Mark r.before r.fault = r.is ∙ ap (λ j. filling.Mark j r.fault) turn in
      let same = marked_with n (take r.before l) in
      subst (λ g. FaultTold m l g) (sym is) (
        c,
        record {
          joins = r.joins;
          acyclic = subst (λ u. Acyclic u) same r.acyclic;
          sound = λ j k g h e z. r.sound j k g h e (subst (λ u. MarkAmiss m u k g) (sym (marked_with n (take j l))) z);
        },
        (r.mark, r.there, subst (λ u. MarkAmiss m u r.mark r.fault) same r.told),
      ))
      (λ (ne : length l + 1 ≡ n → ⊥).
      let some : 1 ≤ n = s.some in
      let one_more : n - 1 + 1 ≡ n = omega arith in
      let z : Err (filling.WrongCount (n - 1)) ≡ Err f = sym (wrong_count ne) ∙ e in
      let is : filling.WrongCount (n - 1) ≡ f = cc in
      subst (λ g. FaultTold m l g) is (one_more, λ e. ne (omega arith)))
      (cases_eq (length l + 1) n)

  -- ---- any answer that is equal

  pub record Fill (r : Result Unit TreeFault) : Type 0 where
    pub answer : r ≡ fill_answer m l
    pub exactly : FillsExactly m l r
    pub refused : FillRefused m l r

  pub fill_laws : (r : Result Unit TreeFault) → r ≡ fill_answer m l → Fill r
  fill_laws r e = record {
    answer = e;
    exactly = subst (λ z. FillsExactly m l z) (sym e) fills_exactly;
    refused = subst (λ z. FillRefused m l z) (sym e) fill_refused;
  }

  -- the marks were put into t, which had none, and made u of it
  module _ (count : length l + 1 ≡ table_count m) (t u : Graph) (none : t ≡ no_joins (table_count m)) (r : Result Unit TreeFault) (was : r ≡ marks_judged m t 0 l) where
    pub answered : r ≡ fill_answer m l
    answered = was ∙ ap (λ z. marks_judged m z 0 l) none ∙ sym (right_count count)

    module _ (ok : r ≡ Ok tt) (made : u ≡ with_marks t l) where
      pub made_tree : u ≡ marked (table_count m) l
      made_tree = made ∙ ap (λ z. with_marks z l) none ∙ marked_with n l

      pub made_fewer : size u + 1 ≡ table_count u
      made_fewer =
          let e : size u ≡ size (marked n l) = ap size made_tree in
          let all : table_count u ≡ n = ap table_count made_tree in
          let one : size (marked n l) + 1 ≡ n = total count (sym (right_count count) ∙ sym answered ∙ ok) in
          omega arith
