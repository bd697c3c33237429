-- The laws of a build request, from the theorems on graphs. Also that an answer is no refusal: ok_err.
use Rattle.std.proofs.Common.{◌≡◌, ◌+◌, ◌-◌, ◌≤◌, true, ◌⊎◌, List, ◌++◌, length, take, drop, Ok, Err, Result, sym, refl, ap, ◌∙◌, subst, inl, inr, ⊎_elim, arith}
use lib.Seq.{take-append_seam}
use Rattle.theory.specs.Graph.{Graph, Simple, joined, is_table, table_count, size, no_joins}
use Rattle.theory.specs.Build.{LegalBuild}
use Rattle.theory.specs.declared.step.Step.{Step}
use Rattle.theory.specs.declared.step.Triangle.{Triangle}
use Rattle.theory.proofs.Sizes.{no_joins_simple}
use Rattle.construction.specs.Replay.{replayed}
use Rattle.construction.proofs.Laws as construction
use Rattle.disassembly.specs.Disassembly.{Disassembly}
use Rattle.disassembly.specs.Laws.{Fit}
use Rattle.disassembly.proofs.Corners.{build_fit}
use Rattle.disassembly.proofs.Given.{stands}
use Rattle.disassembly.proofs.Keys.{graph_on, first_in, given_legal}
use Rattle.disassembly.proofs.Only.{only_list}
use Rattle.disassembly.proofs.Lengths.{one_graph}
use Rattle.refusals.specs.Build.{build_number}
use Rattle.refusals.specs.declared.build.BuildFault.{BuildFault}
use Rattle.refusals.specs.declared.build.BuildFault.TheVariants.{TooSmall, Unreached, Articulation, TooFewRecords}
use Rattle.assembly.specs.declared.build.Built.{Built}
use Rattle.assembly.specs.Build.{list_of, build_judged, built_of, built_after, build_answer, records_given, records_after}
use Rattle.assembly.specs.BuildLaw.{ListGiven, LegalGiven, UnbuildableTold, RefusedExactly, NamedBy, Named, PlaysBack}
use Rattle.assembly.proofs.Verdict.{fit_size, Verdict, judged}

pub ok_err : {X F : Type 0} (x : X) (f : F) → Ok x ≡ Err f → ⊥
ok_err x f e = cc

cases_judged : (r : Result Unit BuildFault) → (r ≡ Ok tt) ⊎ ((f : BuildFault) × (r ≡ Err f))
cases_judged (Ok tt) = inl refl
cases_judged (Err f) = inr (f, refl)

module _ (m : Graph) (s : Simple m) (l : List Step) where
  abbrev told : Result Built BuildFault
  told = build_answer m (length l)

  pub record There (b : Built) : Type 0 where
    pub fit : Fit (is_table m) (joined m)
    pub corners : b.triangle ≡ (list_of m).triangle
    pub steps : take b.steps (records_after m l) ≡ (list_of m).steps
    pub count : b.steps ≡ length (list_of m).steps

  -- where a list is given, it is the graph's, and the graph is fit
  pub there : (b : Built) → build_answer m (length l) ≡ Ok b → There b
  there b e = ⊎_elim
      (λ (ok : build_judged m (length l) ≡ Ok tt).
      let v : Fit (is_table m) (joined m) × (size m - 3 ≤ length l) = subst (Verdict m (length l)) ok (judged m s (length l)) in
      let k : Ok (built_of m) ≡ Ok b = sym (ap (λ r. built_after r m) ok) ∙ e in
      let same : built_of m ≡ b = cc in
      let few : size m - 3 ≡ length (list_of m).steps = omega (arith, fit_size m s v.0) in
      let are : records_after m l ≡ (list_of m).steps ++ drop (length (list_of m).steps) l = ap (λ r. records_given r (list_of m) l) ok in
      record {
        fit = v.0;
        corners = sym (ap (λ x. x.triangle) same);
        steps = ap (λ x. take x.steps (records_after m l)) (sym same) ∙ ap (λ k. take k (records_after m l)) few
            ∙ ap (take (length (list_of m).steps)) are ∙ take-append_seam (list_of m).steps (drop (length (list_of m).steps) l);
        count = sym (ap (λ x. x.steps) same) ∙ few;
      })
      (λ bad. absurd (ok_err b bad.0 (sym e ∙ ap (λ r. built_after r m) bad.1)))
      (cases_judged (build_judged m (length l)))

  in_zero : is_table m 0 ≡ true
  in_zero = first_in m s

  legal : Fit (is_table m) (joined m) → LegalBuild m (list_of m).triangle (list_of m).steps
  legal fit = given_legal m s fit

  module _ (b : Built) (t : There b) where
    legal_there : LegalBuild m b.triangle (take b.steps (records_after m l))
    legal_there = subst (λ x. LegalBuild m x (take b.steps (records_after m l))) (sym t.corners) (subst (λ k. LegalBuild m (list_of m).triangle k) (sym t.steps) (legal t.fit))

    stands_there : Disassembly (is_table m) (joined m) 0 b.triangle (take b.steps (records_after m l))
    stands_there = subst (λ x. Disassembly (is_table m) (joined m) 0 x (take b.steps (records_after m l))) (sym t.corners)
        (subst (λ k. Disassembly (is_table m) (joined m) 0 (list_of m).triangle k) (sym t.steps) (stands (is_table m) (joined m) 0 (graph_on m s) in_zero t.fit))

  pub list_given : ListGiven m (build_answer m (length l)) (records_after m l)
  list_given b e = let t = there b e in
      (stands_there b t, λ x k d. only_list (is_table m) (joined m) 0 (graph_on m s) in_zero t.fit x b.triangle k (take b.steps (records_after m l)) d (stands_there b t))

  pub legal_given : LegalGiven m (build_answer m (length l)) (records_after m l)
  legal_given b e = let t = there b e in
      (legal_there b t, ap length t.steps ∙ sym t.count, omega (arith, t.count, fit_size m s t.fit))

  fit_of : (t : Triangle) (k : List Step) → LegalBuild m t k → Fit (is_table m) (joined m)
  fit_of t k h = build_fit (is_table m) (joined m) (graph_on m s) (t, k, h.0, h.1)

  abbrev ToldOf : Result Unit BuildFault → Type 0
  ToldOf r = UnbuildableTold (built_after r m)

  -- 6, 7 and 8 tell that the graph is not fit
  not_fit : (r : Result Unit BuildFault) → Verdict m (length l) r → ToldOf r → Fit (is_table m) (joined m) → ⊥
  not_fit (Ok u) v h = absurd (ok_err (built_of m) h.0 h.1)
  not_fit (Err TooSmall) v h = v.0
  not_fit (Err (Unreached x)) v h = v.0
  not_fit (Err (Articulation x)) v h = v.0
  not_fit (Err (TooFewRecords k)) v h =
      let e : Err (TooFewRecords k) ≡ Err h.0 = h.1 in
      let f : TooFewRecords k ≡ h.0 = cc in
      let n : 9 ≡ build_number h.0 = ap build_number f in
      absurd (⊎_elim (λ (z : build_number h.0 ≡ 6). omega arith) (⊎_elim (λ (z : build_number h.0 ≡ 7). omega arith) (λ (z : build_number h.0 ≡ 8). omega arith)) h.2)

  told_of : (r : Result Unit BuildFault) → Verdict m (length l) r → (Fit (is_table m) (joined m) → ⊥) → ToldOf r
  told_of (Ok u) v h = absurd (h v.0)
  told_of (Err TooSmall) v h = (TooSmall, refl, inl refl)
  told_of (Err (Unreached x)) v h = (Unreached x, refl, inr (inl refl))
  told_of (Err (Articulation x)) v h = (Articulation x, refl, inr (inr refl))
  told_of (Err (TooFewRecords k)) v h = absurd (h v.0)

  pub refused_exactly : RefusedExactly m (build_answer m (length l))
  refused_exactly = (
    (λ h t k b. not_fit (build_judged m (length l)) (judged m s (length l)) h (fit_of t k b)),
    (λ none. told_of (build_judged m (length l)) (judged m s (length l)) (λ fit. none (list_of m).triangle (list_of m).steps (legal fit))),
  )

  named_of : (r : Result Unit BuildFault) → Verdict m (length l) r → (f : BuildFault) → r ≡ Err f → NamedBy m (length l) f
  named_of (Ok u) v f e = absurd (ok_err u f e)
  named_of (Err TooSmall) v f e = let k : TooSmall ≡ f = cc in subst (NamedBy m (length l)) k v.1
  named_of (Err (Unreached x)) v f e = let k : Unreached x ≡ f = cc in subst (NamedBy m (length l)) k v.1
  named_of (Err (Articulation x)) v f e = let k : Articulation x ≡ f = cc in subst (NamedBy m (length l)) k v.1
  named_of (Err (TooFewRecords x)) v f e = let k : TooFewRecords x ≡ f = cc in subst (NamedBy m (length l)) k v.1

  judged_err : (r : Result Unit BuildFault) (f : BuildFault) → built_after r m ≡ Err f → r ≡ Err f
  judged_err (Ok u) f e = absurd (ok_err (built_of m) f e)
  judged_err (Err g) f e = let k : g ≡ f = cc in ap Err k

  pub named : Named m (length l) (build_answer m (length l))
  named f e = named_of (build_judged m (length l)) (judged m s (length l)) f (judged_err (build_judged m (length l)) f e)

  pub plays_back : PlaysBack m (build_answer m (length l)) (records_after m l)
  plays_back b e c room =
      let t = there b e in
      let n = table_count m in
      let k = take b.steps (records_after m l) in
      let clear : Simple (no_joins n) = no_joins_simple n s.some s.few in
      let long : 3 + length k ≤ c = omega (arith, ap length t.steps, fit_size m s t.fit) in
      let laws = construction.told_laws c (no_joins n) b.triangle k clear (replayed c (no_joins n) b.triangle k).told (replayed c (no_joins n) b.triangle k).graph refl refl in
      let told' : (replayed c (no_joins n) b.triangle k).told ≡ Ok tt = (laws.room refl long).1 (m, refl, legal_there b t) in
      let built : LegalBuild (replayed c (no_joins n) b.triangle k).graph b.triangle k = (laws.accepted refl).0 told' in
      (told', one_graph (replayed c (no_joins n) b.triangle k).graph m b.triangle k built (legal_there b t))

-- what a call answers and leaves, and what this amounts to
pub record ToldLaws (m : Graph) (l : List Step) (r : Result Built BuildFault) (l' : List Step) : Type 0 where
  pub answer : r ≡ build_answer m (length l)
  pub filled : l' ≡ records_after m l
  pub listed : ListGiven m r l'
  pub legal : LegalGiven m r l'
  pub refused : RefusedExactly m r
  pub named : Named m (length l) r
  pub plays : PlaysBack m r l'

-- the same of what a call answers and leaves
module _ (m : Graph) (s : Simple m) (l : List Step) (r : Result Built BuildFault) (l' : List Step) (answer : r ≡ build_answer m (length l)) (filled : l' ≡ records_after m l) where
  moved : (P : Result Built BuildFault → List Step → Type 0) → P (build_answer m (length l)) (records_after m l) → P r l'
  moved P h = subst (λ x. P x l') (sym answer) (subst (λ k. P (build_answer m (length l)) k) (sym filled) h)

  -- all that the clauses of a call owe of them
  pub told_laws : ToldLaws m l r l'
  told_laws = record {
    answer = answer;
    filled = filled;
    listed = moved (ListGiven m) (list_given m s l);
    legal = moved (LegalGiven m) (legal_given m s l);
    refused = moved (λ x _. RefusedExactly m x) (refused_exactly m s l);
    named = moved (λ x _. Named m (length l) x) (named m s l);
    plays = moved (PlaysBack m) (plays_back m s l);
  }
