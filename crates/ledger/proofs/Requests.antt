-- What single calls leave: an edit a simple graph, a build request and a driving request the records that they were not given.
--
--   step_simple        the ledger stays a simple graph, with as many tables
--   step_tables
--   Filling            a request leaves as many records, of which it fills some; the others stay
--   build_filling, drive_filling
--   neighbour_told, neighbour_is   the neighbour that a question tells, and that no other is told
use Rattle.std.proofs.Common.{◌≡◌, ℕ, zero, suc, ◌+◌, ◌-◌, ◌<◌, ◌≤◌, true, false, not, eqb, ltb, List, ◌++◌, length, drop, Some, None, Option, Ok, Err, Result, sym, refl, ap, ◌∙◌, subst, ⊎_elim, arith}
use Rattle.std.proofs.lemmas.Bool.{cases_lt, cases_Bool, both_ways, not-false, eqb-false, ltb-true, lt-ltb}
use Rattle.std.proofs.lemmas.List.{length-append, length-drop, drop_at}
use Rattle.theory.specs.Graph.{Graph, Simple, Next, joined, is_table, table_count, joining, unjoining, size}
use Rattle.theory.specs.declared.step.Step.{Step}
use Rattle.theory.proofs.Sizes.{joining_simple, unjoining_simple}
use Rattle.disassembly.specs.Search.{lowest_from}
use Rattle.disassembly.proofs.Members.{lowest_cases, lowest_some, lowest_none, lowest_is, none_is}
use Rattle.spanning.specs.Crossing.{cross_count}
use Rattle.graph.specs.Store.{join_answer, unjoin_answer, after}
use Rattle.graph.specs.declared.fault.StoreFault.{StoreFault}
use Rattle.graph.specs.declared.fault.StoreFault.TheVariants.{UnknownTable, SameTable}
use Rattle.construction.proofs.First.{past}
use Rattle.refusals.specs.declared.build.BuildFault.{BuildFault}
use Rattle.assembly.specs.Build.{list_of, build_judged, built_after, build_answer, records_given, records_after}
use Rattle.assembly.proofs.Verdict.{Verdict, judged, fit_size}
use Rattle.reports.specs.declared.record.ReportRecord.{ReportRecord}
use Rattle.driving.specs.Drive.{drive_judged, unless_missing, lowest_missing, records_from, report_of, report_after}
use Rattle.driving.specs.declared.fault.DriveFault.{DriveFault}
use Rattle.driving.specs.declared.fault.DriveFault.TheVariants.{OtherCount, NotJoined, TooFewRecords}
use Rattle.ledger.specs.declared.call.Call.{Call}
use Rattle.ledger.specs.declared.call.Call.TheVariants.{Join, Unjoin, Build, Drive, Fill, Tables, Joined, NextNeighbour, Capacity}
use Rattle.ledger.specs.Ledger.{ledger_step}
use Rattle.ledger.specs.Run.{given_steps, given_reports, neighbour_of}

-- ---- edits

-- an accepted join is of two different tables
between_tables : (m : Graph) (capacity a b : ℕ) → join_answer m capacity a b ≡ Ok tt → (a < m.tables) × (b < m.tables) × (a ≡ b → ⊥)
between_tables m capacity a b h =
    let e₁ = past (not (is_table m a)) (UnknownTable a) _ h in
    let e₂ = past (not (is_table m b)) (UnknownTable b) _ e₁.1 in
    let e₃ = past (eqb a b) (SameTable a) _ e₂.1 in
    (ltb-true a m.tables (not-false (is_table m a) e₁.0), ltb-true b m.tables (not-false (is_table m b) e₂.0), eqb-false a b e₃.0)

after_simple : (r : Result Unit StoreFault) (m k : Graph) → Simple m → (r ≡ Ok tt → Simple k) → Simple (after r k m)
after_simple (Ok u) m k s h = h refl
after_simple (Err f) m k s h = s

after_tables : (r : Result Unit StoreFault) (m k : Graph) → table_count k ≡ table_count m → table_count (after r k m) ≡ table_count m
after_tables (Ok u) m k h = h
after_tables (Err f) m k h = refl

pub step_simple : (capacity : ℕ) (m : Graph) (c : Call) → Simple m → Simple (ledger_step capacity m c)
step_simple capacity m (Join a b) s = after_simple (join_answer m capacity a b) m (joining m a b) s
    (λ h. let q = between_tables m capacity a b h in joining_simple m a b q.0 q.1 q.2 s)
step_simple capacity m (Unjoin a b) s = after_simple (unjoin_answer m a b) m (unjoining m a b) s (λ h. unjoining_simple m a b s)
step_simple capacity m (Build k) s = s
step_simple capacity m (Drive j k) s = s
step_simple capacity m (Fill j i k) s = s
step_simple capacity m Tables s = s
step_simple capacity m (Joined a b) s = s
step_simple capacity m (NextNeighbour a b) s = s
step_simple capacity m Capacity s = s

pub step_tables : (capacity : ℕ) (m : Graph) (c : Call) → table_count (ledger_step capacity m c) ≡ table_count m
step_tables capacity m (Join a b) = after_tables (join_answer m capacity a b) m (joining m a b) refl
step_tables capacity m (Unjoin a b) = after_tables (unjoin_answer m a b) m (unjoining m a b) refl
step_tables capacity m (Build k) = refl
step_tables capacity m (Drive j k) = refl
step_tables capacity m (Fill j i k) = refl
step_tables capacity m Tables = refl
step_tables capacity m (Joined a b) = refl
step_tables capacity m (NextNeighbour a b) = refl
step_tables capacity m Capacity = refl

-- ---- requests

-- of the records l, g are filled, which leaves k
pub record Filling {X : Type 0} (l k : List X) (g : ℕ) : Type 0 where
  pub as_many : length k ≡ length l
  pub few : g ≤ length k
  pub kept : drop g k ≡ drop g l

module _ (m : Graph) (s : Simple m) (l : List Step) where
  filling_of : (r : Result Unit BuildFault) → Verdict m (length l) r → Filling l (records_given r (list_of m) l) (given_steps (built_after r m))
  filling_of (Ok u) v = record {
    as_many = total;
    few = omega (arith, total, v.1);
    kept = drop_at (list_of m).steps (drop (length (list_of m).steps) l) (size m - 3) (omega (arith, same)) ∙ ap (λ n. drop n l) (sym same);
  }
    where
      same : size m - 3 ≡ length (list_of m).steps
      same = omega (arith, fit_size m s v.0)

      total : length ((list_of m).steps ++ drop (length (list_of m).steps) l) ≡ length l
      total = omega (arith, length-append (list_of m).steps (drop (length (list_of m).steps) l), length-drop (length (list_of m).steps) l, same, v.1)
  filling_of (Err f) v = record { as_many = refl; few = omega arith; kept = refl }

  pub build_filling : Filling l (records_after m l) (given_steps (build_answer m (length l)))
  build_filling = filling_of (build_judged m (length l)) (judged m s (length l))

-- the records of a report: one for each table
report_length : (counts : ℕ → ℕ) (x k : ℕ) → length (records_from counts x k) ≡ k
unfolding records_from
report_length counts x zero = refl
report_length counts x (suc k) = ap suc (report_length counts (x + 1) k)

missing_ok : (o : Option ℕ) (r : Result Unit DriveFault) → unless_missing o r ≡ Ok tt → r ≡ Ok tt
missing_ok (Some x) r e = absurd (no x e)
  where
    no : (x : ℕ) → ◌≡◌ {A = Result Unit DriveFault} (Err (NotJoined x)) (Ok tt) → ⊥
    no x e = cc
missing_ok None r e = e

pub drive_room : (m t : Graph) (room : ℕ) → drive_judged m t room ≡ Ok tt → table_count m ≤ room
unfolding drive_judged
drive_room m t room h =
    let e₁ = past (not (eqb (table_count t) (table_count m))) (OtherCount (table_count t) (table_count m)) _ h in
    let e₂ = missing_ok (lowest_missing m t) _ e₁.1 in
    let e₃ = past (ltb room (table_count m)) (TooFewRecords (table_count m)) _ e₂ in
    ⊎_elim (λ (k : room < table_count m). absurd (both_ways (ltb room (table_count m)) e₃.0 (lt-ltb room (table_count m) k))) (λ k. k) (cases_lt room (table_count m))

report_filling : (m t : Graph) (l : List ReportRecord) (r : Result Unit DriveFault) → (r ≡ Ok tt → table_count m ≤ length l)
    → Filling l (report_after r m t l) (given_reports (table_count m) r)
report_filling m t l (Ok tt) h = record {
  as_many = omega (arith, total, h refl);
  few = omega (arith, total, h refl);
  kept = drop_at (report_of m t) (drop (table_count m) l) (table_count m) (report_length (cross_count m t) 0 (table_count m));
}
  where
    total : length (report_of m t ++ drop (table_count m) l) ≡ table_count m + (length l - table_count m)
    total = length-append (report_of m t) (drop (table_count m) l) ∙ ap (λ n. n + length (drop (table_count m) l)) (report_length (cross_count m t) 0 (table_count m))
        ∙ ap (λ n. table_count m + n) (length-drop (table_count m) l)
report_filling m t l (Err f) h = record { as_many = refl; few = omega arith; kept = refl }

pub drive_filling : (m t : Graph) (l : List ReportRecord)
    → Filling l (report_after (drive_judged m t (length l)) m t l) (given_reports (table_count m) (drive_judged m t (length l)))
drive_filling m t l = report_filling m t l (drive_judged m t (length l)) (drive_room m t (length l))

-- ---- neighbours

module _ (m : Graph) (s : Simple m) (a b : ℕ) where
  past_all : (x : ℕ) → b ≤ x → b + (table_count m - b) ≤ x → joined m a x ≡ false
  past_all x h k = ⊎_elim (λ (j : joined m a x ≡ true). let l : x < table_count m = s.within x a (s.symmetric x a ∙ j) in absurd (omega arith)) (λ j. j) (cases_Bool (joined m a x))

  pub neighbour_told : Next (joined m a) b (neighbour_of m a b)
  neighbour_told = ⊎_elim
      (λ (q : (u : ℕ) × (lowest_from b (table_count m - b) (joined m a) ≡ Some u)).
      subst (Next (joined m a) b) (sym q.1) (lowest_some b (table_count m - b) (joined m a) q.0 q.1).0)
      (λ (e : lowest_from b (table_count m - b) (joined m a) ≡ None).
      subst (Next (joined m a) b) (sym e)
      (λ x h. ⊎_elim (λ (k : x < b + (table_count m - b)). lowest_none b (table_count m - b) (joined m a) e x h k) (past_all x h) (cases_lt x (b + (table_count m - b)))))
      (lowest_cases b (table_count m - b) (joined m a))

  pub neighbour_is : (o : Option ℕ) → Next (joined m a) b o → o ≡ neighbour_of m a b
  neighbour_is (Some u) h =
      let l : u < table_count m = s.within u a (s.symmetric u a ∙ h.holds) in
      let k : b ≤ u = h.above in
      sym (lowest_is b (table_count m - b) (joined m a) u h (omega arith))
  neighbour_is None h = sym (none_is b (table_count m - b) (joined m a) (λ x k l. h x k))
