-- What a driving request amounts to, in words of marked paths and searches.
--
--   towards_parent, parent_towards
--                      the mark of a table towards table 0 leads to its parent, and no other does
--   present, all_joined, none_missing_where
--                      marks that are joins
--   named, exactly     what a refusal tells, and what is accepted
--   reported           what an accepted request reports
use Rattle.std.proofs.Common.{◌≡◌, ℕ, zero, suc, ◌+◌, ◌<◌, ◌≤◌, Bool, true, false, not, ◌&&◌, List, ◌++◌, drop, get_or, Ok, Err, Result, refl, sym, ap, ◌∙◌, subst, ⊎_elim, arith}
use Rattle.std.proofs.lemmas.Bool.{cases_Bool, both_ways, eq-eqb, eqb-true}
use Rattle.std.proofs.lemmas.Bool.Decides.{nat_tests}
use Rattle.theory.specs.Graph.{Graph, Simple, joined, is_table, table_count}
use Rattle.disassembly.specs.Search.{discovery, searched}
use Rattle.disassembly.specs.Tree.{Over, self, up}
use Rattle.spanning.specs.Spanning.{Spanning}
use Rattle.spanning.specs.Crossing.{on_path, cross, cross_count}
use Rattle.spanning.specs.Laws.{MarksOf, parent_in}
use Rattle.spanning.proofs.Rooted.{Rooted, not_over_parent, over_on, on_over}
use Rattle.spanning.proofs.Paths.{path_is, is_path}
use Rattle.spanning.proofs.Along.{seen_from_zero}
use Rattle.spanning.proofs.Driving.{drives_exactly}
use Rattle.reports.specs.declared.record.ReportRecord.{ReportRecord}
use Rattle.reports.specs.Pick.{silent}
use Rattle.driving.specs.Drive.{missing, drive_judged, record_of, records_from, report_after}
use Rattle.driving.specs.DriveLaw.{CountsCross, RecordTells, Reported, Towards, MarksJoined, DriveNamedBy, DriveNamed, AcceptedExactly}
use Rattle.driving.specs.declared.fault.DriveFault.{DriveFault}
use Rattle.driving.specs.declared.fault.DriveFault.TheVariants.{OtherCount, NotJoined, TooFewRecords}
use Rattle.driving.proofs.Missing.{missing_is, missing_tells, lowest_tells, none_tells, none_missing}
use Rattle.driving.proofs.Cases.{Case, other, absent, few, accepted, judged, judged_accepted}

-- ---- answers apart

abbrev fault_of : Result Unit DriveFault → DriveFault
fault_of (Ok u) = TooFewRecords 0
fault_of (Err f) = f

abbrev is_ok : Result Unit DriveFault → Bool
is_ok (Ok u) = true
is_ok (Err f) = false

same_fault : (f k : DriveFault) → ◌≡◌ {A = Result Unit DriveFault} (Err f) (Err k) → f ≡ k
same_fault f k e = ap fault_of e

apart : (f : DriveFault) → ◌≡◌ {A = Result Unit DriveFault} (Ok tt) (Err f) → ⊥
apart f e = both_ways (is_ok (Err f)) refl (sym (ap is_ok e))

-- ---- the mark of a table towards table 0

module _ (m t : Graph) (s : Simple m) (g : Spanning t) where
  abbrev f : ℕ → ℕ
  f = parent_in t

  abbrev rank : ℕ → ℕ
  rank = discovery (searched (is_table t) (joined t) 0).seen

  hangs : Rooted t f 0 rank
  hangs = seen_from_zero t g

  pub towards_parent : (x : ℕ) → x < table_count t → (x ≡ 0 → ⊥) → Towards t x (parent_in t x)
  towards_parent x l x0 = (g.simple.symmetric x (f x) ∙ hangs.mark x l x0, over_on t g.simple f 0 rank hangs (f x) x (up {b = x} x0 self))

  pub parent_towards : (x p : ℕ) → Towards t x p → (x < table_count t) × (x ≡ 0 → ⊥) × (parent_in t x ≡ p)
  parent_towards x p w =
      let xn : x < table_count t = g.simple.within x p w.0 in
      let pn : p < table_count t = g.simple.within p x (g.simple.symmetric p x ∙ w.0) in
      ⊎_elim
      (λ k. (xn, k.0, k.1))
      (λ k. absurd (not_over_parent t g.simple f 0 rank hangs p pn k.0 (subst (λ y. Over f 0 p y) (sym k.1) (on_over t g.simple f 0 rank hangs p x xn w.1))))
      (hangs.marks x p w.0)

  -- ---- marks that are joins

  present : (x : ℕ) → x < table_count t → (x ≡ 0 → ⊥) → missing m t x ≡ false → joined m x (parent_in t x) ≡ true
  present x l x0 e = ⊎_elim (λ k. k) (λ (k : joined m x (f x) ≡ false). absurd (both_ways (missing m t x) e (missing_is m t x l x0 k))) (cases_Bool (joined m x (f x)))

  pub all_joined : ((x : ℕ) → missing m t x ≡ false) → MarksJoined m t
  all_joined none a b j =
      let an : a < table_count t = g.simple.within a b j in
      let bn : b < table_count t = g.simple.within b a (g.simple.symmetric b a ∙ j) in
      ⊎_elim
      (λ k. subst (λ y. joined m a y ≡ true) k.1 (present a an k.0 (none a)))
      (λ k. s.symmetric a b ∙ subst (λ y. joined m b y ≡ true) k.1 (present b bn k.0 (none b)))
      (hangs.marks a b j)

  pub none_missing_where : MarksJoined m t → (x : ℕ) → missing m t x ≡ false
  none_missing_where all x = ⊎_elim
      (λ (e : missing m t x ≡ true).
      let k = missing_tells m t x e in
      absurd (both_ways (joined m x (f x)) k.2 (all x (f x) (towards_parent x k.0 k.1).0)))
      (λ e. e)
      (cases_Bool (missing m t x))

  -- ---- the answer

  few_tables : table_count t ≡ table_count m → table_count t ≤ 64
  few_tables e = let k = s.few in omega arith

  module _ (room : ℕ) where
    named_so : (k : DriveFault) → drive_judged m t room ≡ Err k → DriveNamedBy m t room k → DriveNamed m t room (drive_judged m t room)
    named_so k e d z q = subst (DriveNamedBy m t room) (same_fault k z (sym e ∙ q)) d

    named_by : Case m t room → DriveNamed m t room (drive_judged m t room)
    named_by (other n e) = named_so (OtherCount (table_count t) (table_count m)) e (refl, refl, n)
    named_by (absent same x k e) =
        let low = lowest_tells m t x k in
        let here = missing_tells m t x low.0 in
        named_so (NotJoined x) e (
          same,
          (parent_in t x, towards_parent x here.0 here.1, here.2),
          λ y p l w. let q = parent_towards y p w in subst (λ z. joined m y z ≡ true) q.2 (present y q.0 q.1 (low.1 y l)),
        )
    named_by (few same k l e) = named_so (TooFewRecords (table_count m)) e (same, all_joined (none_tells m t (few_tables same) k), refl, l)
    named_by (accepted same k l e) = λ z q. absurd (apart z (sym e ∙ q))

    pub named : DriveNamed m t room (drive_judged m t room)
    named = named_by (judged m t room)

    -- where it is accepted
    accepted_when : Case m t room → drive_judged m t room ≡ Ok tt → (table_count t ≡ table_count m) × MarksJoined m t × (table_count m ≤ room)
    accepted_when (other n e) q = absurd (apart (OtherCount (table_count t) (table_count m)) (sym q ∙ e))
    accepted_when (absent same x k e) q = absurd (apart (NotJoined x) (sym q ∙ e))
    accepted_when (few same k l e) q = absurd (apart (TooFewRecords (table_count m)) (sym q ∙ e))
    accepted_when (accepted same k l e) q = (same, all_joined (none_tells m t (few_tables same) k), l)

    pub accepted_tells : drive_judged m t room ≡ Ok tt → (table_count t ≡ table_count m) × MarksJoined m t × (table_count m ≤ room)
    accepted_tells = accepted_when (judged m t room)

    pub exactly : AcceptedExactly m t room (drive_judged m t room)
    exactly = (
      accepted_tells,
      λ h. judged_accepted m t room h.0 (none_missing m t (table_count t) (omega arith) (λ y _. none_missing_where h.1 y)) h.2,
    )

    pub marks_of_tree : drive_judged m t room ≡ Ok tt → MarksOf m t
    marks_of_tree q = let k = accepted_tells q in record { simple = s; spanning = g; same = k.0; within = k.1 }

-- ---- the report

not_true : (b : Bool) → not b ≡ true → b ≡ true → ⊥
not_true b h k = both_ways b (grind (arith, nat_tests)) k

true_not : (b : Bool) → (b ≡ true → ⊥) → not b ≡ true
true_not b h = ⊎_elim (λ (e : b ≡ true). absurd (h e)) (λ (e : b ≡ false). ap not e) (cases_Bool b)

parts : (j k p q : Bool) → ((j && not k) && (not p && not q)) ≡ true → (j ≡ true) × (k ≡ false) × (not p ≡ true) × (not q ≡ true)
parts j k p q h = (grind (arith, nat_tests), grind (arith, nat_tests), grind (arith, nat_tests), grind (arith, nat_tests))

whole : (j k p q : Bool) → j ≡ true → k ≡ false → not p ≡ true → not q ≡ true → ((j && not k) && (not p && not q)) ≡ true
whole j k p q a b c d = grind (arith, nat_tests)

pub counts_cross : (m t : Graph) → Simple t → (r : ℕ) → r < table_count t → CountsCross m t r
unfolding cross
counts_cross m t s r rn a b an bn = (
  λ h. let k = parts (joined m a b) (joined t a b) (on_path t r a b) (on_path t r b a) h in
      record {
        join = k.0;
        unmarked = k.1;
        first = λ o. not_true (on_path t r a b) k.2 (is_path t s r a b rn o);
        second = λ o. not_true (on_path t r b a) k.3 (is_path t s r b a rn o);
      },
  λ c. whole (joined m a b) (joined t a b) (on_path t r a b) (on_path t r b a) c.join c.unmarked
      (true_not (on_path t r a b) (λ k. c.first (path_is t s r a b rn k))) (true_not (on_path t r b a) (λ k. c.second (path_is t s r b a rn k))),
)

record_at : (counts : ℕ → ℕ) (a k x : ℕ) (l : List ReportRecord) → x < k → get_or (records_from counts a k ++ l) x silent ≡ record_of (counts (a + x))
unfolding records_from
record_at counts a zero x l h = absurd (omega arith)
record_at counts a (suc k) zero l h = let e : a ≡ a + 0 = omega arith in ap (λ (y : ℕ). record_of (counts y)) e
record_at counts a (suc k) (suc x) l h =
    let e : a + 1 + x ≡ a + suc x = omega arith in
    record_at counts (a + 1) k x l (omega arith) ∙ ap (λ (y : ℕ). record_of (counts y)) e

pub record_tells : (m t : Graph) → MarksOf m t → (x : ℕ) → x < table_count m → (l : List ReportRecord) → get_or l x silent ≡ record_of (cross_count m t x) → RecordTells m t x l
record_tells m t h x xn l is = record {
  count = ap (λ (r : ReportRecord). r.cross) is;
  counts = counts_cross m t h.spanning.simple x (rw h.same xn);
  drives = (
    λ d. (drives_exactly m t h x xn).1 (eqb-true (cross_count m t x) 0 (sym (ap (λ (r : ReportRecord). r.drives) is) ∙ d)),
    λ d. ap (λ (r : ReportRecord). r.drives) is ∙ eq-eqb (cross_count m t x) 0 ((drives_exactly m t h x xn).0 d),
  );
  zero = drives_exactly m t h x xn;
}

pub reported : (m t : Graph) → (r : Result Unit DriveFault) → (r ≡ Ok tt → MarksOf m t) → (l : List ReportRecord) → Reported m t r (report_after r m t l)
reported m t r h l e x xn =
    let zero-x : 0 + x ≡ x = omega arith in
    record_tells m t (h e) x xn (report_after r m t l)
    (ap (λ (q : Result Unit DriveFault). get_or (report_after q m t l) x silent) e
    ∙ record_at (cross_count m t) 0 (table_count m) x (drop (table_count m) l) xn ∙ ap (λ (y : ℕ). record_of (cross_count m t y)) zero-x)
