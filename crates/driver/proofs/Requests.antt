-- The request of a graph with marks, exit by exit.
--
--   report_length          a report has a record for each table
--   fill_off, amiss_so     marks that make no tree: what is answered, and in words
--   drive_on               a tree of the graph is never refused
--   filled_so, answer_so   the report and the pick that are given
--   tells_so               and in words
use Rattle.std.proofs.Common.{◌≡◌, ℕ, zero, suc, ◌+◌, ◌<◌, ◌≤◌, true, ◌↔◌, List, [], ◌∷◌, ◌++◌, length, get_or, take, drop, Option, Ok, Err, Result, sym, refl, ap, ◌∙◌, subst, ⊎_elim, arith}
use Rattle.std.proofs.lemmas.Bool.{or_cases}
use Rattle.std.proofs.lemmas.List.{take_at, get_or-take}
use Rattle.std.proofs.lemmas.Option.{slice_get_within}
use Rattle.theory.specs.Graph.{Graph, Simple, joined, table_count, same_pair}
use Rattle.theory.specs.declared.mark.Mark.{Mark}
use Rattle.theory.proofs.Sizes.{pair_adj}
use Rattle.catalogue.specs.declared.catalogue.RowRecord.{RowRecord}
use Rattle.trees.specs.Fault.{tree_place}
use Rattle.trees.specs.Tree.{marked, has_mark, fill_answer, AllJoins, MarksTree, FillsExactly, FaultTold, FillRefused}
use Rattle.trees.specs.declared.fault.TreeFault.{TreeFault}
use Rattle.trees.specs.declared.fault.TreeFault.TheVariants as filling
use Rattle.reports.specs.Pick.{silent, Picks, picked}
use Rattle.reports.specs.declared.record.ReportRecord.{ReportRecord}
use Rattle.spanning.specs.Crossing.{cross_count}
use Rattle.spanning.specs.Driving.{Drives}
use Rattle.driving.specs.Drive.{report_of, records_from, drive_judged, report_after}
use Rattle.driving.specs.DriveLaw.{RecordTells, Reported, AcceptedExactly}
use Rattle.driving.specs.declared.fault.DriveFault.{DriveFault}
use Rattle.outcomes.specs.declared.fault.ProgramFault.TheVariants.{Tree}
use Rattle.driver.specs.Drive.{tree_then, drive_last, report_by, request, report_left, outcome}
use Rattle.driver.specs.DriveLaw.{Tells}
use Rattle.driver.specs.Inner.{report_at, TreeAmiss}
use Rattle.driver.specs.declared.drive.Outcome.{Outcome}

pub ok_err : {F : Type 0} (f : F) → ◌≡◌ {A = Result Unit F} (Ok tt) (Err f) → ⊥
ok_err f e = cc

records_length : (counts : ℕ → ℕ) (x k : ℕ) → length (records_from counts x k) ≡ k
unfolding records_from
records_length counts x zero = refl
records_length counts x (suc k) = ap suc (records_length counts (x + 1) k)

pub report_length : (m t : Graph) → length (report_of m t) ≡ table_count m
report_length m t = records_length (cross_count m t) 0 (table_count m)

-- a tree of joins has no mark that is no join
marks_joined : (m : Graph) → Simple m → (l : List Mark) → AllJoins m l → (a b : ℕ) → has_mark l a b ≡ true → joined m a b ≡ true
marks_joined m s [] all a b e = cc
marks_joined m s (k ∷ l) all a b e =
    ⊎_elim
    (λ (h : same_pair k.v k.w a b ≡ true). pair_adj m k.v k.w a b s (all 0 k refl) h)
    (λ (h : has_mark l a b ≡ true). marks_joined m s l (λ i. all (suc i)) a b h)
    (or_cases (same_pair k.v k.w a b) (has_mark l a b) e)

-- the place that is named: the turn of a mark, which is below their number
told_near : (m : Graph) → Simple m → (l : List Mark) (f : TreeFault) → FaultTold m l f → tree_place f ≤ 99999
told_near m s l (filling.WrongCount k) h = omega arith
told_near m s l (filling.Mark i f) h =
    let below : i < length l = slice_get_within l i h.2.0 h.2.1 in
    let few : m.tables ≤ 64 = s.few in
    let many : length l + 1 ≡ table_count m = h.0 in
    omega arith

module _ (m : Graph) (l : List Mark) (rows : List RowRecord) (s : Simple m) where
  abbrev t : Graph
  t = marked (table_count m) l

  module _ (f : TreeFault) (r : Result Unit TreeFault) (bad : r ≡ Err f) where
    pub fill_off : r ≡ fill_answer m l → request m l rows ≡ Err (Tree f)
    unfolding request
    fill_off answer = ap (λ q. tree_then q (drive_last (drive_judged m t 64) (report_by m t rows))) (sym answer ∙ bad)

    pub amiss_so : FillsExactly m l r → FillRefused m l r → TreeAmiss m l f
    amiss_so exactly refused = record {
      none = λ h. ok_err f (sym (exactly.1 h) ∙ bad);
      told = refused f bad;
      small = told_near m s l f (refused f bad);
    }

  -- the tree that is filled; `u` is what it means
  module _ (q : Result Unit TreeFault) (good : q ≡ Ok tt) (answer : q ≡ fill_answer m l) (fills : FillsExactly m l q)
      (u : Graph) (is : u ≡ t) (lent : List ReportRecord) (room : length lent ≡ 64) where
    tree_so : MarksTree m l
    tree_so = fills.0 good

    module _ (r : Result Unit DriveFault) (exactly : AcceptedExactly m u (length lent) r) where
      -- it is not refused
      pub drive_on : r ≡ Ok tt
      drive_on =
          let all : AcceptedExactly m t (length lent) r = subst (λ x. AcceptedExactly m x (length lent) r) is exactly in
          all.1 (refl, marks_joined m s l tree_so.joins, (let few : m.tables ≤ 64 = s.few in omega arith))

      module _ (judged : r ≡ drive_judged m u (length lent)) where
        request_on : request m l rows ≡ Ok (report_by m t rows)
        unfolding request
        request_on =
            let accepted : drive_judged m t 64 ≡ Ok tt =
            sym (ap (λ x. drive_judged m x 64) is) ∙ sym (ap (λ k. drive_judged m u k) room) ∙ sym judged ∙ drive_on in
            ap (λ x. tree_then x (drive_last (drive_judged m t 64) (report_by m t rows))) (sym answer ∙ good)
            ∙ ap (λ x. drive_last x (report_by m t rows)) accepted

        module _ (filled : List ReportRecord) (after : filled ≡ report_after r m u lent) where
          laid_so : filled ≡ report_of m t ++ drop (table_count m) lent
          laid_so = after ∙ ap (λ x. report_after x m u lent) drive_on ∙ ap (λ x. report_of m x ++ drop (table_count m) lent) is

          taken : take (table_count m) filled ≡ report_of m t
          taken = ap (take (table_count m)) laid_so ∙ take_at (report_of m t) (drop (table_count m) lent) (table_count m) (report_length m t)

          pub filled_so : filled ≡ report_left (request m l rows) lent
          filled_so =
              laid_so
              ∙ ap (λ k. report_of m t ++ drop k lent) (sym (report_length m t))
              ∙ sym (ap (λ x. report_left x lent) request_on)

          module _ (n : ℕ) (tables : n ≡ table_count m) (o : Option ℕ) (pick : o ≡ picked (take n filled) rows) (picks : Picks (take n filled) rows o) where
            pub answer_so : Ok (record { tables = n; pick = o }) ≡ outcome (request m l rows)
            answer_so =
                let count : n ≡ length (report_of m t) = tables ∙ sym (report_length m t) in
                let same : o ≡ picked (report_of m t) rows = pick ∙ ap (λ k. picked (take k filled) rows) tables ∙ ap (λ x. picked x rows) taken in
                let told : ◌≡◌ {A = Outcome} (record { tables = n; pick = o }) (record { tables = length (report_of m t); pick = picked (report_of m t) rows }) =
                λ i. record { tables = count i; pick = same i } in
                ap (λ (x : Outcome). Ok x) told ∙ sym (ap outcome request_on)

            pub tells_so : Reported m u r filled → Tells m l rows (report_at (record { tables = n; pick = o }) filled)
            tells_so reported =
                let cut : take n filled ≡ take (table_count m) filled = ap (λ k. take k filled) tables in
                record {
                  tree = tree_so;
                  each = ap length cut ∙ ap length taken ∙ report_length m t;
                  tells = λ x below. subst (λ y. RecordTells m t x y) (sym cut) (cut_tells x below (subst (λ y. RecordTells m y x filled) is (reported drive_on x below)));
                  picks = picks;
                }
              where
                cut_tells : (x : ℕ) → x < table_count m → RecordTells m t x filled → RecordTells m t x (take (table_count m) filled)
                cut_tells x below h =
                    let same : get_or (take (table_count m) filled) x silent ≡ get_or filled x silent = get_or-take (table_count m) filled x silent below in
                    record {
                      count = ap (λ (y : ReportRecord). y.cross) same ∙ h.count;
                      counts = h.counts;
                      drives = subst (λ (y : ReportRecord). (y.drives ≡ true) ↔ Drives m t x) (sym same) h.drives;
                      zero = h.zero;
                    }
