-- A whole run of the program: what is shown is laid over the text, and the law holds of it.
--
--   tables_within   a report that was given lies within the records
--   able_so         its numbers fit
--   done_given      a query whose marks make a spanning tree
--   done_refused    a query that is refused
use Rattle.std.proofs.Common.{◌≡◌, ℕ, ◌≤◌, ◌⊎◌, min, Bool, true, false, cond, ltb, List, [], ◌++◌, length, take, drop, Ok, Err, Result, sym, refl, ap, ◌∙◌, subst, inl, inr, arith, length-take, length-append}
use Rattle.std.proofs.lemmas.Bool.{le-ltb, ltb-false}
use Rattle.std.proofs.lemmas.List.{take_at}
use Rattle.theory.specs.Graph.{Simple}
use Rattle.theory.specs.declared.mark.Mark.{Mark}
use Rattle.theory.specs.declared.step.Step.{Step}
use Rattle.writer.specs.Laid.{laid}
use Rattle.lines.proofs.Bytes.{line_length}
use Rattle.texts.specs.declared.fault.TextFault.TheVariants.{TooFew}
use Rattle.texts.proofs.Laying.{laid_front, laid_length}
use Rattle.reports.specs.declared.record.ReportRecord.{ReportRecord}
use Rattle.prints.specs.Refusal.{refusal_line}
use Rattle.outcomes.specs.Fault.{fault_number, fault_layer, fault_place}
use Rattle.outcomes.specs.declared.fault.ProgramFault.{ProgramFault}
use Rattle.outcomes.specs.declared.fault.ProgramFault.TheVariants.{Text}
use Rattle.report_texts.specs.ReportText.{numbers_checked, report_length}
use Rattle.report_texts.proofs.Laying.{text_length}
use Rattle.programs.specs.Replay.{looked_at}
use Rattle.assembler.specs.Assemble.{query_in}
use Rattle.assembler.specs.AssembleLaw.{RefusesQuery}
use Rattle.assembler.proofs.Begun.{begun_simple}
use Rattle.driver.specs.Drive.{Report, drive_told, report_left, outcome, printed, roomed, shown}
use Rattle.driver.specs.DriveLaw.{GivesReport, RefusesTree, Reports}
use Rattle.driver.specs.Inner.{report_at, Amounts}
use Rattle.driver.specs.Driven.{Driven}
use Rattle.driver.specs.declared.drive.Outcome.{Outcome}
use Rattle.driver.proofs.Law.{fits_so}
use Rattle.driver.proofs.Shows.{numbers_fit, shown_report}

-- ---- what is shown fits

line_within : (b : ℕ) (f : ProgramFault) → 17 ≤ b → length (printed (Err f)) ≤ b
line_within b f h = let bytes = line_length (refusal_line (fault_number f) (fault_layer f) (fault_place f)) in omega arith

report_within : (b : ℕ) (p : Report) (c : Bool) → 17 ≤ b → ltb b (report_length p.records) ≡ c
    → length (printed (cond c (Err (Text (TooFew (report_length p.records)))) (Ok p))) ≤ b
report_within b p true h test = line_within b (Text (TooFew (report_length p.records))) h
report_within b p false h test = let fits = ltb-false b (report_length p.records) test in let bytes = text_length p.records p.pick in omega arith

roomed_within : (b : ℕ) (r : Result Report ProgramFault) → 17 ≤ b → length (printed (roomed b r)) ≤ b
roomed_within b (Ok p) h = report_within b p (ltb b (report_length p.records)) h refl
roomed_within b (Err f) h = line_within b f h

shown_by : (b : ℕ) (c : Bool) (out : List ℕ) → ltb b 17 ≡ c → (17 ≤ b → length out ≤ b) → length (cond c [] out) ≤ b
shown_by b true out test h = omega arith
shown_by b false out test h = h (ltb-false b 17 test)

shown_within : (b : ℕ) (r : Result Report ProgramFault) → length (shown b r) ≤ b
shown_within b r = shown_by b (ltb b 17) (printed (roomed b r)) refl (roomed_within b r)

-- no more is looked at than there is
looked_most : (text : List ℕ) (len : ℕ) → length (looked_at text len) ≤ length text
looked_most text len = let cut = length-take (min (min len (length text)) 36465) text in omega arith

-- ---- what was told

outcome_of : Report → Outcome
outcome_of p = record { tables = length p.records; pick = p.pick }

outcome_back : (r : Result Report ProgramFault) (o : Outcome) → Ok o ≡ outcome r → (p : Report) × (r ≡ Ok p) × (o ≡ outcome_of p)
unfolding outcome_of
outcome_back (Ok p) o e = (p, refl, (let g : o ≡ outcome_of p = cc in g))
outcome_back (Err f) o e = cc

refused_back : (r : Result Report ProgramFault) (f : ProgramFault) → Err f ≡ outcome r → r ≡ Err f
refused_back (Ok p) f e = cc
refused_back (Err g) f e = let same : g ≡ f = cc in ap (λ x. Err x) same

module _ (text : List ℕ) (len : ℕ) (steps : List Step) (marks : List Mark) (marks' : List Mark) (r : ℕ) (text' : List ℕ) (told : Result Report ProgramFault) where
  done_so : told ≡ drive_told (looked_at text len) marks → marks' ≡ (query_in (looked_at text len) marks).marks
      → r ≡ length (shown (length text) told) → text' ≡ laid text 0 (shown (length text) told)
      → (34 ≤ length text → Reports (looked_at text len) (shown (length text) told)) → Driven text len steps marks r text' steps marks'
  done_so answer marked count lies law =
      let b = length text in
      let fits : length (shown b told) ≤ b = shown_within b told in
      let long : length text' ≡ b = ap length lies ∙ laid_length text 0 (shown b told) in
      record {
        count = count ∙ ap (λ q. length (shown b q)) answer;
        within = omega arith;
        lies = lies ∙ ap (λ q. laid text 0 (shown b q)) answer;
        kept = refl;
        marked = marked;
        law = λ room. subst (Reports (looked_at text len)) (sym (ap (take r) lies ∙ laid_front text (shown b told) r count fits)) (law room);
      }

module _ (text : List ℕ) (len : ℕ) (steps : List Step) (marks : List Mark) {part : List ℕ} (cut : part ≡ looked_at text len) where
  -- ---- a report that was given: `records` are those that it was laid into, and `lent` as they were before

  module _ (o : Outcome) (lent records : List ReportRecord) (told : Ok o ≡ outcome (drive_told part marks))
      (filled : records ≡ report_left (drive_told part marks) lent) (law : Amounts part (Ok o) records) where
    report : Report
    report = (outcome_back (drive_told part marks) o told).0

    told_is : drive_told part marks ≡ Ok report
    unfolding report
    told_is = (outcome_back (drive_told part marks) o told).1

    outcome_is : o ≡ outcome_of report
    unfolding report
    outcome_is = (outcome_back (drive_told part marks) o told).2

    many : o.tables ≡ length report.records
    unfolding outcome_of
    many = ap (λ (x : Outcome). x.tables) outcome_is

    picks : o.pick ≡ report.pick
    unfolding outcome_of
    picks = ap (λ (x : Outcome). x.pick) outcome_is

    laid_so : records ≡ report.records ++ drop (length report.records) lent
    laid_so = filled ∙ ap (λ q. report_left q lent) told_is

    pub tables_within : o.tables ≤ length records
    tables_within =
        let long : length records ≡ length (report.records ++ drop (length report.records) lent) = ap length laid_so in
        let both = length-append report.records (drop (length report.records) lent) in
        omega (arith, many, long, both)

    report_is : report_at o records ≡ report
    report_is =
        let front : take o.tables records ≡ report.records =
        ap (take o.tables) laid_so ∙ take_at report.records (drop (length report.records) lent) o.tables (sym many) in
        λ i. record { records = front i; pick = picks i }

    simple_so : Simple law.0.graph
    simple_so = subst Simple (sym law.0.of.graph_is) (begun_simple law.0.of.query.begun)

    pub able_so : numbers_checked (take o.tables records) o.pick ≡ Ok tt
    able_so =
        let fit = numbers_fit law.0.graph simple_so law.0.ms law.0.rows law.0.report law.0.tells in
        subst (λ (p : Report). numbers_checked p.records p.pick ≡ Ok tt) law.1 fit

    pub done_given : (marks' : List Mark) (r : ℕ) (text' : List ℕ) → marks' ≡ (query_in part marks).marks
        → r ≡ length (shown (length text) (Ok (report_at o records))) → text' ≡ laid text 0 (shown (length text) (Ok (report_at o records)))
        → Driven text len steps marks r text' steps marks'
    done_given marks' r text' marked count lies =
        let b = length text in
        let p = report_at o records in
        let answer : ◌≡◌ {A = Result Report ProgramFault} (Ok p) (drive_told (looked_at text len) marks) =
        ap (λ (x : Report). Ok x) report_is ∙ sym told_is ∙ ap (λ x. drive_told x marks) cut in
        let most = looked_most text len in
        let short : length part ≤ b = let e : length part ≡ length (looked_at text len) = ap length cut in omega arith in
        done_so text len steps marks marks' r text' (Ok p) answer (marked ∙ ap (λ x. (query_in x marks).marks) cut) count lies
        (λ two.
        let fits : report_length p.records ≤ b = subst (λ (x : Report). report_length x.records ≤ b) law.1 (fits_so part (printed (Ok p)) law.0 b short two) in
        inl (subst (GivesReport (looked_at text len)) (sym (shown_report p b fits)) (subst (λ x. GivesReport x (printed (Ok p))) cut law.0)))

  -- ---- a refusal

  module _ (f : ProgramFault) (records : List ReportRecord) (told : Err f ≡ outcome (drive_told part marks)) (law : Amounts part (Err f) records) where
    pub done_refused : (marks' : List Mark) (r : ℕ) (text' : List ℕ) → marks' ≡ (query_in part marks).marks
        → r ≡ length (shown (length text) (Err f)) → text' ≡ laid text 0 (shown (length text) (Err f)) → Driven text len steps marks r text' steps marks'
    done_refused marks' r text' marked count lies =
        let b = length text in
        let answer : Err f ≡ drive_told (looked_at text len) marks = sym (refused_back (drive_told part marks) f told) ∙ ap (λ x. drive_told x marks) cut in
        done_so text len steps marks marks' r text' (Err f) answer (marked ∙ ap (λ x. (query_in x marks).marks) cut) count lies
        (λ two.
        let line : shown b (Err f) ≡ printed (Err f) = ap (λ c. cond c [] (printed (Err f))) (le-ltb b 17 (omega arith)) in
        inr (subst (λ out. RefusesQuery (looked_at text len) out ⊎ RefusesTree (looked_at text len) out) (sym line)
        (subst (λ x. RefusesQuery x (printed (Err f)) ⊎ RefusesTree x (printed (Err f))) cut law)))
