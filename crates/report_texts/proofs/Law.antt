-- What writing a report amounts to.
--
--   line_record, line_pick   the line of a turn: that of its record, or after the last that of the pick
--   all_fit                  where all numbers are small enough, those of each line fit
--   short_by                 what is told where fewer bytes are lent than are needed
--   writes_report            what is written reads back, and a refusal is told of what is there
--   reports_by               so it is of an answer and bytes that are those of the definition
use Rattle.std.proofs.Common.{◌≡◌, ℕ, ◌+◌, ◌*◌, ◌<◌, ◌≤◌, Bool, true, false, cond, ltb, List, ◌++◌, length, get_or, drop, Some, None, Option, Ok, Err, Result, sym, refl, ap, ◌∙◌, subst, ⊎_elim, arith}
use Rattle.std.specs.List.{position}
use Rattle.std.proofs.lemmas.Bool.{cases_lt, ltb-true, ltb-false, lt-ltb, le-ltb}
use Rattle.std.proofs.lemmas.List.{drop_at}
use Rattle.lines.specs.Form.{Agrees}
use Rattle.lines.specs.Text.{line_text, Fits, Written}
use Rattle.lines.proofs.Lines.{reads_back}
use Rattle.lines.proofs.Pieces.{agrees_front, agrees_back}
use Rattle.writer.specs.Laid.{laid}
use Rattle.reports.specs.Pick.{silent}
use Rattle.reports.specs.declared.record.ReportRecord.{ReportRecord}
use Rattle.texts.specs.ListWrite.{roomy, laid_if}
use Rattle.texts.specs.declared.fault.TextFault.{TextFault}
use Rattle.texts.specs.declared.fault.TextFault.TheVariants.{OutOfLimits, TooFew}
use Rattle.texts.proofs.Lists.{refused}
use Rattle.texts.proofs.Laying.{laid_length, laid_agrees, laid_whole}
use Rattle.report_texts.specs.ReportText.{record_line, pick_line, report_text, report_length, record_over, pick_over, over_told, numbers_checked, report_answer, report_written}
use Rattle.report_texts.specs.ReportLaw.{line_of_turn, Told, Short, RefusedFor, Reports}
use Rattle.report_texts.proofs.Numbers.{turns, turns_length, turn_record, checked_none, pick_fits, pick_not, fits_none, fits_before, first_not}
use Rattle.report_texts.proofs.Laying.{rows, rows_length, text_length, lines_agree}

-- equal refusals have equal faults, and an answer is none
abbrev fault_of : TextFault → Result Unit TextFault → TextFault
fault_of d (Ok u) = d
fault_of d (Err f) = f

fault_same : (e f : TextFault) → ◌≡◌ {A = Result Unit TextFault} (Err e) (Err f) → e ≡ f
fault_same e f q = ap (fault_of e) q

module _ (l : List ReportRecord) (o : Option ℕ) where
  line_record : (i : ℕ) → i < length l → line_of_turn l o i ≡ record_line (i, get_or l i silent)
  line_record i h = ap (λ b. cond b (record_line (i, get_or l i silent)) (pick_line o)) (lt-ltb i (length l) h)

  line_pick : (i : ℕ) → length l ≤ i → line_of_turn l o i ≡ pick_line o
  line_pick i h = ap (λ b. cond b (record_line (i, get_or l i silent)) (pick_line o)) (le-ltb i (length l) h)

  -- the line of a turn is in its layout
  turn_written : (i : ℕ) → Fits (line_of_turn l o i).fields → Written (line_of_turn l o i)
  turn_written i f = by (ltb i (length l)) f
    where
      by : (b : Bool) → Fits (cond b (record_line (i, get_or l i silent)) (pick_line o)).fields → Written (cond b (record_line (i, get_or l i silent)) (pick_line o))
      by true f = record { listed = refl; fits = f }
      by false f = record { listed = refl; fits = f }

  all_fit : numbers_checked l o ≡ Ok tt → (i : ℕ) → i ≤ length l → Fits (line_of_turn l o i).fields
  all_fit q i h =
      let p = checked_none l o q in
      ⊎_elim
      (λ (k : i < length l). subst (λ n. Fits n.fields) (sym (line_record i k)) (fits_none l p.0 i k))
      (λ (k : length l ≤ i). subst (λ n. Fits n.fields) (sym (line_pick i k)) (pick_fits o p.1))
      (cases_lt i (length l))

  -- ---- what is written

  turn_agrees : (text : List ℕ) → Agrees (report_text l o) text 0 (17 * (length l + 1)) → (i : ℕ) → i ≤ length l → Agrees (line_text (line_of_turn l o i)) text (17 * i) 17
  turn_agrees text a i h =
      let long = rows_length l in
      let many = turns_length l in
      let n = 17 * length l in
      let front : Agrees (rows l) text 0 (17 * length (turns l)) =
      λ j b. agrees_front (rows l) (line_text (pick_line o)) text n long 0 n (omega arith) n (omega arith) (λ j b. a j (omega arith)) j (omega arith)
      in
      let back : Agrees (line_text (pick_line o)) text n 17 = agrees_back (rows l) (line_text (pick_line o)) text n long 0 n (omega arith) 17 (λ j b. a j (omega arith)) in
      ⊎_elim
      (λ (k : i < length l).
      subst (λ m. Agrees (line_text m) text (17 * i) 17) (ap record_line (turn_record l i k) ∙ sym (line_record i k)) (subst (λ n. Agrees (line_text (record_line (get_or (turns l) i (0, silent)))) text n 17) (omega arith) (lines_agree record_line (turns l) text 0 (0, silent) front i (omega arith))))
      (λ (k : length l ≤ i).
      let last : length l ≡ i = omega arith in
      subst (λ m. Agrees (line_text m) text (17 * i) 17) (sym (line_pick i k)) (subst (λ m. Agrees (line_text (pick_line o)) text (17 * m) 17) last back))
      (cases_lt i (length l))

  module _ (out : List ℕ) where
    -- enough bytes are lent
    told : numbers_checked l o ≡ Ok tt → report_length l ≤ length out → Told l o out (laid out 0 (report_text l o)) (report_length l)
    told q room =
        let text = report_text l o in
        let long : length text ≡ report_length l = text_length l o in
        let a = laid_agrees out 0 text (omega arith) in
        let past : laid out 0 text ≡ text ++ drop (length text) out = laid_whole out text (omega arith) in
        record {
          whole = refl;
          room = room;
          same_length = laid_length out 0 text;
          reads = λ i h. reads_back (laid out 0 text) (17 * i) (line_of_turn l o i) (turn_written i (all_fit q i h)) (turn_agrees (laid out 0 text) (λ j b. a j (omega arith)) i h);
          others = ap (drop (report_length l)) past ∙ drop_at text (drop (length text) out) (report_length l) long ∙ ap (λ k. drop k out) long;
        }

    -- ---- what is refused

    -- fewer bytes are lent than the text has
    pub short_by : (r : Result Unit TextFault) (u : Unit) → r ≡ numbers_checked l o → r ≡ Ok u → length out < report_length l → Short l o (length out) (report_length l)
    short_by r u e q less = record { fits = all_fit (sym e ∙ q); whole = refl; less = less }

    -- the first line with a number that is too large
    over_by : (f : TextFault) (w : Option ℕ) (b : Bool) → position record_over (turns l) ≡ w → pick_over o ≡ b
        → over_told w (cond b (Err (OutOfLimits (17 * length l))) (Ok tt)) ≡ Err f → RefusedFor l o (length out) f
    over_by f (Some i) b e k q =
        let not = first_not l i e in
        let inside = not.0 in
        subst (RefusedFor l o (length out)) (fault_same (OutOfLimits (17 * i)) f q)
        (record {
          turn = i;
          is_place = refl;
          one_of = omega arith;
          over = λ h. not.1 (subst (λ n. Fits n.fields) (line_record i inside) h);
          first = λ j h. subst (λ n. Fits n.fields) (sym (line_record j (omega arith))) (fits_before l i e j h);
        })
    over_by f None true e k q =
        subst (RefusedFor l o (length out)) (fault_same (OutOfLimits (17 * length l)) f q)
        (record {
          turn = length l;
          is_place = refl;
          one_of = omega arith;
          over = λ h. pick_not o k (subst (λ n. Fits n.fields) (line_pick (length l) (omega arith)) h);
          first = λ j h. subst (λ n. Fits n.fields) (sym (line_record j h)) (fits_none l e j h);
        })
    over_by f None false e k q = refused f tt (sym q)

    -- the answer, by whether the numbers are small enough, and whether there is too little room
    abbrev roomed : Result Unit TextFault → Bool → Result ℕ TextFault
    roomed (Ok u) b = cond b (Err (TooFew (report_length l))) (Ok (report_length l))
    roomed (Err f) b = Err f

    by_room : (c : Result Unit TextFault) (b : Bool) → numbers_checked l o ≡ c → ltb (length out) (report_length l) ≡ b
        → Reports l o out (laid_if (roomed c b) out (report_text l o)) (roomed c b)
    by_room (Ok u) true q e = (refl, short_by (Ok u) u (sym q) refl (ltb-true (length out) (report_length l) e))
    by_room (Ok u) false q e = told q (ltb-false (length out) (report_length l) e)
    by_room (Err f) b q e = (refl, over_by f (position record_over (turns l)) (pick_over o) refl refl q)

    pub writes_report : Reports l o out (report_written l o out) (report_answer l o (length out))
    writes_report =
        subst (λ r. Reports l o out (laid_if r out (report_text l o)) r) (same (numbers_checked l o))
        (by_room (numbers_checked l o) (ltb (length out) (report_length l)) refl refl)
      where
        same : (c : Result Unit TextFault) → roomed c (ltb (length out) (report_length l)) ≡ roomy c (report_length l) (length out)
        same (Ok u) = refl
        same (Err f) = refl

    pub reports_by : (after : List ℕ) (r : Result ℕ TextFault) → r ≡ report_answer l o (length out) → after ≡ report_written l o out → Reports l o out after r
    reports_by after r answer written =
        subst (λ a. Reports l o out a r) (sym written) (subst (Reports l o out (report_written l o out)) (sym answer) writes_report)
