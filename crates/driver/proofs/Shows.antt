-- A report laid over the text: its numbers fit, and its text or the line of its refusal is shown.
--
--   numbers_fit    the numbers of a report and its pick are small enough for their fields
--   report_count   a report that was written: how many bytes
--   report_kept    where it was not, the text is as it was
--   report_unfit   and what is shown is the line of 9
--   shown_report   where it fits it is shown
use Rattle.std.proofs.Common.{◌≡◌, ℕ, ◌*◌, ◌<◌, ◌≤◌, true, false, cond, ◌||◌, ltb, List, [], length, get_or, Option, Some, None, Ok, Err, Result, sym, refl, ap, ◌∙◌, ⊎_elim, arith}
use Rattle.std.specs.List.{position}
use Rattle.std.proofs.lemmas.Bool.{le-ltb, ltb-true, both_ways, and_parts}
use Rattle.std.proofs.lemmas.List.Quantifiers.{position-Some}
use Rattle.theory.specs.Graph.{Graph, Simple, table_count}
use Rattle.theory.specs.declared.mark.Mark.{Mark}
use Rattle.theory.proofs.Sizes.{size_most}
use Rattle.catalogue.specs.declared.catalogue.RowRecord.{RowRecord}
use Rattle.spanning.specs.Crossing.{cross, cross_count}
use Rattle.trees.specs.Tree.{marked}
use Rattle.reports.specs.Pick.{silent, drives_in, LowestCount, LowestTable, Picks}
use Rattle.reports.specs.declared.record.ReportRecord.{ReportRecord}
use Rattle.writer.specs.Laid.{laid}
use Rattle.texts.specs.ListWrite.{over, roomy, laid_if}
use Rattle.texts.specs.declared.fault.TextFault.{TextFault}
use Rattle.texts.specs.declared.fault.TextFault.TheVariants.{OutOfLimits, TooFew}
use Rattle.outcomes.specs.declared.fault.ProgramFault.TheVariants.{Text}
use Rattle.report_texts.specs.ReportText.{record_over, pick_over, over_told, numbers_checked, report_text, report_length, report_answer, report_written}
use Rattle.report_texts.proofs.Numbers.{turns, turns_length, turn_record}
use Rattle.report_texts.proofs.Laying.{text_length}
use Rattle.programs.specs.Refusal.{refusal_shown}
use Rattle.programs.proofs.Prints.{room_told, unroomed, refusal_near}
use Rattle.driver.specs.Drive.{Report, printed, roomed, shown}
use Rattle.driver.specs.DriveLaw.{Tells}

-- where no line has a number that is too large, none is found
none_over : (l : List ReportRecord) (o : Option ℕ) → ((x : ℕ) → x < length l → record_over (x, get_or l x silent) ≡ false) → pick_over o ≡ false → numbers_checked l o ≡ Ok tt
none_over l o each pick = by (position record_over (turns l)) refl
  where
    by : (w : Option ℕ) → position record_over (turns l) ≡ w → over_told w (cond (pick_over o) (Err (OutOfLimits (17 * length l))) (Ok tt)) ≡ Ok tt
    by (Some i) e =
        let p = position-Some record_over (turns l) i (0, silent) e in
        let inside : i < length (turns l) = p.0 in
        let below : i < length l = omega (arith, turns_length l) in
        absurd (both_ways (record_over (i, get_or l i silent)) (each i below) (sym (ap record_over (turn_record l i below)) ∙ p.1))
    by None e = ap (λ b. cond b (Err (OutOfLimits (17 * length l))) (Ok tt)) pick

picked_low : (l : List ReportRecord) (rows : List RowRecord) (o : Option ℕ) → Picks l rows o → pick_over o ≡ false
picked_low l rows None p = refl
picked_low l rows (Some x) p =
    ⊎_elim (λ (h : LowestCount l rows x). low h.1.0) (λ (h : LowestTable l rows x). low h.0) p
  where
    low : drives_in l x ≡ true → over x ≡ false
    low d = let below : x < 64 = ltb-true x 64 (and_parts (ltb x 64) (get_or l x silent).drives d).0 in le-ltb 99999 x (omega arith)

pub numbers_fit : (m : Graph) → Simple m → (ms : List Mark) (rows : List RowRecord) (p : Report) → Tells m ms rows p → numbers_checked p.records p.pick ≡ Ok tt
numbers_fit m s ms rows p t = none_over p.records p.pick low (picked_low p.records rows p.pick t.picks)
  where
    few : m.tables ≤ 64
    few = s.few

    joins_of : ℕ → Graph
    joins_of x = record { tables = table_count m; adj = cross m (marked (table_count m) ms) x }

    low : (x : ℕ) → x < length p.records → record_over (x, get_or p.records x silent) ≡ false
    low x below =
        let each : length p.records ≡ table_count m = t.each in
        let count : (get_or p.records x silent).cross ≡ cross_count m (marked (table_count m) ms) x = (t.tells x (omega arith)).count in
        let most : cross_count m (marked (table_count m) ms) x ≤ 2016 = size_most (joins_of x) few in
        let table : over x ≡ false = le-ltb 99999 x (omega (arith, few)) in
        let number : over (get_or p.records x silent).cross ≡ false = le-ltb 99999 (get_or p.records x silent).cross (omega arith) in
        ap (λ b. b || over (get_or p.records x silent).cross) table ∙ number

-- a report whose text fits is shown
pub shown_report : (p : Report) (b : ℕ) → report_length p.records ≤ b → shown b (Ok p) ≡ printed (Ok p)
shown_report p b h =
    ap (λ c. cond c [] (printed (roomed b (Ok p)))) (le-ltb b 17 (omega arith))
    ∙ ap (λ c. printed (cond c (Err (Text (TooFew (report_length p.records)))) (Ok p))) (le-ltb b (report_length p.records) h)

module _ (p : Report) (text : List ℕ) (able : numbers_checked p.records p.pick ≡ Ok tt) where
  abbrev needed : ℕ
  needed = report_length p.records

  judged : report_answer p.records p.pick (length text) ≡ cond (ltb (length text) needed) (Err (TooFew needed)) (Ok needed)
  judged = ap (λ q. roomy q needed (length text)) able

  module _ (n : ℕ) (told : Ok n ≡ report_answer p.records p.pick (length text)) where
    fits : (n ≡ needed) × (needed ≤ length text)
    fits = room_told needed (length text) n (told ∙ judged)

    pub report_count : n ≡ length (shown (length text) (Ok p))
    report_count = fits.0 ∙ sym (text_length p.records p.pick) ∙ sym (ap length (shown_report p (length text) fits.1))

    pub report_laid : (after : List ℕ) → after ≡ report_written p.records p.pick text → after ≡ laid text 0 (shown (length text) (Ok p))
    report_laid after e =
        e
        ∙ sym (ap (λ (r : Result ℕ TextFault). laid_if r text (report_text p.records p.pick)) told)
        ∙ sym (ap (laid text 0) (shown_report p (length text) fits.1))

  module _ (f : TextFault) (told : Err f ≡ report_answer p.records p.pick (length text)) where
    pub report_unfit : length p.records ≤ 64 → refusal_shown (length text) (Text f) ≡ shown (length text) (Ok p)
    report_unfit few =
        let q = unroomed needed (length text) f (ltb (length text) needed) refl (told ∙ judged) in
        ap (λ e. refusal_shown (length text) (Text e)) q.0
        ∙ refusal_near (Text (TooFew needed)) (length text) (omega arith)
        ∙ sym (ap (λ c. cond (ltb (length text) 17) [] (printed (cond c (Err (Text (TooFew needed))) (Ok p)))) q.1)

    -- and nothing was written
    pub report_kept : (after : List ℕ) → after ≡ report_written p.records p.pick text → after ≡ text
    report_kept after e = e ∙ sym (ap (λ (r : Result ℕ TextFault). laid_if r text (report_text p.records p.pick)) told)
