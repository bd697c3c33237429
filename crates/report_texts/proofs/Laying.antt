-- A report's lines laid over a buffer, and read there.
--
--   record_laid     one more record's line, after those of the first i
--   report_laid     the records' lines and then the P line are the whole text
--   text_length     the bytes of a report's text
--   lines_agree     where the lines of a list stand one after another, each stands at its place
use Rattle.std.proofs.Common.{◌≡◌, ℕ, zero, suc, ◌+◌, ◌*◌, ◌<◌, ◌≤◌, List, [], ◌∷◌, length, get_or, take, Option, sym, refl, ap, ◌∙◌, subst, arith, length-append}
use Rattle.std.specs.List.{flat_map}
use Rattle.lines.specs.Form.{Agrees}
use Rattle.lines.specs.Text.{line_text}
use Rattle.lines.specs.declared.line.Line.{Line}
use Rattle.lines.proofs.Bytes.{line_length}
use Rattle.lines.proofs.Pieces.{agrees_front, agrees_back}
use Rattle.writer.specs.Laid.{laid, laid_line}
use Rattle.writer.proofs.Lays.{laid_two}
use Rattle.reports.specs.Pick.{silent}
use Rattle.reports.specs.declared.record.ReportRecord.{ReportRecord}
use Rattle.texts.proofs.Laying.{laid_length}
use Rattle.texts.proofs.Writing.{laid_room, joined_length, lines_more}
use Rattle.report_texts.specs.ReportText.{record_line, record_text, pick_line, report_text, report_length}
use Rattle.report_texts.proofs.Numbers.{turns, turns_length, turn_record}

module _ (l : List ReportRecord) where
  -- the lines of all records
  abbrev pub rows : List ℕ
  rows = flat_map record_text (turns l)

  pub rows_length : length rows ≡ 17 * length l
  rows_length = joined_length record_line (turns l) ∙ ap (λ n. 17 * n) (turns_length l)

  pub record_laid : (xs out after : List ℕ) (i : ℕ) → i < length l → 17 * (i + 1) ≤ length out → out ≡ laid xs 0 (flat_map record_text (take i (turns l)))
      → after ≡ laid_line out (17 * i) (record_line (i, get_or l i silent)) → after ≡ laid xs 0 (flat_map record_text (take (i + 1) (turns l)))
  record_laid xs out after i h room inv did =
      let long = turns_length l in
      lines_more record_line xs out after 0 i (turns l) (0, silent) (omega arith) (omega arith) inv
      (did ∙ ap (laid_line out (17 * i)) (ap record_line (sym (turn_record l i h))) ∙ ap (λ n. laid_line out n (record_line (get_or (turns l) i (0, silent)))) (omega arith))

  module _ (o : Option ℕ) where
    pub text_length : length (report_text l o) ≡ report_length l
    text_length =
        let one = line_length (pick_line o) in
        let rest = rows_length in
        length-append rows (line_text (pick_line o)) ∙ omega arith

    pub report_laid : (xs out after : List ℕ) → report_length l ≤ length xs → out ≡ laid xs 0 rows → after ≡ laid_line out (17 * length l) (pick_line o)
        → after ≡ laid xs 0 (report_text l o)
    report_laid xs out after room inv did =
        let rest = rows_length in
        let long : length out ≡ length xs = ap length inv ∙ laid_length xs 0 rows in
        did
        ∙ laid_room out (17 * length l) (pick_line o) (omega arith)
        ∙ ap (λ b. laid b (17 * length l) (line_text (pick_line o))) inv
        ∙ laid_two xs 0 (17 * length l) rows (line_text (pick_line o)) (omega arith)

-- each line stands at its place
pub lines_agree : {X : Type 0} (f : X → Line) (xs : List X) (text : List ℕ) (at : ℕ) (d : X) → Agrees (flat_map (λ x. line_text (f x)) xs) text at (17 * length xs)
    → (i : ℕ) → i < length xs → Agrees (line_text (f (get_or xs i d))) text (at + 17 * i) 17
lines_agree f [] text at d a i h = absurd (omega arith)
lines_agree {X} f (x ∷ xs) text at d a zero h =
    let rest = flat_map (λ (x : X). line_text (f x)) xs in
    let here : Agrees (line_text (f x)) text at 17 = agrees_front (line_text (f x)) rest text 17 (line_length (f x)) at (at + 17) refl 17 (omega arith) (λ j b. a j (omega arith)) in
    subst (λ n. Agrees (line_text (f x)) text n 17) (omega arith) here
lines_agree {X} f (x ∷ xs) text at d a (suc i) h =
    let rest = flat_map (λ (x : X). line_text (f x)) xs in
    let others : Agrees rest text (at + 17) (17 * length xs) = agrees_back (line_text (f x)) rest text 17 (line_length (f x)) at (at + 17) refl (17 * length xs) (λ j b. a j (omega arith)) in
    subst (λ n. Agrees (line_text (f (get_or xs i d))) text n 17) (omega arith) (lines_agree f xs text (at + 17) d others i (omega arith))
