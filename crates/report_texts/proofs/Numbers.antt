-- The numbers of a report's lines: the first that is too large, or none.
--
--   turn_record             the record at a turn, with its turn
--   over_soon               the first record whose line has a number that is too large is at most the 100,000th past the first
--   none_few                where there is none, there are at most 100,000 records
--   checked_none            where all numbers are small enough, those of the records are, and the picked table is
--   checked_few             there are at most 100,000 records then
--   record_fits, pick_fits  numbers that are small enough fit the fields of their line
--   record_not, pick_not    one that is too large doesn't
--   fits_none, fits_before, first_not   so do those of all records where none has one, those of the records before the first that has
--                           one, and not those of the first
use Rattle.std.proofs.Common.{◌≡◌, ℕ, ◌*◌, ◌<◌, ◌≤◌, Bool, true, false, cond, ltb, List, length, get_or, Some, None, Option, Ok, Err, sym, refl, ap, ◌∙◌, ⊎_elim, arith}
use Rattle.std.specs.List.{enumerate_from, position, position_or_len}
use Rattle.std.proofs.lemmas.Bool.{cases_lt, both_ways, ltb-true, ltb-false, or_parts, or_cases}
use Rattle.std.proofs.lemmas.Option.{none-some}
use Rattle.std.proofs.lemmas.List.FromFn.{length-enumerate_from, get_or-enumerate_from}
use Rattle.std.proofs.lemmas.List.Quantifiers.{position-Some}
use Rattle.std.proofs.lemmas.List.Sums.{fails_before_first}
use Rattle.lines.specs.Text.{Fits}
use Rattle.reports.specs.Pick.{silent}
use Rattle.reports.specs.declared.record.ReportRecord.{ReportRecord}
use Rattle.texts.specs.ListWrite.{over}
use Rattle.texts.specs.declared.fault.TextFault.TheVariants.{OutOfLimits}
use Rattle.texts.proofs.Lists.{refused, unless_so}
use Rattle.report_texts.specs.ReportText.{record_line, pick_line, record_over, pick_over, over_told, numbers_checked}

-- where no element passes, none does at any place
position_none : {X : Type 0} (p : X → Bool) (xs : List X) → position p xs ≡ None → (k : ℕ) (d : X) → k < length xs → p (get_or xs k d) ≡ false
position_none p xs e k d h = by (ltb (position_or_len p xs) (length xs)) refl
  where
    by : (b : Bool) → ltb (position_or_len p xs) (length xs) ≡ b → p (get_or xs k d) ≡ false
    by true q = absurd (none-some (position_or_len p xs) (sym e ∙ ap (λ b. cond b (Some (position_or_len p xs)) None) q))
    by false q = let past : length xs ≤ position_or_len p xs = ltb-false (position_or_len p xs) (length xs) q in fails_before_first p xs k d (omega arith)

module _ (l : List ReportRecord) where
  abbrev pub turns : List (ℕ × ReportRecord)
  turns = enumerate_from 0 l

  pub turns_length : length turns ≡ length l
  turns_length = length-enumerate_from 0 l

  pub turn_record : (i : ℕ) → i < length l → get_or turns i (0, silent) ≡ (i, get_or l i silent)
  turn_record i h = get_or-enumerate_from 0 l i (0, silent) h ∙ ap (λ n. (n, get_or l i silent)) (omega arith)

  -- the line of table 100,000 has one
  far_over : 100000 < length l → record_over (get_or turns 100000 (0, silent)) ≡ true
  far_over h = ap record_over (turn_record 100000 h)

  pub over_soon : (i : ℕ) → position record_over turns ≡ Some i → i ≤ 100000
  over_soon i e =
      let p = position-Some record_over turns i (0, silent) e in
      let long = turns_length in
      let inside : i < length turns = p.0 in
      ⊎_elim
      (λ (h : 100000 < i). absurd (both_ways (record_over (get_or turns 100000 (0, silent))) (p.2 100000 h) (far_over (omega arith))))
      (λ (h : i ≤ 100000). h)
      (cases_lt 100000 i)

  pub none_few : position record_over turns ≡ None → length l ≤ 100000
  none_few e =
      ⊎_elim
      (λ (h : 100000 < length l). absurd (both_ways (record_over (get_or turns 100000 (0, silent))) (position_none record_over turns e 100000 (0, silent) (let long = turns_length in omega arith)) (far_over h)))
      (λ (h : length l ≤ 100000). h)
      (cases_lt 100000 (length l))

  told_none : (o : Option ℕ) (w : Option ℕ) → over_told w (cond (pick_over o) (Err (OutOfLimits (17 * length l))) (Ok tt)) ≡ Ok tt → (w ≡ None) × (pick_over o ≡ false)
  told_none o (Some i) q = refused (OutOfLimits (17 * i)) tt q
  told_none o None q = (refl, (unless_so (pick_over o) (Ok tt) (OutOfLimits (17 * length l)) tt q).0)

  pub checked_none : (o : Option ℕ) → numbers_checked l o ≡ Ok tt → (position record_over turns ≡ None) × (pick_over o ≡ false)
  checked_none o q = told_none o (position record_over turns) q

  pub checked_few : (o : Option ℕ) → numbers_checked l o ≡ Ok tt → length l ≤ 100000
  checked_few o q = none_few (checked_none o q).0

-- ---- what fits

-- what drives is told by 0 or 1
sign_fits : (b : Bool) → cond b 1 0 ≤ 99999
sign_fits true = omega arith
sign_fits false = omega arith

pub record_fits : (p : ℕ × ReportRecord) → record_over p ≡ false → Fits (record_line p).fields
record_fits p e =
    let parts = or_parts (over p.0) (over p.1.cross) e in
    (ltb-false 99999 p.0 parts.0, ltb-false 99999 p.1.cross parts.1, sign_fits p.1.drives)

pub record_not : (p : ℕ × ReportRecord) → record_over p ≡ true → Fits (record_line p).fields → ⊥
record_not p e f =
    let table = f.0 in
    let cross = f.1 in
    ⊎_elim
    (λ (h : over p.0 ≡ true). let more = ltb-true 99999 p.0 h in absurd (omega arith))
    (λ (h : over p.1.cross ≡ true). let more = ltb-true 99999 p.1.cross h in absurd (omega arith))
    (or_cases (over p.0) (over p.1.cross) e)

pub pick_fits : (o : Option ℕ) → pick_over o ≡ false → Fits (pick_line o).fields
pick_fits None e = tt
pick_fits (Some v) e = ltb-false 99999 v e

pub pick_not : (o : Option ℕ) → pick_over o ≡ true → Fits (pick_line o).fields → ⊥
pick_not None e f = absurd (both_ways false refl e)
pick_not (Some v) e f = let more = ltb-true 99999 v e in absurd (omega arith)

-- where no record's line has a number that is too large
pub fits_none : (l : List ReportRecord) → position record_over (enumerate_from 0 l) ≡ None → (i : ℕ) → i < length l → Fits (record_line (i, get_or l i silent)).fields
fits_none l e i h =
    record_fits (i, get_or l i silent)
    (sym (ap record_over (turn_record l i h)) ∙ position_none record_over (enumerate_from 0 l) e i (0, silent) (let long = turns_length l in omega arith))

-- nor one before the first that has
pub fits_before : (l : List ReportRecord) (t : ℕ) → position record_over (enumerate_from 0 l) ≡ Some t → (i : ℕ) → i < t → Fits (record_line (i, get_or l i silent)).fields
fits_before l t e i h =
    let p = position-Some record_over (enumerate_from 0 l) t (0, silent) e in
    let long = turns_length l in
    let inside : t < length (enumerate_from 0 l) = p.0 in
    record_fits (i, get_or l i silent) (sym (ap record_over (turn_record l i (omega arith))) ∙ p.2 i h)

-- the first that has
pub first_not : (l : List ReportRecord) (t : ℕ) → position record_over (enumerate_from 0 l) ≡ Some t → (t < length l) × (Fits (record_line (t, get_or l t silent)).fields → ⊥)
first_not l t e =
    let p = position-Some record_over (enumerate_from 0 l) t (0, silent) e in
    let long = turns_length l in
    let inside : t < length (enumerate_from 0 l) = p.0 in
    (omega arith, record_not (t, get_or l t silent) (sym (ap record_over (turn_record l t (omega arith))) ∙ p.1))
