-- A query text read line by line: where it ends at a refusal, and where it is accepted.
--
--   JoinsRead, MarksRead, RowsRead     what was read, stage after stage, said of the text as it was lent
--   joins_said, marks_said, rows_said  that the calls say so, each of the reader and of the graph that it was lent
use Rattle.std.proofs.Common.{◌≡◌, ℕ, ◌+◌, ◌-◌, ◌*◌, ◌≤◌, Bool, true, false, cond, eqb, List, ◌++◌, length, take, drop, Ok, Err, Result, sym, ap, ap₂, ◌∙◌, arith}
use Rattle.std.proofs.lemmas.List.{length-take-le}
use Rattle.theory.specs.Graph.{Graph, no_joins, clamped}
use Rattle.theory.specs.declared.mark.Mark.{Mark}
use Rattle.theory.proofs.Sizes.{clamped_same}
use Rattle.catalogue.specs.declared.catalogue.RowRecord.{RowRecord}
use Rattle.lines.specs.Read.{byte}
use Rattle.texts.specs.Reader.{past, past_lines}
use Rattle.texts.specs.declared.reader.Reader.{Reader}
use Rattle.texts.specs.declared.fault.TextFault.{TextFault}
use Rattle.queries.specs.QueryRead.{Told, head_at, joins_read, marks_read, rows_read, due_marks, due_rows, rows_ended, QueryTold, go_on, query_head, read_on_rows, read_on_marks, read_on_joins, carried, query_read}
use Rattle.rejections.specs.declared.fault.QueryFault.{QueryFault}
use Rattle.rejections.specs.declared.fault.QueryFault.TheVariants.{Text}
use Rattle.queries.specs.declared.query.Head.{Head}
use Rattle.queries.specs.declared.query.QueryHead.{QueryHead}
use Rattle.queries.proofs.Steps.{joins_tables, marks_front}

abbrev pub told_of : Result QueryHead QueryFault → Graph → List Mark → List RowRecord → QueryTold
told_of r m l rows = record { told = r; graph = m; marks = l; rows = rows }

-- no more marks are owed than there are records for
few_by : (b : Bool) (n room : ℕ) → n ≤ room + 1 → cond b (n - 1) 0 ≤ room
few_by true n room h = omega arith
few_by false n room h = omega arith

-- h is the head, g the graph after the J lines and t what is told of them
pub record JoinsRead (text : List ℕ) (at : ℕ) (l : List Mark) (h : Head) (g : Graph) (t : Result Unit QueryFault) : Type 0 where
  pub headed : head_at text at (length l) ≡ Ok h
  pub enough : h.tables ≤ length l + 1
  pub joined : joins_read 2016 text (at + 17) h.joins (no_joins h.tables) ≡ record { told = t; left = g }
  pub tables : g.tables ≡ h.tables

-- from p on, k marks are owed; ms is what is left of the records that they fill
pub record MarksRead (text : List ℕ) (p : ℕ) (l : List Mark) (h : Head) (k : ℕ) (ms : List Mark) (t : Result Unit QueryFault) : Type 0 where
  pub due : k ≡ due_marks h.tables text p
  pub marked : marks_read text p (length (take k l)) (take k l) ≡ record { told = t; left = ms }

-- from p on, rs is what is left of the catalogue's records
pub record RowsRead (text : List ℕ) (p : ℕ) (rows : List RowRecord) (h : Head) (rs : List RowRecord) (t : Result ℕ QueryFault) : Type 0 where
  pub told : t ≡ rows_ended h.tables text p rows
  pub left : rs ≡ (rows_read h.tables text p (due_rows text p) rows).left

-- the head's answer is a, and the reader stands at r₁ after it; the graph is g₀ before the J lines
pub joins_said : {r r₁ : Reader} {l : List Mark} {h : Head} {g₀ g : Graph} {t : Result Unit QueryFault} {a : Result Head TextFault}
    → a ≡ head_at r.text.now r.at (length l) → a ≡ Ok h → (1 ≤ h.tables) × (h.tables ≤ 64) × (h.tables ≤ length l + 1) → r₁ ≡ past r
    → g₀ ≡ no_joins (clamped h.tables) → joins_read 2016 r₁.text.now r₁.at h.joins g₀ ≡ record { told = t; left = g } → JoinsRead r.text.now r.at l h g t
joins_said {r} {r₁} {l} {h} {g₀} {g} {t} answer good within onward new did =
    let begun = new ∙ ap no_joins (clamped_same h.tables within.0 within.1) in
    let joined = sym (ap₂ (λ (r : Reader) m. joins_read 2016 r.text.now r.at h.joins m) onward begun) ∙ did in
    record {
      headed = sym answer ∙ good;
      enough = within.2;
      joined = joined;
      tables = joins_tables 2016 r.text.now (r.at + 17) h.joins (no_joins h.tables) g t joined;
    }

-- no more marks are owed than there are records
pub few_due : {text : List ℕ} {at : ℕ} {l : List Mark} {h : Head} {g : Graph} {t : Result Unit QueryFault} → JoinsRead text at l h g t
    → (text' : List ℕ) (p k : ℕ) → k ≡ due_marks g.tables text' p → k ≤ length l
few_due {text} {at} {l} {h} {g} j text' p k due =
    let same : g.tables ≡ h.tables = j.tables in
    let enough : h.tables ≤ length l + 1 = j.enough in
    omega (arith, due, few_by (eqb (byte text' p) 77) g.tables (length l) (omega arith))

-- the reader stands at r₂ after the J lines
pub marks_said : {r r₁ r₂ : Reader} {l : List Mark} {h : Head} {g : Graph} {t t₂ : Result Unit QueryFault} {k : ℕ} {ms : List Mark}
    → JoinsRead r.text.now r.at l h g t → r₁ ≡ past r → r₂ ≡ past_lines h.joins r₁ → k ≡ due_marks g.tables r₂.text.now r₂.at
    → marks_read r₂.text.now r₂.at (length (take k l)) (take k l) ≡ record { told = t₂; left = ms }
    → MarksRead r.text.now (r.at + 17 + 17 * h.joins) l h k ms t₂
marks_said {r} {r₁} {r₂} {l} {h} {g} {t} {t₂} {k} j one on due did =
    let there = on ∙ ap (past_lines h.joins) one in
    record {
      due = due ∙ ap₂ (λ n (r : Reader). due_marks n r.text.now r.at) j.tables there;
      marked = sym (ap (λ (r : Reader). marks_read r.text.now r.at (length (take k l)) (take k l)) there) ∙ did;
    }

-- and at r₃ after the M lines
pub rows_said : {r r₁ r₂ r₃ : Reader} {l : List Mark} {rows rs : List RowRecord} {h : Head} {g : Graph} {t : Result Unit QueryFault} {t₃ : Result ℕ QueryFault}
    → JoinsRead r.text.now r.at l h g t → r₁ ≡ past r → r₂ ≡ past_lines h.joins r₁ → (k : ℕ) → r₃ ≡ past_lines k r₂
    → t₃ ≡ rows_ended g.tables r₃.text.now r₃.at rows → rs ≡ (rows_read g.tables r₃.text.now r₃.at (due_rows r₃.text.now r₃.at) rows).left
    → RowsRead r.text.now (r.at + 17 + 17 * h.joins + 17 * k) rows h rs t₃
rows_said {r} {r₁} {r₂} {r₃} {l} {rows} {rs} {h} j one on k last told left =
    let there = last ∙ ap (past_lines k) (on ∙ ap (past_lines h.joins) one) in
    record {
      told = told ∙ ap₂ (λ n (r : Reader). rows_ended n r.text.now r.at rows) j.tables there;
      left = left ∙ ap₂ (λ n (r : Reader). (rows_read n r.text.now r.at (due_rows r.text.now r.at) rows).left) j.tables there;
    }

module _ (text : List ℕ) (at : ℕ) (l : List Mark) (rows : List RowRecord) where
  pub head_off : (e : TextFault) → head_at text at (length l) ≡ Err e → query_read text at l rows ≡ told_of (Err (Text e)) (no_joins 1) l rows
  unfolding query_read
  head_off e bad = ap (λ r. go_on (carried r) (λ h. read_on_joins text (at + 17) h l rows) (no_joins 1) l rows) bad

  -- the head is accepted; g' is the graph after the joins
  module _ {h : Head} {g' : Graph} {r₁ : Result Unit QueryFault} (j : JoinsRead text at l h g' r₁) where
    by_joins : query_read text at l rows ≡ go_on r₁ (λ _. read_on_marks text (at + 17 + 17 * h.joins) h g' l rows) g' l rows
    unfolding query_read read_on_joins
    by_joins =
        ap (λ r. go_on (carried r) (λ h. read_on_joins text (at + 17) h l rows) (no_joins 1) l rows) j.headed
        ∙ ap (λ (i : Told Graph). go_on i.told (λ _. read_on_marks text (at + 17 + 17 * h.joins) h i.left l rows) i.left l rows) j.joined

    pub joins_off : (f : QueryFault) → r₁ ≡ Err f → query_read text at l rows ≡ told_of (Err f) g' l rows
    joins_off f bad = by_joins ∙ ap (λ r. go_on r (λ _. read_on_marks text (at + 17 + 17 * h.joins) h g' l rows) g' l rows) bad

    -- and so are the joins; ms is what is left of the k records that the marks fill
    module _ (ok₁ : r₁ ≡ Ok tt) {k : ℕ} {ms : List Mark} {r₂ : Result Unit QueryFault} (m : MarksRead text (at + 17 + 17 * h.joins) l h k ms r₂) where
      few : k ≤ length l
      few = omega (arith, m.due, few_by (eqb (byte text (at + 17 + 17 * h.joins)) 77) h.tables (length l) j.enough)

      by_marks : query_read text at l rows ≡ go_on r₂ (λ _. read_on_rows text (at + 17 + 17 * h.joins + 17 * k) h k g' (ms ++ drop k l) rows) g' (ms ++ drop k l) rows
      unfolding read_on_marks
      by_marks =
          let p = at + 17 + 17 * h.joins in
          by_joins ∙ ap (λ r. go_on r (λ _. read_on_marks text p h g' l rows) g' l rows) ok₁
          ∙ ap (λ k. go_on (marks_read text p k l).told (λ _. read_on_rows text (p + 17 * k) h k g' (marks_read text p k l).left rows) g' (marks_read text p k l).left rows) (sym m.due)
          ∙ ap (λ (s : Told (List Mark)). go_on s.told (λ _. read_on_rows text (p + 17 * k) h k g' s.left rows) g' s.left rows)
          (marks_front text p k l (record { told = r₂; left = ms }) few m.marked)

      pub marks_off : (f : QueryFault) → r₂ ≡ Err f → query_read text at l rows ≡ told_of (Err f) g' (ms ++ drop k l) rows
      marks_off f bad = by_marks ∙ ap (λ r. go_on r (λ _. read_on_rows text (at + 17 + 17 * h.joins + 17 * k) h k g' (ms ++ drop k l) rows) g' (ms ++ drop k l) rows) bad

      -- and the marks
      module _ (ok₂ : r₂ ≡ Ok tt) {rs : List RowRecord} {r₃ : Result ℕ QueryFault}
          (c : RowsRead text (at + 17 + 17 * h.joins + 17 * length (take k l)) rows h rs r₃) where
        by_rows : query_read text at l rows ≡ go_on r₃ (λ end. told_of (Ok (query_head h k end)) g' (ms ++ drop k l) rs) g' (ms ++ drop k l) rs
        unfolding read_on_rows
        by_rows =
            let all = ms ++ drop k l in
            let p = at + 17 + 17 * h.joins + 17 * length (take k l) in
            let many = length-take-le k l few in
            let there : at + 17 + 17 * h.joins + 17 * k ≡ p = omega arith in
            by_marks ∙ ap (λ r. go_on r (λ _. read_on_rows text (at + 17 + 17 * h.joins + 17 * k) h k g' all rows) g' all rows) ok₂
            ∙ ap (λ q. read_on_rows text q h k g' all rows) there
            ∙ ap (λ r. let s = (rows_read h.tables text p (due_rows text p) rows).left in go_on r (λ end. told_of (Ok (query_head h k end)) g' all s) g' all s) (sym c.told)
            ∙ ap (λ s. go_on r₃ (λ end. told_of (Ok (query_head h k end)) g' all s) g' all s) (sym c.left)

        pub rows_off : (f : QueryFault) → r₃ ≡ Err f → query_read text at l rows ≡ told_of (Err f) g' (ms ++ drop k l) rs
        rows_off f bad = by_rows ∙ ap (λ r. go_on r (λ end. told_of (Ok (query_head h k end)) g' (ms ++ drop k l) rs) g' (ms ++ drop k l) rs) bad

        pub rows_on : (end : ℕ) → r₃ ≡ Ok end → query_read text at l rows ≡ told_of (Ok (query_head h k end)) g' (ms ++ drop k l) rs
        rows_on end good = by_rows ∙ ap (λ r. go_on r (λ end. told_of (Ok (query_head h k end)) g' (ms ++ drop k l) rs) g' (ms ++ drop k l) rs) good
