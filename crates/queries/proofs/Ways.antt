-- A query read line after line: how far it has come, and what one more line of each kind makes of that.
--
--   Outcome A B t      what is left has A where t is accepted, and B with the fault where it is refused
--   lines_law          lines one after another, each with its outcome
--   Way                the lines so far stand there, each accepted, and what they say is what is left
--   join_outcome, mark_outcome, row_outcome   the outcome of one more line
use Rattle.std.proofs.Common.{◌≡◌, ℕ, zero, suc, ◌+◌, ◌<◌, ◌≤◌, ◌⊎◌, List, [], ◌∷◌, ◌++◌, length, ℤ, Ok, Err, Result, sym, refl, ap, ◌∙◌, subst, inl, inr, arith, length-set}
use Rattle.std.proofs.lemmas.List.{length_push, get_or_past}
use Rattle.theory.specs.Graph.{Graph, joining}
use Rattle.theory.specs.declared.mark.Mark.{Mark}
use Rattle.graph.specs.Store.{join_answer}
use Rattle.graph.specs.declared.fault.StoreFault.{StoreFault}
use Rattle.catalogue.specs.Rows.{row_answer, records_after, row_record}
use Rattle.catalogue.specs.declared.catalogue.RowRecord.{RowRecord}
use Rattle.catalogue.specs.declared.fault.RowFault.{RowFault}
use Rattle.lines.specs.Read.{byte}
use Rattle.lines.specs.declared.line.Line.{Line}
use Rattle.texts.specs.ListLaw.{Here}
use Rattle.texts.specs.declared.fault.TextFault.{TextFault}
use Rattle.texts.specs.declared.fault.TextFault.TheVariants.{BadForm, Misplaced, OutOfLimits, TooFew}
use Rattle.queries.specs.QueryLaw.{Left, Due, join_due, mark_due, row_due, NothingOwed, Begun, joined_by, marked_by, counted_by, place_after, Amiss, LineRefused, row_line}
use Rattle.queries.specs.QueryRead.{Told, of_text, join_judged, join_at, mark_read, mark_at, row_judged, row_at, onward, lines_read, pair_at, row_line_at}
use Rattle.rejections.specs.declared.fault.QueryFault.{QueryFault}
use Rattle.rejections.specs.declared.fault.QueryFault.TheVariants.{Text, Join, Row}
use Rattle.queries.proofs.Effects.{graph_more, marks_more, counts_more, good_join, good_row}
use Rattle.queries.proofs.ToldLines.{pair_line, ToldLine, pair_told, row_told}

-- a letter that is due, by what it takes
abbrev DueIs : ℕ → ℕ → ℕ → ℕ → ℕ → ℕ → Type 0
DueIs n m j k r c =
    ((c ≡ 74) × (j < m)) ⊎ (((c ≡ 77) × (j ≡ m) × (k + 1 < n) × (r ≡ 0)) ⊎ ((c ≡ 82) × ((k ≡ 0) ⊎ (k + 1 ≡ n)) × (r < 64) × (j ≡ m)))

pub due_is : {n m : ℕ} {j k r c : ℕ} → Due n m j k r c → DueIs n m j k r c
due_is (join_due h) = inl (refl, h)
due_is (mark_due h) = inr (inl (refl, refl, h, refl))
due_is (row_due e h) = inr (inr (refl, e, h, refl))

only_join : {n m k r : ℕ} (j c : ℕ) → j < m → DueIs n m j k r c → c ≡ 74
only_join j c h (inl d) = d.0
only_join j c h (inr (inl d)) = absurd (omega (arith, d.1))
only_join j c h (inr (inr d)) = absurd (omega (arith, d.3))

only_mark : {n m r : ℕ} (j k c : ℕ) → j ≡ m → k + 1 < n → (k ≡ 0 → c ≡ 77) → DueIs n m j k r c → c ≡ 77
only_mark j k c e h first (inl d) = absurd (omega (arith, d.1))
only_mark j k c e h first (inr (inl d)) = d.0
only_mark j k c e h first (inr (inr (is, inl z, few, same))) = first z
only_mark j k c e h first (inr (inr (is, inr z, few, same))) = absurd (omega arith)

only_row : {n m : ℕ} (j k r c : ℕ) → j ≡ m → (k ≡ 0) ⊎ (k + 1 ≡ n) → (k ≡ 0 → r ≡ 0 → c ≡ 77 → n ≡ 1) → DueIs n m j k r c → (c ≡ 82) × (r < 64)
only_row j k r c e all unmarked (inl d) = absurd (omega (arith, d.1))
only_row j k r c e (inl z) unmarked (inr (inl (is, same, more, none))) = let one = unmarked z none is in absurd (omega arith)
only_row j k r c e (inr z) unmarked (inr (inl (is, same, more, none))) = absurd (omega arith)
only_row j k r c e all unmarked (inr (inr d)) = (d.0, d.2)

-- the letter of a line is the byte that it begins with
pub letter_is : (text : List ℕ) (p : ℕ) (l : Line) → Here text p l → l.letter ≡ byte text p
letter_is text p l here = let z : p + 0 ≡ p = omega arith in here.agrees 0 (omega arith) ∙ ap (byte text) z

abbrev pub Outcome : {S : Type 0} → (S → Type 0) → (QueryFault → S → Type 0) → Result Unit QueryFault → S → Type 0
Outcome A B (Ok u) s = A s
Outcome A B (Err f) s = B f s

module _ {S : Type 0} (step : ℕ → S → Told S) (P : ℕ → S → Type 0) (Q : QueryFault → S → Type 0) (total : ℕ)
    (so : (i : ℕ) (s : S) → i < total → P i s → Outcome (P (i + 1)) Q (step i s).told (step i s).left) where
  on_then : (i : ℕ) (r : Result Unit QueryFault) (s : S) (f : S → Told S) → Outcome (P (i + 1)) Q r s → ((t : S) → P (i + 1) t → Outcome (P total) Q (f t).told (f t).left)
      → Outcome (P total) Q (onward r s f).told (onward r s f).left
  on_then i (Ok u) s f p again = again s p
  on_then i (Err e) s f p again = p

  pub lines_law : (k i : ℕ) (s : S) → i + k ≡ total → P i s → Outcome (P total) Q (lines_read step i k s).told (lines_read step i k s).left
  unfolding lines_read
  lines_law zero i s e p = let is : i ≡ total = omega arith in subst (λ j. P j s) is p
  lines_law (suc k) i s e p =
      on_then i (step i s).told (step i s).left (λ t. lines_read step (i + 1) k t) (so i s (omega arith) p) (λ t q. lines_law k (i + 1) t (omega arith) q)

module _ (text : List ℕ) (at : ℕ) (l : List Mark) (rows : List RowRecord) (n m : ℕ) where
  pub record Way (js : List (ℕ × ℕ)) (ms : List Mark) (rs : List (ℕ × ℤ)) (g : Graph) (l' : List Mark) (rows' : List RowRecord) : Type 0 where
    pub begun : Begun text at (length l) n m js ms rs
    pub left : Left n js ms rs l rows g l' rows'
    pub long : 64 ≤ length rows'

  -- a line after those that were accepted is amiss
  pub amiss_here : {js : List (ℕ × ℕ)} {ms : List Mark} {rs : List (ℕ × ℤ)} {g : Graph} {l' : List Mark} {rows' : List RowRecord} (f : QueryFault)
      → Way js ms rs g l' rows' → Amiss text (place_after at js ms rs) n m js (length ms) (length rs) f → LineRefused text at l rows f g l' rows'
  amiss_here {js} {ms} {rs} f way a = record { tables = n; joins = m; js = js; ms = ms; rs = rs; begun = way.begun; left = way.left; amiss = a }

  -- ---- a J line

  abbrev pub JoinsWay : ℕ → Graph → Type 0
  JoinsWay i g = (js : List (ℕ × ℕ)) × (length js ≡ i) × Way js [] [] g l rows

  abbrev pub JoinsOff : QueryFault → Graph → Type 0
  JoinsOff f g = LineRefused text at l rows f g l rows

  module _ (js : List (ℕ × ℕ)) (g : Graph) (way : Way js [] [] g l rows) (h : length js < m) where
    join_answered : (e : ℕ × ℕ) → Here text (place_after at js [] []) (pair_line 74 e) → (r : Result Unit StoreFault) → join_answer g 2016 e.0 e.1 ≡ r
        → let t = join_judged (place_after at js [] []) r (joining g e.0 e.1) g in Outcome (JoinsWay (length js + 1)) JoinsOff t.told t.left
    join_answered e here (Ok u) q =
        let graph_is = way.left.graph_is in
        let good = good_join n js e.0 e.1 (subst (λ x. join_answer x 2016 e.0 e.1 ≡ Ok tt) graph_is q) in (
          js ++ e ∷ [],
          length_push js e,
          record {
            begun = joined_by e way.begun (join_due h) here good;
            left = record { graph_is = graph_more n js e g graph_is; marks_are = way.left.marks_are; counts_are = way.left.counts_are };
            long = way.long;
          },
        )
    join_answered e here (Err f) q =
        amiss_here (Join (place_after at js [] []) f) way
        (refl, e, here, join_due h, subst (λ x. join_answer x 2016 e.0 e.1 ≡ Err f) way.left.graph_is q)

    join_line_told : (r : Result (ℕ × ℕ) TextFault) → ToldLine text (place_after at js [] []) 74 (pair_line 74) r
        → let t = of_text r g (λ e. join_judged (place_after at js [] []) (join_answer g 2016 e.0 e.1) (joining g e.0 e.1) g) in Outcome (JoinsWay (length js + 1)) JoinsOff t.told t.left
    join_line_told (Ok e) here = join_answered e here (join_answer g 2016 e.0 e.1) refl
    join_line_told (Err (BadForm q)) off = amiss_here (Text (BadForm q)) way (off, λ _ none. omega (arith, none.0))
    join_line_told (Err (Misplaced q)) off =
        amiss_here (Text (Misplaced q)) way (off.0, off.1, off.2, λ d. off.3 (only_join (length js) off.1.letter h (due_is d)))
    join_line_told (Err (OutOfLimits q)) off = absurd off
    join_line_told (Err (TooFew q)) off = absurd off

    pub join_outcome : (p : ℕ) → p ≡ place_after at js [] [] → Outcome (JoinsWay (length js + 1)) JoinsOff (join_at 2016 text p g).told (join_at 2016 text p g).left
    join_outcome p is =
        subst (λ q. Outcome (JoinsWay (length js + 1)) JoinsOff (join_at 2016 text q g).told (join_at 2016 text q g).left) (sym is)
        (join_line_told (pair_at text (place_after at js [] []) 74) (pair_told text (place_after at js [] []) 74 refl))

  -- ---- an M line

  module _ (js : List (ℕ × ℕ)) (g : Graph) (all : length js ≡ m) where
    abbrev pub MarksWay : ℕ → List Mark → Type 0
    MarksWay i l' = (ms : List Mark) × (length ms ≡ i) × Way js ms [] g l' rows

    abbrev pub MarksOff : QueryFault → List Mark → Type 0
    MarksOff f l' = LineRefused text at l rows f g l' rows

    module _ (ms l' : List Mark) (way : Way js ms [] g l' rows) (h : length ms + 1 < n) (enough : n ≤ length l + 1)
        (first : length ms ≡ 0 → byte text (place_after at js ms []) ≡ 77) where
      mark_line_told : (r : Result (ℕ × ℕ) TextFault) → ToldLine text (place_after at js ms []) 77 (pair_line 77) r
          → let t = mark_read (length ms) l' r in Outcome (MarksWay (length ms + 1)) MarksOff t.told t.left
      mark_line_told (Ok e) here =
          let k : Mark = record { v = e.0; w = e.1 } in (
            ms ++ k ∷ [],
            length_push ms k,
            record {
              begun = marked_by k way.begun (subst (λ j. Due n m j (length ms) 0 77) (sym all) (mark_due h)) here;
              left = record { graph_is = way.left.graph_is; marks_are = marks_more l l' ms k (omega arith) way.left.marks_are; counts_are = way.left.counts_are };
              long = way.long;
            },
          )
      mark_line_told (Err (BadForm q)) off = amiss_here (Text (BadForm q)) way (off, owed)
        where
          some : place_after at js ms [] ≡ length text → length ms ≡ 0 → ⊥
          some e z =
              let past : byte text (place_after at js ms []) ≡ 0 = get_or_past text (place_after at js ms []) 0 (omega arith) in
              let letter = first z in omega arith

          owed : place_after at js ms [] ≡ length text → NothingOwed n m (length js) (length ms) → ⊥
          owed e (j, inl z) = some e z
          owed e (j, inr z) = omega arith
      mark_line_told (Err (Misplaced q)) off =
          amiss_here (Text (Misplaced q)) way
          (off.0, off.1, off.2, λ d. off.3 (only_mark (length js) (length ms) off.1.letter all h (λ z. letter_is text (place_after at js ms []) off.1 off.2 ∙ first z) (due_is d)))
      mark_line_told (Err (OutOfLimits q)) off = absurd off
      mark_line_told (Err (TooFew q)) off = absurd off

      pub mark_outcome : (p : ℕ) → p ≡ place_after at js ms [] → Outcome (MarksWay (length ms + 1)) MarksOff (mark_at text p (length ms) l').told (mark_at text p (length ms) l').left
      mark_outcome p is =
          subst (λ q. Outcome (MarksWay (length ms + 1)) MarksOff (mark_at text q (length ms) l').told (mark_at text q (length ms) l').left) (sym is)
          (mark_line_told (pair_at text (place_after at js ms []) 77) (pair_told text (place_after at js ms []) 77 refl))

    -- ---- an R line

    module _ (ms l' : List Mark) (few : n ≤ 64) (done : (length ms ≡ 0) ⊎ (length ms + 1 ≡ n))
        (unmarked : length ms ≡ 0 → byte text (place_after at js ms []) ≡ 77 → n ≡ 1) where
      abbrev pub RowsWay : ℕ → List RowRecord → Type 0
      RowsWay i rows' = (rs : List (ℕ × ℤ)) × (length rs ≡ i) × Way js ms rs g l' rows'

      abbrev pub RowsOff : QueryFault → List RowRecord → Type 0
      RowsOff f rows' = LineRefused text at l rows f g l' rows'

      module _ (rs : List (ℕ × ℤ)) (rows' : List RowRecord) (way : Way js ms rs g l' rows') where
        -- no line but an R line, and not past the 64th
        pub rows_only : (ln : Line) → Here text (place_after at js ms rs) ln → Due n m (length js) (length ms) (length rs) ln.letter → (ln.letter ≡ 82) × (length rs < 64)
        rows_only ln here d =
            only_row (length js) (length ms) (length rs) ln.letter all done
            (λ z none is.
            let same : place_after at js ms rs ≡ place_after at js ms [] = omega arith in
            unmarked z (ap (byte text) (sym same) ∙ sym (letter_is text (place_after at js ms rs) ln here) ∙ is))
            (due_is d)

        module _ (h : length rs < 64) (more : place_after at js ms rs < length text) where
          due_here : Due n m (length js) (length ms) (length rs) 82
          due_here = subst (λ j. Due n m j (length ms) (length rs) 82) (sym all) (row_due done h)

          row_answered : (e : ℕ × ℤ) → Here text (place_after at js ms rs) (row_line e) → (r : Result Unit RowFault) → row_answer n e.0 e.1 ≡ r
              → let t = row_judged (place_after at js ms rs) r (records_after (Ok tt) rows' e.0 e.1) rows' in Outcome (RowsWay (length rs + 1)) RowsOff t.told t.left
          row_answered e here (Ok u) q =
              let good = good_row n e.0 e.1 q in
              let low : e.0 < 64 = omega (arith, good.table) in
              let wide = way.long in (
                rs ++ e ∷ [],
                length_push rs e,
                record {
                  begun = counted_by e way.begun due_here here good;
                  left = record { graph_is = way.left.graph_is; marks_are = way.left.marks_are; counts_are = counts_more rows rows' rs e low way.long way.left.counts_are };
                  long = subst (λ k. 64 ≤ k) (sym (length-set rows' e.0 (row_record e.1))) way.long;
                },
              )
          row_answered e here (Err f) q = amiss_here (Row (place_after at js ms rs) f) way (refl, e, here, due_here, q)

          row_line_told : (r : Result (ℕ × ℤ) TextFault) → ToldLine text (place_after at js ms rs) 82 row_line r
              → let t = of_text r rows' (λ e. row_judged (place_after at js ms rs) (row_answer n e.0 e.1) (records_after (Ok tt) rows' e.0 e.1) rows') in
              Outcome (RowsWay (length rs + 1)) RowsOff t.told t.left
          row_line_told (Ok e) here = row_answered e here (row_answer n e.0 e.1) refl
          row_line_told (Err (BadForm q)) off = amiss_here (Text (BadForm q)) way (off, λ e none. omega arith)
          row_line_told (Err (Misplaced q)) off = amiss_here (Text (Misplaced q)) way (off.0, off.1, off.2, λ d. off.3 (rows_only off.1 off.2 d).0)
          row_line_told (Err (OutOfLimits q)) off = absurd off
          row_line_told (Err (TooFew q)) off = absurd off

          pub row_outcome : (p : ℕ) → p ≡ place_after at js ms rs → Outcome (RowsWay (length rs + 1)) RowsOff (row_at n text p rows').told (row_at n text p rows').left
          row_outcome p is =
              subst (λ q. Outcome (RowsWay (length rs + 1)) RowsOff (row_at n text q rows').told (row_at n text q rows').left) (sym is)
              (row_line_told (row_line_at text (place_after at js ms rs)) (row_told text (place_after at js ms rs)))
