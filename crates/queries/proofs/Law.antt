-- The two laws of a query text, for whatever it is.
--
--   Law q       both laws of the outcome q
--   query_law   they hold of what the definition tells and leaves
use Rattle.std.proofs.Common.{◌≡◌, ℕ, ◌+◌, ◌-◌, ◌*◌, ◌/◌, ◌<◌, ◌≤◌, min, Bool, true, false, cond, eqb, ◌⊎◌, List, [], length, ℤ, Ok, Err, Result, sym, refl, ap, ◌∙◌, subst, inl, inr, arith}
use Rattle.std.proofs.lemmas.Bool.{eqb-true, eqb-false}
use Rattle.std.proofs.lemmas.Bool.Decides.{nat_tests}
use Rattle.theory.specs.Graph.{Graph, no_joins}
use Rattle.theory.specs.declared.mark.Mark.{Mark}
use Rattle.catalogue.specs.declared.catalogue.RowRecord.{RowRecord}
use Rattle.lines.specs.Form.{Longest}
use Rattle.lines.specs.Read.{byte}
use Rattle.texts.specs.Fault.{next}
use Rattle.texts.specs.ListLaw.{Here, Follows}
use Rattle.texts.specs.ListRead.{end_at}
use Rattle.texts.specs.declared.fault.TextFault.{TextFault}
use Rattle.texts.specs.declared.fault.TextFault.TheVariants.{BadForm, Misplaced, OutOfLimits, TooFew}
use Rattle.texts.proofs.Refused.{follows_end}
use Rattle.queries.specs.QueryLaw.{GoodHead, headed, place_after, LineRefused, QueryAccepted, QueryRefused}
use Rattle.queries.specs.QueryRead.{outside_limits, head_at, joins_read, marks_read, rows_read, due_marks, due_rows, join_step, mark_step, row_step, ended, rows_ended, QueryTold, go_on, query_head, read_on_rows, read_on_marks, read_on_joins, carried, query_read}
use Rattle.rejections.specs.declared.fault.QueryFault.{QueryFault}
use Rattle.rejections.specs.declared.fault.QueryFault.TheVariants.{Text}
use Rattle.queries.specs.declared.query.Head.{Head}
use Rattle.queries.proofs.Told.{told_of}
use Rattle.queries.proofs.ToldLines.{HeadTold, head_told}
use Rattle.queries.proofs.Ways.{Outcome, lines_law, Way, amiss_here, JoinsWay, JoinsOff, join_outcome, MarksWay, MarksOff, mark_outcome, RowsWay, RowsOff, rows_only, row_outcome}
use Rattle.texts.proofs.Near.{here_inside}
use Rattle.queries.proofs.Whole.{begun_inside, begun_whole}

inside_limits : (n m : ℕ) → outside_limits n m ≡ false → (1 ≤ n) × (n ≤ 64)
inside_limits n m e = grind (arith, nat_tests)

-- the R lines that there is room for: each begins within the text, and only at 64 of them may something follow
rows_short : (len p i : ℕ) → i < min ((len - p + 16) / 17) 64 → p ≤ len → p + 17 * i < len
rows_short len p i h k = omega arith

rows_low : (len p i : ℕ) → i < min ((len - p + 16) / 17) 64 → i < 64
rows_low len p i h = omega arith

rows_all : (len p r : ℕ) → r ≡ min ((len - p + 16) / 17) 64 → r < 64 → len ≤ p + 17 * r
rows_all len p r e h = omega arith

rows_few : (len p r : ℕ) → r ≡ min ((len - p + 16) / 17) 64 → r ≤ 64
rows_few len p r e = omega arith

-- the M lines that are owed: where there are any, the first is begun, and they are all
some_due : (n i : ℕ) (b : ℕ) → i < cond (eqb b 77) (n - 1) 0 → (b ≡ 77) × (i + 1 < n)
some_due n i b h = by (eqb b 77) refl h
  where
    by : (c : Bool) → eqb b 77 ≡ c → i < cond c (n - 1) 0 → (b ≡ 77) × (i + 1 < n)
    by true e k = (eqb-true b 77 e, omega arith)
    by false e k = absurd (omega arith)

all_due : (n k b : ℕ) → 1 ≤ n → k ≡ cond (eqb b 77) (n - 1) 0 → (k ≡ 0) ⊎ (k + 1 ≡ n)
all_due n k b h e = by (eqb b 77) e
  where
    by : (c : Bool) → k ≡ cond c (n - 1) 0 → (k ≡ 0) ⊎ (k + 1 ≡ n)
    by true q = inr (omega arith)
    by false q = inl q

none_due : (n k b : ℕ) → 1 ≤ n → k ≡ cond (eqb b 77) (n - 1) 0 → k ≡ 0 → b ≡ 77 → n ≡ 1
none_due n k b h e z is = by (eqb b 77) refl e
  where
    by : (c : Bool) → eqb b 77 ≡ c → k ≡ cond c (n - 1) 0 → n ≡ 1
    by true d q = omega arith
    by false d q = absurd (eqb-false b 77 d is)

module _ (text : List ℕ) (at : ℕ) (l : List Mark) (rows : List RowRecord) (wide : 64 ≤ length rows) where
  abbrev pub Law : QueryTold → Type 0
  Law q = QueryAccepted text at l rows q.told q.graph q.marks q.rows × QueryRefused text at l rows q.told q.graph q.marks q.rows

  refused_law : (f : QueryFault) (g : Graph) (l' : List Mark) (rows' : List RowRecord) → LineRefused text at l rows f g l' rows' → Law (told_of (Err f) g l' rows')
  refused_law f g l' rows' off = (tt, inr off)

  module _ (h : Head) (good : GoodHead text at (length l) h.tables h.joins) where
    abbrev n : ℕ
    n = h.tables

    abbrev m : ℕ
    m = h.joins

    limits : (1 ≤ h.tables) × (h.tables ≤ 64)
    limits = inside_limits h.tables h.joins good.inside

    -- ---- the R lines

    module _ (js : List (ℕ × ℕ)) (g : Graph) (all : length js ≡ m) (ms l' : List Mark) (done : (length ms ≡ 0) ⊎ (length ms + 1 ≡ n))
        (unmarked : length ms ≡ 0 → byte text (place_after at js ms []) ≡ 77 → n ≡ 1) (way : Way text at l rows n m js ms [] g l' rows)
        (p : ℕ) (is : p ≡ place_after at js ms []) where
      inside : p ≤ length text
      inside = subst (λ q. q ≤ length text) (sym is) (begun_inside text at way.begun)

      rows_stepped : (i : ℕ) (s : List RowRecord) → i < due_rows text p → RowsWay text at l rows n m js g all ms l' limits.1 done unmarked i s
          → let t = row_step n text p i s in
          Outcome (RowsWay text at l rows n m js g all ms l' limits.1 done unmarked (i + 1)) (RowsOff text at l rows n m js g all ms l' limits.1 done unmarked) t.told t.left
      rows_stepped i s more (rs, long, w) =
          let W = RowsWay text at l rows n m js g all ms l' limits.1 done unmarked in
          let here : p + 17 * i ≡ place_after at js ms rs = omega arith in
          let before : p + 17 * i < length text = rows_short (length text) p i more inside in
          let low : i < 64 = rows_low (length text) p i more in
          subst (λ j. Outcome (W (j + 1)) (RowsOff text at l rows n m js g all ms l' limits.1 done unmarked) (row_step n text p i s).told (row_step n text p i s).left) long
          (row_outcome text at l rows n m js g all ms l' limits.1 done unmarked rs s w (omega arith) (omega arith) (p + 17 * i) here)

      rows_outcome : let t = rows_read n text p (due_rows text p) rows in
          Outcome (RowsWay text at l rows n m js g all ms l' limits.1 done unmarked (due_rows text p)) (RowsOff text at l rows n m js g all ms l' limits.1 done unmarked) t.told t.left
      rows_outcome =
          lines_law (row_step n text p) (RowsWay text at l rows n m js g all ms l' limits.1 done unmarked) (RowsOff text at l rows n m js g all ms l' limits.1 done unmarked) (due_rows text p)
          rows_stepped (due_rows text p) 0 rows (omega arith) ([], refl, way)

      -- by what follows
      end_law : (s : List RowRecord) (rs : List (ℕ × ℤ)) → length rs ≡ due_rows text p → Way text at l rows n m js ms rs g l' s
          → (e : Result Unit TextFault) → Follows text (p + 17 * due_rows text p) e
          → Law (go_on (ended e (p + 17 * due_rows text p)) (λ end. told_of (Ok (query_head h (length ms) end)) g l' s) g l' s)
      end_law s rs many w (Ok u) f =
          let here : p + 17 * due_rows text p ≡ place_after at js ms rs = omega arith in (
            record {
              js = js;
              ms = ms;
              rs = rs;
              begun = w.begun;
              whole = begun_whole text at w.begun (sym here ∙ f);
              ends = f;
              all_joins = all;
              all_marks = refl;
              none_owed = (all, done);
              few_rows = rows_few (length text) p (length rs) many;
              left = w.left;
            },
            tt,
          )
      end_law s rs many w (Err (BadForm q)) f =
          let here : p + 17 * due_rows text p ≡ place_after at js ms rs = omega arith in
          refused_law (Text (BadForm q)) g l' s
          (amiss_here text at l rows n m (Text (BadForm q)) w (subst (λ a. Longest text a q) here f.0, λ e none. f.1 (here ∙ e)))
      end_law s rs many w (Err (Misplaced q)) f =
          let here : p + 17 * due_rows text p ≡ place_after at js ms rs = omega arith in
          let stands : Here text (place_after at js ms rs) f.1 = subst (λ a. Here text a f.1) here f.2 in
          refused_law (Text (Misplaced q)) g l' s
          (amiss_here text at l rows n m (Text (Misplaced q)) w (
            f.0 ∙ here,
            f.1,
            stands,
            λ d.
                let low = (rows_only text at l rows n m js g all ms l' limits.1 done unmarked rs s w f.1 stands d).1 in
                let past = rows_all (length text) p (length rs) many low in
                let within = here_inside text (place_after at js ms rs) f.1 stands in omega arith,
          ))
      end_law s rs many w (Err (OutOfLimits q)) f = absurd f
      end_law s rs many w (Err (TooFew q)) f = absurd f

      by_rows : (r : Result Unit QueryFault) (s : List RowRecord)
          → Outcome (RowsWay text at l rows n m js g all ms l' limits.1 done unmarked (due_rows text p)) (RowsOff text at l rows n m js g all ms l' limits.1 done unmarked) r s
          → Law (go_on (next r (λ _. ended (end_at text (p + 17 * due_rows text p)) (p + 17 * due_rows text p))) (λ end. told_of (Ok (query_head h (length ms) end)) g l' s) g l' s)
      by_rows (Ok u) s (rs, many, w) = end_law s rs many w (end_at text (p + 17 * due_rows text p)) (follows_end text (p + 17 * due_rows text p))
      by_rows (Err f) s off = refused_law f g l' s off

      rows_law : (k : ℕ) → k ≡ length ms → Law (read_on_rows text p h k g l' rows)
      unfolding read_on_rows
      rows_law k e =
          subst (λ j. Law (go_on (rows_ended n text p rows) (λ end. told_of (Ok (query_head h j end)) g l' (rows_read n text p (due_rows text p) rows).left) g l' (rows_read n text p (due_rows text p) rows).left)) (sym e)
          (by_rows (rows_read n text p (due_rows text p) rows).told (rows_read n text p (due_rows text p) rows).left rows_outcome)

    -- ---- the M lines

    module _ (js : List (ℕ × ℕ)) (g : Graph) (all : length js ≡ m) (way : Way text at l rows n m js [] [] g l rows) (p : ℕ) (is : p ≡ place_after at js [] []) where
      marks_stepped : (i : ℕ) (s : List Mark) → i < due_marks n text p → MarksWay text at l rows n m js g all i s
          → let t = mark_step text p i s in Outcome (MarksWay text at l rows n m js g all (i + 1)) (MarksOff text at l rows n m js g all) t.told t.left
      marks_stepped i s more (ms, long, w) =
          let some = some_due n i (byte text p) more in
          let here : p + 17 * i ≡ place_after at js ms [] = omega arith in
          let enough = good.enough in
          subst (λ j. Outcome (MarksWay text at l rows n m js g all (j + 1)) (MarksOff text at l rows n m js g all) (mark_step text p j s).told (mark_step text p j s).left) long
          (mark_outcome text at l rows n m js g all ms s w (omega (arith, some.1)) enough
          (λ z. let same : place_after at js ms [] ≡ p = omega arith in ap (byte text) same ∙ some.0)
          (p + 17 * length ms) (omega arith))

      marks_outcome : let t = marks_read text p (due_marks n text p) l in
          Outcome (MarksWay text at l rows n m js g all (due_marks n text p)) (MarksOff text at l rows n m js g all) t.told t.left
      marks_outcome =
          lines_law (mark_step text p) (MarksWay text at l rows n m js g all) (MarksOff text at l rows n m js g all) (due_marks n text p)
          marks_stepped (due_marks n text p) 0 l (omega arith) ([], refl, way)

      by_marks : (r : Result Unit QueryFault) (s : List Mark)
          → Outcome (MarksWay text at l rows n m js g all (due_marks n text p)) (MarksOff text at l rows n m js g all) r s
          → Law (go_on r (λ _. read_on_rows text (p + 17 * due_marks n text p) h (due_marks n text p) g s rows) g s rows)
      by_marks (Ok u) s (ms, long, w) =
          rows_law js g all ms s (all_due n (length ms) (byte text p) limits.0 long)
          (λ z letter. none_due n (length ms) (byte text p) limits.0 long z (let same : p ≡ place_after at js ms [] = omega arith in ap (byte text) same ∙ letter))
          w (p + 17 * due_marks n text p) (omega arith) (due_marks n text p) (sym long)
      by_marks (Err f) s off = refused_law f g s rows off

      marks_law : Law (read_on_marks text p h g l rows)
      unfolding read_on_marks
      marks_law = by_marks (marks_read text p (due_marks n text p) l).told (marks_read text p (due_marks n text p) l).left marks_outcome

    -- ---- the J lines

    joins_stepped : (i : ℕ) (s : Graph) → i < m → JoinsWay text at l rows n m i s
        → let t = join_step 2016 text (at + 17) i s in Outcome (JoinsWay text at l rows n m (i + 1)) (JoinsOff text at l rows n m) t.told t.left
    joins_stepped i s more (js, long, w) =
        let here : at + 17 + 17 * i ≡ place_after at js [] [] = omega arith in
        subst (λ j. Outcome (JoinsWay text at l rows n m (j + 1)) (JoinsOff text at l rows n m) (join_step 2016 text (at + 17) i s).told (join_step 2016 text (at + 17) i s).left) long
        (join_outcome text at l rows n m js s w (omega arith) (at + 17 + 17 * i) here)

    begun : Way text at l rows n m [] [] [] (no_joins n) l rows
    begun = record { begun = headed good; left = record { graph_is = refl; marks_are = refl; counts_are = λ t. refl }; long = wide }

    joins_outcome : let t = joins_read 2016 text (at + 17) m (no_joins n) in
        Outcome (JoinsWay text at l rows n m m) (JoinsOff text at l rows n m) t.told t.left
    joins_outcome =
        lines_law (join_step 2016 text (at + 17)) (JoinsWay text at l rows n m) (JoinsOff text at l rows n m) m joins_stepped m 0 (no_joins n) (omega arith) ([], refl, begun)

    by_joins : (r : Result Unit QueryFault) (s : Graph) → Outcome (JoinsWay text at l rows n m m) (JoinsOff text at l rows n m) r s
        → Law (go_on r (λ _. read_on_marks text (at + 17 + 17 * m) h s l rows) s l rows)
    by_joins (Ok u) s (js, long, w) = marks_law js s long w (at + 17 + 17 * m) (omega arith)
    by_joins (Err f) s off = refused_law f s l rows off

    joins_law : Law (read_on_joins text (at + 17) h l rows)
    unfolding read_on_joins
    joins_law = by_joins (joins_read 2016 text (at + 17) m (no_joins n)).told (joins_read 2016 text (at + 17) m (no_joins n)).left joins_outcome

  by_head : (r : Result Head TextFault) → HeadTold text at (length l) r → Law (go_on (carried r) (λ h. read_on_joins text (at + 17) h l rows) (no_joins 1) l rows)
  by_head (Ok h) good = joins_law h good
  by_head (Err e) off = (tt, inl (record { amiss = off; graph_is = refl; marks_are = refl; rows_are = refl }))

  pub query_law : Law (query_read text at l rows)
  unfolding query_read
  query_law = by_head (head_at text at (length l)) (head_told text at (length l))
