-- What the program answers to what was read, exit by exit, and what it amounts to.
--
--   query_off       a query that is refused
--   query_on        the request of a query that was read
--   amounts_so      the law of its answer
--   small_so        what a refusal names is small
--   fits_so         a report is no longer than its query, or than two lines
use Rattle.std.proofs.Common.{◌≡◌, ℕ, ◌+◌, ◌≤◌, ◌⊎◌, Bool, true, false, cond, ltb, IfErr, List, [], ◌∷◌, length, get_or, take, drop, Option, None, Ok, Err, Result, ℤ, sym, refl, ap, ◌∙◌, subst, inl, inr, ⊎_elim, arith}
use Rattle.std.proofs.lemmas.Bool.{both_ways, ltb-true}
use Rattle.std.proofs.lemmas.List.{take_at, get_or-replicate}
use Rattle.theory.specs.Graph.{Graph, joined, table_count}
use Rattle.theory.specs.declared.mark.Mark.{Mark}
use Rattle.catalogue.specs.Rows.{count_of, unknown}
use Rattle.catalogue.specs.declared.catalogue.RowRecord.{RowRecord}
use Rattle.trees.specs.Tree.{AllJoins, MarksTree, FaultTold}
use Rattle.reports.specs.declared.record.ReportRecord.{ReportRecord}
use Rattle.rejections.specs.declared.fault.QueryFault.{QueryFault}
use Rattle.queries.specs.QueryLaw.{last_count, lines_graph}
use Rattle.queries.specs.declared.query.QueryHead.{QueryHead}
use Rattle.queries.proofs.Whole.{begun_inside}
use Rattle.lines.specs.Text.{line_text}
use Rattle.prints.specs.Refusal.{refusal_line}
use Rattle.outcomes.specs.Fault.{fault_number, fault_layer, fault_place}
use Rattle.outcomes.specs.declared.fault.ProgramFault.{ProgramFault}
use Rattle.outcomes.specs.declared.fault.ProgramFault.TheVariants.{Query}
use Rattle.report_texts.specs.ReportText.{report_length}
use Rattle.assembler.specs.Assemble.{query_in}
use Rattle.assembler.proofs.Unread.{one_query}
use Rattle.assembler.proofs.Queried.{new_rows, WasRead, was_read, graph_so, query_so}
use Rattle.driver.specs.Drive.{marks_read, query_then, request, drive_told}
use Rattle.driver.specs.DriveLaw.{Tells, OfQuery, GivesReport}
use Rattle.driver.specs.Inner.{report_at, Requested, Amounts}
use Rattle.driver.specs.declared.drive.Outcome.{Outcome}

-- no count is known at first
none_known : (t : ℕ) → count_of new_rows t ≡ None
none_known t = by (ltb t 64) refl
  where
    by : (b : Bool) → ltb t 64 ≡ b → cond b (get_or new_rows t unknown).count None ≡ None
    by true e = ap (λ (x : RowRecord). x.count) (get_or-replicate 64 t unknown unknown (ltb-true t 64 e))
    by false e = refl

last_same : (rs : List (ℕ × ℤ)) (t : ℕ) (c d : Option ℕ) → c ≡ d → last_count rs t c ≡ last_count rs t d
last_same rs t c d e = ap (last_count rs t) e

module _ (text : List ℕ) (marks : List Mark) where
  module _ (f : QueryFault) (bad : (query_in text marks).told ≡ Err f) where
    pub query_off : drive_told text marks ≡ Err (Query f)
    unfolding drive_told
    query_off = ap (λ r. query_then r (λ h. request (query_in text marks).graph (marks_read text marks h) (query_in text marks).rows)) bad

  module _ (h : QueryHead) (read : (query_in text marks).told ≡ Ok h) (m : Graph) (is : m ≡ (query_in text marks).graph) (l : List Mark) (marks_are : l ≡ marks_read text marks h)
      (rows : List RowRecord) (rows_are : rows ≡ (query_in text marks).rows) where
    pub query_on : request m l rows ≡ drive_told text marks
    unfolding drive_told
    query_on =
        ap (λ x. request x l rows) is
        ∙ ap (λ x. request (query_in text marks).graph x rows) marks_are
        ∙ ap (λ x. request (query_in text marks).graph (marks_read text marks h) x) rows_are
        ∙ sym (ap (λ r. query_then r (λ k. request (query_in text marks).graph (marks_read text marks k) (query_in text marks).rows)) read)

    module _ (lent : length marks ≡ 63) where
      was : WasRead text marks h m
      was = was_read text marks h m read (sym is)

      -- its marks are those of the M lines
      these : l ≡ was.stands.ms
      these =
          marks_are
          ∙ ap (λ k. take k (query_in text marks).marks) (sym was.stands.all_marks)
          ∙ ap (take (length was.stands.ms)) was.stands.left.marks_are
          ∙ take_at was.stands.ms (drop (length was.stands.ms) marks) (length was.stands.ms) refl

      of_query : OfQuery text m was.stands.ms was.stands.rs
      of_query = record { js = was.stands.js; graph_is = graph_so text marks lent h m was; query = query_so text marks lent h m was }

      counts_so : (t : ℕ) → count_of rows t ≡ last_count was.stands.rs t None
      counts_so t =
          ap (λ x. count_of x t) rows_are
          ∙ was.stands.left.counts_are t
          ∙ last_same was.stands.rs t (count_of new_rows t) None (none_known t)

      pub amounts_so : (r : Result Outcome ProgramFault) (records : List ReportRecord) → Requested m l rows r records → Amounts text r records
      amounts_so (Ok o) records told = (
        record {
          graph = m;
          ms = was.stands.ms;
          rs = was.stands.rs;
          of = of_query;
          rows = rows;
          counts = counts_so;
          report = report_at o records;
          tells = subst (λ x. Tells m x rows (report_at o records)) these told;
          prints = refl;
        },
        refl,
      )
      amounts_so (Err f) records told = inr (record {
        graph = m;
        ms = was.stands.ms;
        rs = was.stands.rs;
        of = of_query;
        none = λ n js ms' rs' q tree.
            let same = one_query text (table_count m) of_query.js was.stands.ms was.stands.rs of_query.query n js ms' rs' q in
            let graph : lines_graph n js ≡ m =
            ap (λ k. lines_graph k js) (sym same.0) ∙ ap (lines_graph (table_count m)) (sym same.1) ∙ sym of_query.graph_is in
            told.2.none (subst (MarksTree m) (sym (these ∙ same.2)) (subst (λ g. MarksTree g ms') graph tree));
        fault = told.0;
        told = subst (λ x. FaultTold m x told.0) these told.2.told;
        small = told.2.small;
        prints = ap (λ x. line_text (refusal_line (fault_number x) (fault_layer x) (fault_place x))) told.1;
      })

-- a refusal of the request names a mark's turn
pub small_so : (m : Graph) (l : List Mark) (rows : List RowRecord) (r : Result Outcome ProgramFault) (records : List ReportRecord) → Requested m l rows r records
    → IfErr r (λ f. fault_place f ≤ 99999)
small_so m l rows (Ok o) records told = tt
small_so m l rows (Err f) records told = subst (λ x. fault_place x ≤ 99999) (sym told.1) told.2.small

-- where some join is marked, there is a J line
some_line : (m : Graph) (js : List (ℕ × ℕ)) (ms : List Mark) → m ≡ lines_graph (table_count m) js → AllJoins m ms → (length ms ≡ 0) ⊎ (1 ≤ length js)
some_line m js [] e all = inl refl
some_line m [] (k ∷ ms) e all = absurd (both_ways (joined m k.v k.w) (ap (λ g. joined g k.v k.w) e) (all 0 k refl))
some_line m (p ∷ js) (k ∷ ms) e all = inr (omega arith)

-- a report of two or more tables is no longer than its query, and one of a single table has two lines
pub fits_so : (input out : List ℕ) (g : GivesReport input out) (b : ℕ) → length input ≤ b → 34 ≤ b → report_length g.report.records ≤ b
fits_so input out g b most two =
    let each : length g.report.records ≡ table_count g.graph = g.tells.each in
    let fewer : length g.ms + 1 ≡ table_count g.graph = g.tells.tree.fewer in
    let inside = begun_inside input 0 g.of.query.begun in
    ⊎_elim
    (λ (h : length g.ms ≡ 0). let k : report_length g.report.records ≤ b = omega arith in k)
    (λ (h : 1 ≤ length g.of.js). let k : report_length g.report.records ≤ b = omega arith in k)
    (some_line g.graph g.of.js g.ms g.of.graph_is g.tells.tree.joins)
