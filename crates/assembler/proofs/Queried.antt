-- The text of a query that was read, and that of none, in the words of the laws.
--
--   WasRead, was_read   a query that was read, with its graph
--   graph_so, query_so  the input is then the text of a query, and the graph that of its J lines
--   refuses_query       a text that is refused as a query
use Rattle.std.proofs.Common.{◌≡◌, ℕ, ◌+◌, ◌*◌, ◌≤◌, ◌⊎◌, List, length, replicate, Ok, Err, sym, refl, ap, ◌∙◌, subst, inl, inr, arith}
use Rattle.theory.specs.Graph.{Graph, Simple, table_count, size}
use Rattle.theory.specs.declared.mark.Mark.{Mark}
use Rattle.catalogue.specs.Rows.{unknown}
use Rattle.catalogue.specs.declared.catalogue.RowRecord.{RowRecord}
use Rattle.lines.specs.Text.{line_text}
use Rattle.prints.specs.Refusal.{refusal_line}
use Rattle.queries.specs.QueryLaw.{query_text, lines_graph, Begun, HeadAmiss, HeadRefused, LineRefused, QueryStands, QueryAccepted, QueryRefused}
use Rattle.rejections.specs.Fault.{query_number, query_layer, query_place}
use Rattle.rejections.specs.declared.fault.QueryFault.{QueryFault}
use Rattle.queries.specs.declared.query.QueryHead.{QueryHead}
use Rattle.queries.proofs.Law.{query_law}
use Rattle.queries.proofs.Whole.{begun_inside}
use Rattle.assembler.specs.Assemble.{query_in}
use Rattle.assembler.specs.AssembleLaw.{IsQuery, LineAmiss, RefusesQuery}
use Rattle.assembler.proofs.Begun.{begun_simple, begun_size}
use Rattle.assembler.proofs.Unread.{no_query}

abbrev pub new_rows : List RowRecord
new_rows = replicate 64 unknown

module _ (text : List ℕ) (marks : List Mark) where
  -- a query that was read
  pub record WasRead (h : QueryHead) (m : Graph) : Type 0 where
    pub stands : QueryStands text 0 marks new_rows h m (query_in text marks).marks (query_in text marks).rows
    pub simple : Simple m
    pub long : 17 + 17 * size m ≤ length text

  pub was_read : (h : QueryHead) (m : Graph) → (query_in text marks).told ≡ Ok h → (query_in text marks).graph ≡ m → WasRead h m
  was_read h m read is =
      let q = query_in text marks in
      let law : QueryAccepted text 0 marks new_rows q.told q.graph q.marks q.rows = (query_law text 0 marks new_rows (omega arith)).0 in
      let here : QueryStands text 0 marks new_rows h q.graph q.marks q.rows =
      subst (λ r. QueryAccepted text 0 marks new_rows r q.graph q.marks q.rows) read law in
      let stands : QueryStands text 0 marks new_rows h m q.marks q.rows =
      subst (λ g. QueryStands text 0 marks new_rows h g q.marks q.rows) is here in
      let many : size m ≡ length stands.js = ap size stands.left.graph_is ∙ begun_size stands.begun in
      record {
        stands = stands;
        simple = subst Simple (sym stands.left.graph_is) (begun_simple stands.begun);
        long = omega (arith, many, begun_inside text 0 stands.begun);
      }

  module _ (lent : length marks ≡ 63) where
    module _ (h : QueryHead) (m : Graph) (was : WasRead h m) where
      abbrev read_so : QueryStands text 0 marks new_rows h m (query_in text marks).marks (query_in text marks).rows
      read_so = was.stands

      tables_are : table_count m ≡ h.tables
      tables_are = ap table_count read_so.left.graph_is

      pub graph_so : m ≡ lines_graph (table_count m) read_so.js
      graph_so = read_so.left.graph_is ∙ ap (λ n. lines_graph n read_so.js) (sym tables_are)

      begun_so : Begun text 0 63 (table_count m) (length read_so.js) read_so.js read_so.ms read_so.rs
      begun_so =
          subst (λ n. Begun text 0 63 n (length read_so.js) read_so.js read_so.ms read_so.rs) (sym tables_are)
          (subst (λ k. Begun text 0 63 h.tables k read_so.js read_so.ms read_so.rs) (sym read_so.all_joins)
          (subst (λ k. Begun text 0 k h.tables h.joins read_so.js read_so.ms read_so.rs) lent read_so.begun))

      pub query_so : IsQuery text (table_count m) read_so.js read_so.ms read_so.rs
      query_so = record {
        begun = begun_so;
        whole = read_so.whole
            ∙ ap (λ k. query_text h.tables k read_so.js read_so.ms read_so.rs) (sym read_so.all_joins)
            ∙ ap (λ n. query_text n (length read_so.js) read_so.js read_so.ms read_so.rs) (sym tables_are);
        marks_owed = subst (λ n. (length read_so.ms ≡ 0) ⊎ (length read_so.ms + 1 ≡ n)) (sym tables_are) read_so.none_owed.1;
        few_rows = read_so.few_rows;
      }

    line_amiss : (f : QueryFault) (m : Graph) (marks' : List Mark) (rows' : List RowRecord)
        → HeadRefused text 0 marks new_rows f m marks' rows' ⊎ LineRefused text 0 marks new_rows f m marks' rows' → LineAmiss text f
    line_amiss f m marks' rows' (inl h) = inl (subst (λ k. HeadAmiss text 0 k f) lent h.amiss)
    line_amiss f m marks' rows' (inr h) = inr (record {
      tables = h.tables;
      joins = h.joins;
      js = h.js;
      ms = h.ms;
      rs = h.rs;
      begun = subst (λ k. Begun text 0 k h.tables h.joins h.js h.ms h.rs) lent h.begun;
      amiss = h.amiss;
    })

    query_amiss : (f : QueryFault) → (query_in text marks).told ≡ Err f → LineAmiss text f
    query_amiss f bad =
        let q = query_in text marks in
        line_amiss f q.graph q.marks q.rows
        (subst (λ r. QueryRefused text 0 marks new_rows r q.graph q.marks q.rows) bad (query_law text 0 marks new_rows (omega arith)).1)

    pub refuses_query : (f : QueryFault) → (query_in text marks).told ≡ Err f → query_place f ≤ 99999
        → RefusesQuery text (line_text (refusal_line (query_number f) (query_layer f) (query_place f)))
    refuses_query f bad near = record {
      none = λ n js ms rs q. no_query text n js ms rs q f (query_amiss f bad);
      fault = f;
      amiss = query_amiss f bad;
      small = near;
      prints = refl;
    }
