-- What one more line adds to what is left, and what it takes that a join or a row count is accepted.
--
--   graph_more      a join line more: the graph has its join besides
--   marks_more      a mark line more: its mark stands behind the others
--   counts_more     a row line more: its count is the last for its table
--   good_join       what the store accepts
--   good_row        what the catalogue accepts
use Rattle.std.proofs.Common.{◌≡◌, ℕ, ◌+◌, ◌-◌, ◌<◌, ◌≤◌, Bool, true, false, cond, not, ◌||◌, eqb, ltb, leb, List, [], ◌∷◌, ◌++◌, length, get_or, drop, set, ℤ, Option, Ok, sym, refl, ap, ◌∙◌, append_assoc, arith}
use mathlib.Core.Path.{fun_ext}
use Rattle.std.proofs.lemmas.List.{drop_more, length_push, set-append_right}
use Rattle.std.proofs.lemmas.Bool.{eqb-false, ltb-true, leb-false}
use Rattle.std.proofs.lemmas.Bool.Decides.{nat_tests}
use Rattle.theory.specs.Graph.{Graph, same_pair, joining, joined, is_table}
use Rattle.theory.specs.declared.mark.Mark.{Mark}
use Rattle.graph.specs.Store.{join_answer}
use Rattle.graph.specs.declared.fault.StoreFault.TheVariants.{UnknownTable, SameTable, AlreadyJoined}
use Rattle.catalogue.specs.Rows.{stored_count, out_of_range, row_answer, count_of, row_record}
use Rattle.catalogue.specs.declared.catalogue.RowRecord.{RowRecord}
use Rattle.catalogue.specs.declared.fault.RowFault.TheVariants as row-faults
use Rattle.catalogue.proofs.Counts.{set_count}
use Rattle.texts.proofs.Lists.{unless_so}
use Rattle.queries.specs.QueryLaw.{has_join, lines_graph, last_count, GoodJoin, GoodRow}

-- ---- joins

or_swap : (a b c : Bool) → (a || (b || c)) ≡ (b || (a || c))
or_swap a b c = grind (arith, nat_tests)

has_more : (js : List (ℕ × ℕ)) (p : ℕ × ℕ) (a b : ℕ) → has_join (js ++ p ∷ []) a b ≡ (same_pair p.0 p.1 a b || has_join js a b)
has_more [] p a b = refl
has_more (q ∷ js) p a b =
    ap (λ r. same_pair q.0 q.1 a b || r) (has_more js p a b) ∙ or_swap (same_pair q.0 q.1 a b) (same_pair p.0 p.1 a b) (has_join js a b)

pub graph_more : (n : ℕ) (js : List (ℕ × ℕ)) (p : ℕ × ℕ) (g : Graph) → g ≡ lines_graph n js → joining g p.0 p.1 ≡ lines_graph n (js ++ p ∷ [])
graph_more n js p g is =
    ap (λ m. joining m p.0 p.1) is
    ∙ ap (λ (f : ℕ → ℕ → Bool). record { tables = n; adj = f }) (fun_ext (λ a. fun_ext (λ b. sym (has_more js p a b))))

-- ---- marks

pub marks_more : (l l' ms : List Mark) (k : Mark) → length ms < length l → l' ≡ ms ++ drop (length ms) l
    → set l' (length ms) k ≡ (ms ++ k ∷ []) ++ drop (length (ms ++ k ∷ [])) l
marks_more l l' ms k h is =
    let i = length ms in
    let none : i - i ≡ 0 = omega arith in
    let rest : drop i l ≡ get_or l i k ∷ drop (i + 1) l = drop_more l i k h in
    ap (λ x. set x i k) (is ∙ ap (λ r. ms ++ r) rest)
    ∙ set-append_right ms (get_or l i k ∷ drop (i + 1) l) i i k refl (omega arith)
    ∙ ap (λ j. ms ++ set (get_or l i k ∷ drop (i + 1) l) j k) none
    ∙ ap (λ j. ms ++ k ∷ drop j l) (sym (length_push ms k))
    ∙ sym (append_assoc ms (k ∷ []) (drop (length (ms ++ k ∷ [])) l))

-- ---- row counts

last_more : (rs : List (ℕ × ℤ)) (r : ℕ × ℤ) (t : ℕ) (c : Option ℕ) → last_count (rs ++ r ∷ []) t c ≡ cond (eqb t r.0) (stored_count r.1) (last_count rs t c)
last_more [] r t c = refl
last_more (q ∷ rs) r t c = last_more rs r t (cond (eqb t q.0) (stored_count q.1) c)

pub counts_more : (rows rows' : List RowRecord) (rs : List (ℕ × ℤ)) (r : ℕ × ℤ) → r.0 < 64 → 64 ≤ length rows'
    → ((t : ℕ) → count_of rows' t ≡ last_count rs t (count_of rows t))
    → (t : ℕ) → count_of (set rows' r.0 (row_record r.1)) t ≡ last_count (rs ++ r ∷ []) t (count_of rows t)
counts_more rows rows' rs r h long so t =
    set_count rows' r.0 t (row_record r.1) h long (eqb t r.0) refl
    ∙ ap (λ c. cond (eqb t r.0) (stored_count r.1) c) (so t)
    ∙ sym (last_more rs r t (count_of rows t))

-- ---- what is accepted

not_false : (b : Bool) → not b ≡ false → b ≡ true
not_false b e = grind (arith, nat_tests)

pub good_join : (n : ℕ) (js : List (ℕ × ℕ)) (v w : ℕ) → join_answer (lines_graph n js) 2016 v w ≡ Ok tt → GoodJoin n js (v, w)
good_join n js v w q =
    let m = lines_graph n js in
    let a = unless_so (not (is_table m v)) _ (UnknownTable v) tt q in
    let b = unless_so (not (is_table m w)) _ (UnknownTable w) tt a.1 in
    let c = unless_so (eqb v w) _ (SameTable v) tt b.1 in
    let d = unless_so (joined m v w) _ (AlreadyJoined v w) tt c.1 in
    record {
      first = ltb-true v n (not_false (ltb v n) a.0);
      second = ltb-true w n (not_false (ltb w n) b.0);
      apart = eqb-false v w c.0;
      fresh = d.0;
    }

pub good_row : (n t : ℕ) (z : ℤ) → row_answer n t z ≡ Ok tt → GoodRow n (t, z)
good_row n t z q =
    let a = unless_so (leb n t) _ (row-faults.UnknownTable t) tt q in
    let b = unless_so (out_of_range z) _ (row-faults.OutOfRange t z) tt a.1 in
    record { table = leb-false n t a.0; in_range = b.0 }
