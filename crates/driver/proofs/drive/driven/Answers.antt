use Rattle.std.proofs.Common.{◌≡◌, ◌≤◌, take, Ok, Err, sym, ap, ◌∙◌, subst, inl, arith}
use Rattle.std.proofs.lemmas.Result.{err_from_is_err_and}
use Rattle.bits.specs.Table.{graph_of}
use Rattle.catalogue.specs.Records.{records_of}
use Rattle.texts.proofs.Refusals.{refused_on}
use Rattle.rejections.specs.Fault.{query_place}
use Rattle.queries.specs.QueryRead.{QueryTold, query_read}
use Rattle.outcomes.specs.Fault.{fault_place}
use Rattle.outcomes.specs.declared.fault.ProgramFault.TheVariants.{Query}
use Rattle.assembler.specs.Assemble.{query_in}
use Rattle.assembler.proofs.Queried.{refuses_query}
use Rattle.driver.specs.Drive.{outcome, report_left, marks_read}
use Rattle.driver.specs.Inner.{Amounts}
use Rattle.driver.proofs.Law.{query_off, query_on, amounts_so, small_so}
use Rattle.driver.proofs.drive.driven.Goals as goal

pub returns-in_err-head : goal.returns-in_err-head
returns-in_err-head c =
    let text = c.args.text.now in
    let marks = c.args.marks.now in
    let r = c.from_residual.result in
    let p = err_from_is_err_and r c.from_residual.ensures.1 in
    let f = c.in_err-head.field-0.0 in
    let new = ap (λ x. query_read text 0 marks x) c.new-rows.ensures in
    let bad : (query_in text marks).told ≡ Err f = sym (c.read_query.ensures.answer ∙ ap (λ (q : QueryTold). q.told) new) ∙ c.in_err-head.was in
    let close : query_place f ≤ 99999 = omega (arith, c.in_err-head.ensures.near) in
    let told : r ≡ Err (Query f) = p.1 ∙ ap (λ e. Err e) p.2 in
    let off = query_off text marks f bad in
    record {
      answer = told ∙ sym (ap outcome off);
      filled = sym (ap (λ q. report_left q c.args.report.now) off);
      marked = c.read_query.ensures.marked ∙ ap (λ (q : QueryTold). q.marks) new;
      law = subst (λ q. Amounts text q c.args.report.now) (sym told) (inl (refuses_query text marks (omega arith) f bad close));
      near = refused_on r p.0 (Query f) (λ e. fault_place e ≤ 99999) p.1 p.2 close;
    }

pub returns : goal.returns
returns c =
    let text = c.args.text.now in
    let marks = c.args.marks.now in
    let h = c.in_ok-head.head in
    let m = graph_of c.read_query.new.graph in
    let rows = records_of c.read_query.new.rows in
    let l = take h.marks c.read_query.new.marks in
    let new = ap (λ x. query_read text 0 marks x) c.new-rows.ensures in
    let read : (query_in text marks).told ≡ Ok h = sym (c.read_query.ensures.answer ∙ ap (λ (q : QueryTold). q.told) new) ∙ c.in_ok-head.was in
    let is : m ≡ (query_in text marks).graph = c.read_query.ensures.meant ∙ ap (λ (q : QueryTold). q.graph) new in
    let marked : c.read_query.new.marks ≡ (query_in text marks).marks = c.read_query.ensures.marked ∙ ap (λ (q : QueryTold). q.marks) new in
    let counted : rows ≡ (query_in text marks).rows = c.read_query.ensures.counted ∙ ap (λ (q : QueryTold). q.rows) new in
    let these : l ≡ marks_read text marks h = ap (take h.marks) marked in
    let on = query_on text marks h read m is l these rows counted in
    let r = c.requested.result in
    let after = c.requested.new.report in
    record {
      answer = c.requested.ensures.answer ∙ ap outcome on;
      filled = c.requested.ensures.filled ∙ ap (λ q. report_left q c.args.report.now) on;
      marked = marked;
      law = amounts_so text marks h read m is l these rows counted (omega arith) r after c.requested.ensures.law;
      near = small_so m l rows r after c.requested.ensures.law;
    }
