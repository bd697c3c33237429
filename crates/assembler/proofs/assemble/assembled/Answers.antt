use Rattle.std.proofs.Common.{◌≡◌, ◌≤◌, length, Ok, Err, Result, sym, ap, ◌∙◌, arith}
use Rattle.std.proofs.lemmas.Result.{err_from_is_err_and}
use Rattle.bits.proofs.Edits.{simple_of}
use Rattle.bits.specs.Rows.{rows_graph}
use Rattle.theory.specs.Graph.{Graph}
use Rattle.texts.proofs.Refusals.{refused_on}
use Rattle.rejections.specs.Fault.{query_place}
use Rattle.queries.specs.QueryRead.{QueryTold, query_read}
use Rattle.outcomes.specs.Fault.{fault_place}
use Rattle.outcomes.specs.declared.fault.ProgramFault.{ProgramFault}
use Rattle.outcomes.specs.declared.fault.ProgramFault.TheVariants.{Query, Build}
use Rattle.assembler.specs.Assemble.{query_in, listed}
use Rattle.assembler.proofs.Told.{query_off, query_kept, build_kept, build_off, build_on, build_near}
use Rattle.assembler.proofs.assemble.assembled.Goals as goal

pub returns-in_err-read_query : goal.returns-in_err-read_query
returns-in_err-read_query c =
    let text = c.args.text.now in
    let steps = c.args.steps.now in
    let marks = c.args.marks.now in
    let r = c.from_residual.result in
    let p = err_from_is_err_and r c.from_residual.ensures.1 in
    let f = c.in_err-read_query.field-0.0 in
    let new = ap (λ x. query_read text 0 marks x) c.new-rows.ensures in
    let bad : (query_in text marks).told ≡ Err f = sym (c.read_query.ensures.answer ∙ ap (λ (q : QueryTold). q.told) new) ∙ c.in_err-read_query.was in
    let close : query_place f ≤ 99999 = omega (arith, c.in_err-read_query.ensures.near) in
    record {
      answer = p.1 ∙ ap (λ e. Err e) p.2 ∙ sym (ap (λ (q : Result Graph ProgramFault). listed q) (query_off text steps marks f bad));
      filled = query_kept text steps marks f bad;
      marked = c.read_query.ensures.marked ∙ ap (λ (q : QueryTold). q.marks) new;
      near = refused_on r p.0 (Query f) (λ e. fault_place e ≤ 99999) p.1 p.2 close;
    }

pub returns-in_err-built : goal.returns-in_err-built
returns-in_err-built c =
    let text = c.args.text.now in
    let steps = c.args.steps.now in
    let marks = c.args.marks.now in
    let b = c.read_query.new.graph in
    let m = rows_graph b.count b.rows in
    let r = c.from_residual-in_err-built.result in
    let p = err_from_is_err_and r c.from_residual-in_err-built.ensures.1 in
    let f = c.in_err-built.field-0.0 in
    let h = c.in_ok-read_query.field-0 in
    let new = ap (λ x. query_read text 0 marks x) c.new-rows.ensures in
    let read : (query_in text marks).told ≡ Ok h = sym (c.read_query.ensures.answer ∙ ap (λ (q : QueryTold). q.told) new) ∙ c.in_ok-read_query.was in
    let is : m ≡ (query_in text marks).graph = c.read_query.ensures.meant ∙ ap (λ (q : QueryTold). q.graph) new in
    let bad = sym c.build.ensures.answer ∙ c.in_err-built.was in
    record {
      answer = p.1 ∙ ap (λ e. Err e) p.2 ∙ sym (ap (λ (q : Result Graph ProgramFault). listed q) (build_off text steps marks h read m is f bad));
      filled = c.build.ensures.filled ∙ build_kept text steps marks h read m is;
      marked = c.read_query.ensures.marked ∙ ap (λ (q : QueryTold). q.marks) new;
      near = refused_on r p.0 (Build f) (λ e. fault_place e ≤ 99999) p.1 p.2
          (build_near m (length steps) f (simple_of b) (c.build.ensures.named f c.in_err-built.was));
    }

pub returns : goal.returns
returns c =
    let text = c.args.text.now in
    let steps = c.args.steps.now in
    let marks = c.args.marks.now in
    let b = c.read_query.new.graph in
    let m = rows_graph b.count b.rows in
    let h = c.in_ok-read_query.field-0 in
    let new = ap (λ x. query_read text 0 marks x) c.new-rows.ensures in
    let read : (query_in text marks).told ≡ Ok h = sym (c.read_query.ensures.answer ∙ ap (λ (q : QueryTold). q.told) new) ∙ c.in_ok-read_query.was in
    let is : m ≡ (query_in text marks).graph = c.read_query.ensures.meant ∙ ap (λ (q : QueryTold). q.graph) new in
    let good = sym c.build.ensures.answer ∙ c.in_ok-built.was in
    record {
      answer = build_on text steps marks h read m is c.in_ok-built.built good c.tables.result c.tables.ensures;
      filled = c.build.ensures.filled ∙ build_kept text steps marks h read m is;
      marked = c.read_query.ensures.marked ∙ ap (λ (q : QueryTold). q.marks) new;
      near = tt;
    }
