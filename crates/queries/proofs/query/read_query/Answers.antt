use Rattle.std.proofs.Common.{sym, ap}
use Rattle.bits.specs.Rows.{rows_graph}
use Rattle.queries.specs.QueryRead.{QueryTold}
use Rattle.queries.proofs.Near.{near_query}
use Rattle.queries.proofs.Answered.{laws}
use Rattle.queries.proofs.query.read_query.Goals as goal

pub returns : goal.returns
returns c =
    let text = c.args.text.now in
    let l = c.args.marks.now in
    let rows = c.args.rows.now.records in
    let g = rows_graph c.read_lines.new.graph.count c.read_lines.new.graph.rows in
    let ms = c.read_lines.new.marks in
    let rs = c.read_lines.new.rows.records in
    let e = c.read_lines.ensures in
    let law = laws text c.args.at l rows c.args.rows.now.full c.read_lines.result g ms rs e in
    record {
      answer = sym (ap (λ (q : QueryTold). q.told) e);
      meant = sym (ap (λ (q : QueryTold). q.graph) e);
      marked = sym (ap (λ (q : QueryTold). q.marks) e);
      counted = sym (ap (λ (q : QueryTold). q.rows) e);
      accepted = law.0;
      refused = law.1;
      near = near_query text c.args.at l rows g ms rs c.read_lines.result law.1;
    }
