-- Each turn lays the lines of the first of the rows that are left.
use Rattle.std.proofs.Common.{◌≡◌, ◌+◌, ◌*◌, ◌<◌, ◌≤◌, [], length, sym, refl, ap, ◌∙◌, arith}
use Rattle.writer.specs.Laid.{laid}
use Rattle.theory.specs.Graph.{table_count, size}
use Rattle.theory.proofs.Listing.{joins_listed}
use Rattle.prints.specs.GraphText.{join_lines}
use Rattle.prints.proofs.Rows.{rest, rest_rows, counted_few, all_length, rows_length, rows_over, rows_on}
use Rattle.prints.proofs.Writes.{graph_few, graph_kept, graph_enough, graph_full}
use Rattle.prints.proofs.graph_text.write_graph.Goals as goal

pub overflow_mul-needed : goal.overflow_mul-needed
overflow_mul-needed g c = omega (arith, counted_few (g.met.G.ReadableGraph.simple c.args.graph.now) c.count_joins-joins.ensures)

pub overflow_add-needed : goal.overflow_add-needed
overflow_add-needed g c = omega (arith, counted_few (g.met.G.ReadableGraph.simple c.args.graph.now) c.count_joins-joins.ensures)

pub overflow_cast-joins : goal.overflow_cast-joins
overflow_cast-joins g c = omega (arith, counted_few (g.met.G.ReadableGraph.simple c.args.graph.now) c.count_joins-joins.ensures)

pub returns-then-out-needed : goal.returns-then-out-needed
returns-then-out-needed g c =
    let m = g.G.ReadableGraph.meaning c.args.graph.now in
    let n = c.count_joins-joins.result in
    let out = c.args.out.now in
    let few : length out < 17 + 17 * n = omega arith in
    record {
      answer = sym (graph_few m n c.count_joins-joins.ensures out few);
      written = graph_kept m n c.count_joins-joins.ensures out few;
      listed = joins_listed m (g.met.G.ReadableGraph.simple c.args.graph.now);
    }

pub loop-v-init : goal.loop-v-init
loop-v-init g c =
    let m = g.G.ReadableGraph.meaning c.args.graph.now in
    let all : length (rest_rows m 0) ≡ size m = all_length m (g.met.G.ReadableGraph.simple c.args.graph.now) in
    (refl {a = laid c.put_line.new.out 17 (join_lines (rest_rows m 0))}, omega arith)

pub put_row-at-requires : goal.put_row-at-requires
put_row-at-requires g c =
    let m = g.G.ReadableGraph.meaning c.args.graph.now in
    let here : length (rest_rows m c.loop-v.v) ≡ length (rest m c.loop-v.v (c.loop-v.v + 1)) + length (rest_rows m (c.loop-v.v + 1)) = rows_length m c.loop-v.v (omega arith) in
    (omega arith, omega arith)

pub loop-v-preserved : goal.loop-v-preserved
loop-v-preserved g c =
    let m = g.G.ReadableGraph.meaning c.args.graph.now in
    let v = c.loop-v.v in
    let small : v < table_count m = omega arith in
    let here : length (rest_rows m v) ≡ length (rest m v (v + 1)) + length (rest_rows m (v + 1)) = rows_length m v small in
    let whole = laid c.put_line.new.out 17 (join_lines (rest_rows m 0)) in
    (rows_on m v small c.loop-v.out c.put_row-at.new.out whole c.loop-v.at c.put_row-at.result c.put_row-at.ensures.written c.put_row-at.ensures.next c.loop-v.invariant.0, omega arith)

pub returns : goal.returns
returns g c =
    let m = g.G.ReadableGraph.meaning c.args.graph.now in
    let n = c.count_joins-joins.result in
    let out = c.args.out.now in
    let room : 17 + 17 * n ≤ length out = omega arith in
    let over : rest_rows m c.loop-v.v ≡ [] = rows_over m c.loop-v.v (omega arith) in
    let rowed : c.loop-v.out ≡ laid c.put_line.new.out 17 (join_lines (rest_rows m 0)) = ap (λ l. laid c.loop-v.out c.loop-v.at (join_lines l)) (sym over) ∙ c.loop-v.invariant.0 in
    record {
      answer = sym (graph_enough m n c.count_joins-joins.ensures out room);
      written =
          graph_full m n c.count_joins-joins.ensures out c.tables-tables.result c.put_line.new.out c.loop-v.out c.tables-tables.ensures room c.put_line.ensures rowed;
      listed = joins_listed m (g.met.G.ReadableGraph.simple c.args.graph.now);
    }
