-- Each answer is that of its case.
use Rattle.std.proofs.Common.{◌≡◌, ℕ, ◌<◌, ◌≤◌, Err, Result, sym, ap, ap₂, ◌∙◌, arith}
use Rattle.theory.specs.Graph.{table_count}
use Rattle.bits.specs.Table.{graph_of}
use Rattle.driving.specs.declared.fault.DriveFault.{DriveFault}
use Rattle.driving.specs.declared.fault.DriveFault.TheVariants.{OtherCount, TooFewRecords}
use Rattle.driving.proofs.Cases.{judged_other, judged_missing, judged_few, judged_accepted}
use Rattle.driving.proofs.judge.judge.Goals as goal

abbrev refuse : DriveFault → Result Unit DriveFault
refuse f = Err f

pub returns-then-tables : goal.returns-then-tables
returns-then-tables c = λ q.
    let m = graph_of c.args.graph.now in
    let t = graph_of c.args.marks.now in
    ap₂ (λ (a b : ℕ). refuse (OtherCount a b)) c.tables-then-tables.ensures c.tables-tables.ensures
    ∙ sym (judged_other m t c.args.room (λ e. c.if-tables.true (c.tables.ensures ∙ e ∙ sym c.tables-tables.ensures)))

pub returns-in-Some : goal.returns-in-Some
returns-in-Some c = λ q.
    let m = graph_of c.args.graph.now in
    let t = graph_of c.args.marks.now in
    let e : table_count t ≡ table_count m = sym c.tables.ensures ∙ c.if-tables.false ∙ c.tables-tables.ensures in
    sym (judged_missing m t c.args.room e c.in-Some.table (sym (c.lowest_missing.ensures t q e) ∙ c.in-Some.is))

pub returns-then-room-needed : goal.returns-then-room-needed
returns-then-room-needed c = λ q.
    let m = graph_of c.args.graph.now in
    let t = graph_of c.args.marks.now in
    let e : table_count t ≡ table_count m = sym c.tables.ensures ∙ c.if-tables.false ∙ c.tables-tables.ensures in
    let short : c.args.room < table_count m = omega (arith, c.if-room-needed.true, c.tables-tables.ensures) in
    ap (λ (k : ℕ). refuse (TooFewRecords k)) c.tables-tables.ensures
    ∙ sym (judged_few m t c.args.room e (sym (c.lowest_missing.ensures t q e) ∙ c.in_default.is) short)

pub returns : goal.returns
returns c = λ q.
    let m = graph_of c.args.graph.now in
    let t = graph_of c.args.marks.now in
    let e : table_count t ≡ table_count m = sym c.tables.ensures ∙ c.if-tables.false ∙ c.tables-tables.ensures in
    let enough : table_count m ≤ c.args.room = omega (arith, c.if-room-needed.false, c.tables-tables.ensures) in
    sym (judged_accepted m t c.args.room e (sym (c.lowest_missing.ensures t q e) ∙ c.in_default.is) enough)
