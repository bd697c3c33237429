-- The list of a surveyed graph: what the survey holds tells where the search ended, and the rows are the graph's joins.
use Rattle.std.proofs.Common.{◌≡◌, ℕ, ◌≤◌, List, ◌++◌, length, drop, sym, ap, ap₂, ◌∙◌, subst}
use Rattle.theory.specs.Graph.{is_table, joined}
use Rattle.theory.specs.declared.step.Step.{Step}
use Rattle.bits.specs.Rows.{rows_graph}
use Rattle.disassembly.specs.Search.{searched}
use Rattle.disassembly.specs.Disassembly.{given}
use Rattle.sets.specs.Rows.{in_row}
use Rattle.notes.specs.Notes.{part_in, all_notes_of}
use Rattle.notes.proofs.Given.{given_steps, given_length, given_triangle}
use Rattle.notes.proofs.Laid.{list_whole}
use Rattle.assembly.proofs.build.lay.Goals as goal

pub invariant_of-part : goal.invariant_of-part
invariant_of-part c =
    let m = rows_graph c.args.graph.now.count c.args.graph.now.rows in
    let same : (x y : ℕ) → in_row c.rows.result x y ≡ joined m x y = λ x y. ap (λ rows. in_row rows x y) c.rows.ensures.is in
    record { symmetric = λ x y. same x y ∙ c.args.graph.now.symmetric x y ∙ sym (same y x) }

pub returns : goal.returns
unfolding given
returns c =
    let m = rows_graph c.args.graph.now.count c.args.graph.now.rows in
    let p = searched (is_table m) (joined m) 0 in
    let tells = c.requires.surveyed.tells in
    let tables = c.all_tables.result in
    let rows = c.rows.result in
    let same : (x y : ℕ) → in_row rows x y ≡ joined m x y = λ x y. ap (λ l. in_row l x y) c.rows.ensures.is in
    let long = given_length p c.args.found.now tells (is_table m) (joined m) tables rows c.all_tables.ensures same in
    record {
      triangle = c.lay_list.ensures.triangle ∙ given_triangle p c.args.found.now tells (is_table m) (joined m) tables rows c.all_tables.ensures same;
      steps = c.lay_list.ensures.steps
          ∙ list_whole (all_notes_of c.args.found.now (part_in tables rows)) c.args.records.now (subst (λ k. k ≤ length c.args.records.now) (sym long) c.requires.room)
          ∙ ap₂ (λ (l : List Step) (k : ℕ). l ++ drop k c.args.records.now) (given_steps p c.args.found.now tells (is_table m) (joined m) tables rows c.all_tables.ensures same) long;
    }
