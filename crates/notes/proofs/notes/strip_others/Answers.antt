use Rattle.std.proofs.Common.{◌≡◌, [], ◌∷◌, ◌++◌, sym, ap, ◌∙◌, append_assoc, subst}
use Rattle.std.proofs.lemmas.List.{append-nil}
use Rattle.theory.specs.declared.step.Step.{Step}
use Rattle.sets.specs.Set.{tables_of}
use Rattle.sets.specs.Rows.{in_row}
use Rattle.disassembly.specs.Disassembly.{edges}
use Rattle.notes.specs.Notes.{Without}
use Rattle.notes.proofs.Poured.{lays_as, lays_more}
use Rattle.notes.proofs.Strip.{without_more, edges_more}
use Rattle.notes.proofs.notes.strip_others.Goals as goal

pub loop-v-preserved : goal.loop-v-preserved
loop-v-preserved c =
    let u = c.args.u in
    let v = c.in-Some.v in
    let done = c.loop-v.yielded in
    let left = tables_of c.next.new.self.left in
    record {
      whole = append_assoc done (v ∷ []) left ∙ ap (λ l. done ++ l) (sym c.in-Some.ensures.steps) ∙ c.loop-v.invariant.whole;
      joins = without_more (in_row c.args.rows.now) (in_row c.loop-v.rows) _ u v done c.loop-v.invariant.joins c.remove.ensures;
      notes = lays_as c.args.notes.now c.lay.new.notes (edges u done ++ (c.edge.result ∷ [])) (edges u (done ++ (v ∷ [])))
          (ap (λ (x : Step). edges u done ++ (x ∷ [])) c.edge.ensures ∙ edges_more u v done)
          (lays_more c.args.notes.now c.loop-v.notes c.lay.new.notes (edges u done) (c.edge.result ∷ []) c.loop-v.invariant.notes c.lay.ensures);
    }

pub returns : goal.returns
returns c =
    let u = c.args.u in
    let done = c.loop-v.yielded in
    let all : done ≡ tables_of c.args.others =
    sym (append-nil done) ∙ ap (λ l. done ++ l) (sym c.in-None.ensures.steps.0) ∙ c.loop-v.invariant.whole in
    record {
      joins = subst (λ l. Without u l (in_row c.args.rows.now) (in_row c.loop-v.rows)) all c.loop-v.invariant.joins;
      notes = lays_as c.args.notes.now c.loop-v.notes (edges u done) (edges u (tables_of c.args.others)) (ap (edges u) all) c.loop-v.invariant.notes;
    }
