use Rattle.std.proofs.Common.{List, ◌++◌, length, take, drop, sym, ap, ◌∙◌, arith, rules}
use Rattle.theory.specs.Build.{Part}
use Rattle.theory.specs.declared.step.Step.{Step}
use Rattle.disassembly.specs.Disassembly.{reversed}
use Rattle.notes.specs.Notes.{part_in, remains_of, all_notes_of, poured}
use Rattle.notes.proofs.Laid.{list_is, corners_in}
use Rattle.notes.proofs.Reversed.{turned}
use Rattle.notes.proofs.notes.lay_list.Goals as goal

pub returns-clause-triangle : goal.returns-clause-triangle
returns-clause-triangle c =
    let part = part_in c.args.part.tables c.args.part.rows in
    c.corners.ensures ∙ corners_in c.take_all.new.self.tables (remains_of c.args.survey.now part).in_use (ap (λ (p : Part). p.in_use) c.take_all.ensures.part)

pub returns-clause-steps : goal.returns-clause-steps
returns-clause-steps c =
    let notes = all_notes_of c.args.survey.now (part_in c.args.part.tables c.args.part.rows) in
    let laid = c.take_all.ensures.notes in
    let lender = sym (laid.lender ∙ c.new-notes.ensures.lender) in
    list_is c.args.records.now c.take_all.new.notes.slots.now _ notes c.len-laid.result
    (laid.laid ∙ ap (λ s. poured s c.new-notes.result.len notes) c.new-notes.ensures.kept ∙ ap (λ k. poured c.args.records.now k notes) c.new-notes.ensures.empty)
    (omega (arith, c.len-laid.ensures, laid.height, c.new-notes.ensures.empty, ap length c.new-notes.ensures.kept))
    (turned _ c.reverse.new.self c.len-laid.result c.reverse.ensures.after
    ∙ ap (λ (s : List Step). reversed (take c.len-laid.result s) ++ drop c.len-laid.result s) (search (rules, lender)))
