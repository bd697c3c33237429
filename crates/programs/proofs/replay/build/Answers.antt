use Rattle.std.proofs.Common.{Err, Result, sym, ap, ◌∙◌}
use Rattle.std.proofs.lemmas.Result.{err_from_is_err_and}
use Rattle.bits.specs.declared.table.BitTable.{BitTable}
use Rattle.outcomes.specs.declared.fault.ProgramFault.{ProgramFault}
use Rattle.programs.specs.Replay.{meant, left, list_played, replay_last}
use Rattle.programs.proofs.Told.{list_off, end_off, play_last, carried}
use Rattle.programs.proofs.replay.build.Goals as goal

pub returns-in_err-read-clause-answer : goal.returns-in_err-read-clause-answer
returns-in_err-read-clause-answer c =
    let text = c.args.text.now in
    let l = c.args.steps.now in
    let r = c.from_residual.result in
    let p = err_from_is_err_and r c.from_residual.ensures.1 in
    let e = c.in_err-read.field-0.0 in
    let bad = sym c.read_list.ensures.answer ∙ c.in_err-read.was in
    ap (λ (q : Result BitTable ProgramFault). meant q) (p.1 ∙ ap (λ f. Err f) p.2) ∙ sym (list_off text l e bad)

pub returns-in_err-check_end-clause-answer : goal.returns-in_err-check_end-clause-answer
returns-in_err-check_end-clause-answer c =
    let text = c.args.text.now in
    let l = c.args.steps.now in
    let r = c.from_residual-in_err-check_end.result in
    let p = err_from_is_err_and r c.from_residual-in_err-check_end.ensures.1 in
    let e = c.in_err-check_end.field-0.0 in
    let read = sym c.read_list.ensures.answer ∙ c.in_ok-read.was in
    let bad = sym c.check_end.ensures.answer ∙ c.in_err-check_end.was in
    ap (λ (q : Result BitTable ProgramFault). meant q) (p.1 ∙ ap (λ f. Err f) p.2) ∙ sym (end_off text l c.in_ok-read.read read e bad)

pub returns-in_err-graph-clause-answer : goal.returns-in_err-graph-clause-answer
returns-in_err-graph-clause-answer c =
    let text = c.args.text.now in
    let l = c.args.steps.now in
    let h = c.in_ok-read.read in
    let r = c.from_residual-in_err-graph.result in
    let p = err_from_is_err_and r c.from_residual-in_err-graph.ensures.1 in
    let f = c.in_err-graph.field-0.0 in
    let read = sym c.read_list.ensures.answer ∙ c.in_ok-read.was in
    let ended = sym c.check_end.ensures.answer ∙ c.in_ok-check_end.was in
    let answered = c.play.ensures.answer ∙ ap (λ x. left (list_played h x)) c.read_list.ensures.filled in
    carried c.play.result r f p.0 c.in_err-graph.was p.1 p.2
    ∙ ap replay_last answered
    ∙ sym (play_last text l h read c.in_ok-check_end.field-0 ended)

pub returns-clause-answer : goal.returns-clause-answer
returns-clause-answer c =
    let text = c.args.text.now in
    let l = c.args.steps.now in
    let h = c.in_ok-read.read in
    let read = sym c.read_list.ensures.answer ∙ c.in_ok-read.was in
    let ended = sym c.check_end.ensures.answer ∙ c.in_ok-check_end.was in
    let answered = c.in_ok-graph.ensures.answer ∙ ap (λ x. left (list_played h x)) c.read_list.ensures.filled in
    ap replay_last answered ∙ sym (play_last text l h read c.in_ok-check_end.field-0 ended)
