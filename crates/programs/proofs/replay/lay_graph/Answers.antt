use Rattle.std.proofs.Common.{◌≡◌, length, Ok, ap, ◌∙◌}
use Rattle.bits.proofs.Edits.{simple_of}
use Rattle.writer.specs.Laid.{laid}
use Rattle.programs.specs.Refusal.{refusal_shown}
use Rattle.bits.specs.Table.{graph_of}
use Rattle.programs.specs.Replay.{shown}
use Rattle.programs.proofs.Prints.{graph_count, graph_unfit, graph_kept}
use Rattle.programs.proofs.replay.lay_graph.Goals as goal

pub returns-in-Ok-clause-count : goal.returns-in-Ok-clause-count
returns-in-Ok-clause-count c = graph_count (graph_of c.args.graph.now) c.args.text.now c.in-Ok.n c.in-Ok.ensures.answer (simple_of c.args.graph.now)

pub returns-in-Err-clause-laid : goal.returns-in-Err-clause-laid
returns-in-Err-clause-laid c =
    let m = graph_of c.args.graph.now in
    let text = c.args.text.now in
    let out = c.write_graph.new.out in
    let did = c.in-Err.ensures in
    let kept : out ≡ text = graph_kept m text c.in-Err.fault did.answer out did.written in
    let same : refusal_shown (length out) c.from.result ≡ shown (length text) (Ok m) =
    ap (λ o. refusal_shown (length o) c.from.result) kept
    ∙ ap (λ f. refusal_shown (length text) f) c.from.ensures
    ∙ graph_unfit m text c.in-Err.fault did.answer (simple_of c.args.graph.now) in
    c.lay_refusal.ensures.laid ∙ ap (laid out 0) same ∙ ap (λ o. laid o 0 (shown (length text) (Ok m))) kept
