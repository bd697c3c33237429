use Rattle.std.proofs.Common.{◌≡◌, ◌∙◌}
use Rattle.outcomes.specs.Fault.{fault_place}
use Rattle.programs.proofs.Prints.{refusal_lies}
use Rattle.programs.proofs.refusal.lay_refusal.Goals as goal

pub returns-clause-laid : goal.returns-clause-laid
returns-clause-laid c =
    let named : c.in-Ok.place ≡ fault_place c.args.fault = c.in-Ok.ensures.1 ∙ c.place.ensures in
    c.write_refusal.ensures.written ∙ refusal_lies c.args.fault c.args.text.now c.number.result c.from.result c.in-Ok.place c.number.ensures (c.from.ensures ∙ c.layer.ensures) named
