use Rattle.std.proofs.Common.{◌≡◌, take}
use Rattle.std.specs.List.{flat_map}
use Rattle.writer.specs.Laid.{laid}
use Rattle.texts.specs.ListText.{step_text}
use Rattle.texts.proofs.list_write.put_steps.Given as goal

-- the lines of the first i steps are laid
abbrev pub invariant-loop-i : goal.invariant-loop-i
invariant-loop-i l = l.out ≡ laid l.initial.out 34 (flat_map step_text (take l.i l.steps))
