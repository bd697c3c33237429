-- The line of a refusal, as it is laid over a text.
--
--   refusal_shown b f   the line of the refusal f in b bytes: nothing where it has no room, or where its place is over 99,999
use Rattle.std.specs.Prelude.{ℕ, cond, ◌||◌, List, [], nat_lt}
use Rattle.lines.specs.Text.{line_text}
use Rattle.prints.specs.Refusal.{refusal_line}
use Rattle.texts.specs.ListWrite.{over}
use Rattle.outcomes.specs.Fault.{fault_number, fault_layer, fault_place}
use Rattle.outcomes.specs.declared.fault.ProgramFault.{ProgramFault}

abbrev pub refusal_shown : ℕ → ProgramFault → List ℕ
refusal_shown b f = cond (over (fault_place f) || nat_lt b 17) [] (line_text (refusal_line (fault_number f) (fault_layer f) (fault_place f)))
