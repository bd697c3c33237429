use Rattle.std.proofs.Common.{◌≡◌, ◌-◌, length}
use Rattle.texts.specs.Reader.{past_lines}
use Rattle.texts.specs.ListRead.{steps_read}
use Rattle.texts.proofs.reader.Reader.steps.Given as goal

-- what is left to read gives the whole
abbrev pub invariant-loop-record : goal.invariant-loop-record
invariant-loop-record l =
    (l.self ≡ past_lines l.record-index l.initial.self)
    × (steps_read l.initial.self.text.now l.initial.self.at (length l.initial.records) 0 l.initial.records
    ≡ steps_read l.self.text.now l.self.at (length l.initial.records - l.record-index) l.record-index l.records)
