-- What is left to take away gives the whole.
use Rattle.std.proofs.Common.{◌≡◌, drop}
use Rattle.disassembly.specs.Disassembly.{remaining, all_notes}
use Rattle.traversal.specs.Discoveries.{parent_in, number_in}
use Rattle.notes.specs.Notes.{part_in}
use Rattle.notes.proofs.Poured.{LaidSoFar}
use Rattle.notes.proofs.notes.Part.take_all.Given as goal

abbrev pub invariant-loop-u : goal.invariant-loop-u
invariant-loop-u l = record {
  part : remaining (parent_in l.survey.found) (number_in l.survey.found) (drop l.u-index l.u-items) (part_in l.self.tables l.self.rows)
      ≡ remaining (parent_in l.survey.found) (number_in l.survey.found) l.u-items (part_in l.initial.self.tables l.initial.self.rows);
  notes : LaidSoFar l.initial.notes l.notes (all_notes (parent_in l.survey.found) (number_in l.survey.found) (drop l.u-index l.u-items) (part_in l.self.tables l.self.rows))
      (all_notes (parent_in l.survey.found) (number_in l.survey.found) l.u-items (part_in l.initial.self.tables l.initial.self.rows));
}
