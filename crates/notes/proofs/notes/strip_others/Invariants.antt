-- The tables passed have lost their joins with u, which are noted; they and those left are all.
use Rattle.std.proofs.Common.{◌≡◌, ◌++◌}
use Rattle.sets.specs.Set.{tables_of}
use Rattle.sets.specs.Rows.{in_row}
use Rattle.disassembly.specs.Disassembly.{edges}
use Rattle.notes.specs.Notes.{Without, Lays}
use Rattle.notes.proofs.notes.strip_others.Given as goal

abbrev pub invariant-loop-v : goal.invariant-loop-v
invariant-loop-v l = record {
  whole : l.yielded ++ tables_of l.v-iterator.left ≡ tables_of l.fn.others;
  joins : Without l.u l.yielded (in_row l.initial.rows) (in_row l.rows);
  notes : Lays l.initial.notes l.notes (edges l.u l.yielded);
}
