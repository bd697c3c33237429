-- The nearest of the tables looked at and those left is the nearest of all.
use Rattle.std.proofs.Common.{◌≡◌, ◌<◌}
use Rattle.disassembly.specs.Disassembly.{nearest}
use Rattle.traversal.specs.Discoveries.{number_in}
use Rattle.sets.specs.Set.{tables_of}
use Rattle.notes.proofs.notes.nearest.Given as goal

abbrev pub invariant-loop-x : goal.invariant-loop-x
invariant-loop-x l = record {
  nearest_left : nearest (number_in l.found) l.best (tables_of l.x-iterator.left) ≡ nearest (number_in l.found) l.parent (tables_of l.fn.row);
  within : l.best < 64;
  lowest : l.low ≡ number_in l.found l.best;
}
