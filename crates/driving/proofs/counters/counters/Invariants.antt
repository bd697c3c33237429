-- The counters of the first tables are there; the others are 0.
use Rattle.std.proofs.Common.{◌≡◌, length}
use Rattle.driving.specs.Counters.{Counts}
use Rattle.driving.proofs.counters.counters.Given as goal

abbrev pub invariant-loop-s : goal.invariant-loop-s
invariant-loop-s l = record {
  long : length l.counters ≡ 64;
  told : Counts l.joins l.marks l.survey l.under l.s l.counters;
}
