-- The records of the first tables are there; the later ones are as they were.
use Rattle.std.proofs.Common.{◌≡◌, take, drop, get_or}
use Rattle.driving.specs.Drive.{records_from}
use Rattle.driving.proofs.laying.lay.Given as goal

abbrev pub invariant-loop-x : goal.invariant-loop-x
invariant-loop-x l = record {
  laid : take l.x l.report ≡ records_from (λ x. get_or l.fn.counts x 0) 0 l.x;
  kept : drop l.x l.report ≡ drop l.x l.fn.report;
}
