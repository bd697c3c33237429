-- Each turn lays one more record.
use Rattle.std.proofs.Common.{◌≡◌, ◌<◌, length, get_or, take, refl, sym, ap, ◌∙◌, arith}
use Rattle.std.proofs.lemmas.List.{get_or-take, length-take-le}
use Rattle.driving.specs.Drive.{record_of}
use Rattle.driving.proofs.LaidRecords.{records_none, laid_more, kept_more}
use Rattle.driving.proofs.laying.lay.Goals as goal

pub loop-x-init : goal.loop-x-init
loop-x-init c = record { laid = sym (records_none (λ x. get_or c.args.counts.now x 0)); kept = refl }

pub loop-x-preserved : goal.loop-x-preserved
loop-x-preserved c =
    let counts = c.args.counts.now in
    let x = c.loop-x.x in
    let many : length (take c.args.tables counts) ≡ c.args.tables = length-take-le c.args.tables counts (omega (arith, c.requires.0)) in
    let low : x < c.args.tables = omega (arith, c.loop-x-test.true) in
    record {
      laid = laid_more (λ y. get_or counts y 0) c.loop-x.report x c.record.result (omega (arith, c.requires.1))
          (c.record.ensures ∙ ap record_of (get_or-take c.args.tables counts x 0 low)) c.loop-x.invariant.laid;
      kept = kept_more c.loop-x.report c.args.report.now x c.record.result c.loop-x.invariant.kept;
    }
