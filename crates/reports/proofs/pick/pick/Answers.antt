-- What the chain makes of the driving tables is the pick, and nothing else is.
use Rattle.std.proofs.Common.{◌≡◌, slice_index_or, refl, sym, subst, rules}
use borrow.Author.Tests.{tests}
use Rattle.std.proofs.lemmas.Iterator.{YieldsList-from_range}
use Rattle.std.proofs.lemmas.Iterator.Consumers.{YieldsList-from_filter}
use Rattle.catalogue.specs.Records.{records_of}
use Rattle.reports.specs.Pick.{silent, better, picked, Picks}
use Rattle.reports.proofs.Best.{picks_found, picks_one}
use Rattle.reports.proofs.Reduces.{reduced}
use Rattle.reports.proofs.pick.pick.Goals as goal

pub returns : goal.returns
returns c =
    let l = c.args.report.now in
    let rows = records_of c.args.rows.now in
    let answer : c.reduce.result ≡ picked l rows =
    reduced _ (better rows) _ (λ a x b q k. search rules) _ c.filter.result c.reduce.result c.reduce.ensures.ran
    (YieldsList-from_filter _ (λ x. (slice_index_or l x silent).drives) (YieldsList-from_range 0 64 64 c.filter.ensures.source refl) c.filter.ensures.closure (λ x r q k. search (rules, tests)))
    in
    let picks : Picks l rows c.reduce.result = subst (Picks l rows) (sym answer) (picks_found l rows) in
    record { answer = answer; picks = picks; only = λ o k. picks_one l rows o c.reduce.result k picks }
