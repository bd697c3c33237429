-- The build list given for a fit graph: it stands in the relation, and is a legal build.
--
--   ends_of        what the end of the function's search gives
--   given_builds   the list given is a legal build
--   stands         the list given is the disassembly of the graph
--   fit_builds     a fit graph has a legal build
use Rattle.std.proofs.Common.{◌≡◌, ℕ, Bool, true, refl}
use Rattle.disassembly.specs.Walks.{SimpleOn}
use Rattle.disassembly.specs.Search.{discovery, searched}
use Rattle.disassembly.specs.Disassembly.{remaining, all_notes, part_of, given, given_at, away_of}
use Rattle.disassembly.specs.Laws.{Fit, HasBuild, Stands, GivenBuilds}
use Rattle.disassembly.proofs.Searches.{searched_visit}
use Rattle.disassembly.proofs.Final.{Ends, ends}

abbrev pub ends_of : (U : ℕ → Bool) (J : ℕ → ℕ → Bool) (r : ℕ) → SimpleOn U J → U r ≡ true → Fit U J → Ends U J (searched U J r).parent r (searched U J r).seen (searched U J r).left
ends_of U J r s ur fit = ends U J (searched U J r).parent r (searched U J r).seen s ur fit (searched U J r).left (searched_visit U J r s ur)

pub given_builds : GivenBuilds
unfolding given given_at
given_builds U J r s ur fit = let e = ends_of U J r s ur fit in (e.ascending, e.builds)

pub stands : Stands
unfolding given given_at
stands U J r s ur fit =
    let e = ends_of U J r s ur fit in
    record {
      parent = (searched U J r).parent;
      seen = (searched U J r).seen;
      left = (searched U J r).left;
      away = away_of (searched U J r);
      last = e.last;
      notes = all_notes (searched U J r).parent (discovery (searched U J r).seen) (away_of (searched U J r)) (part_of U J);
      remains = remaining (searched U J r).parent (discovery (searched U J r).seen) (away_of (searched U J r)) (part_of U J);
      search = searched_visit U J r s ur;
      order = e.order;
      three = e.three;
      takes = e.takes;
      ascending = e.ascending;
      corner = e.corner;
      list = refl;
    }

pub fit_builds : (U : ℕ → Bool) (J : ℕ → ℕ → Bool) → SimpleOn U J → (r : ℕ) → U r ≡ true → Fit U J → HasBuild U J
fit_builds U J s r ur fit = let g = given_builds U J r s ur fit in ((given U J r).triangle, (given U J r).steps, g.0, g.1)
