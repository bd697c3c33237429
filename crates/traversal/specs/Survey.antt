-- What a survey of a graph says of it.
--
--   Tells p s       the survey s tells the place p where the search ended: parents, discovery numbers, the tables discovered
--                   earlier, and the order of leaving
--   SearchesAmong U J r s
--                   s tells the search of the tables U with the joins J from table r, the tables not reached, and no articulation
--                   tables
--   Searches m r s  the same of the graph m
--   SurveysAmong U J r s
--                   s is the survey of the tables U with the joins J from table r: it tells the search from r, the tables not
--                   reached, and, where all are reached, the articulation tables
--   Surveys m r s   s is the survey of the graph m from table r
use Rattle.std.specs.Prelude.{◌≡◌, ℕ, Bool, not, ◌&&◌, ◌≢◌}
use Rattle.theory.specs.Graph.{Graph, is_table, joined}
use Rattle.disassembly.specs.Search.{discovery, has, Place, searched}
use Rattle.disassembly.specs.Reach.{reached, separates}
use Rattle.disassembly.specs.Disassembly.{reversed}
use Rattle.sets.specs.Set.{bit}
use Rattle.traversal.specs.Discoveries.{parent_in, number_in, earlier_in}
use Rattle.traversal.specs.Standing.{before}
use Rattle.traversal.specs.Order.{tables_in}
use Rattle.traversal.specs.declared.survey.Survey.{Survey}

pub record Tells (p : Place) (s : Survey) : Type 0 where
  pub parents : (x : ℕ) → parent_in s.found x ≡ p.parent x
  pub numbers : (x : ℕ) → number_in s.found x ≡ discovery p.seen x
  -- the tables discovered before it
  pub earlier : (x y : ℕ) → bit (earlier_in s.found x) y ≡ has (before p.seen x) y
  pub left : (tables_in s.left) ≡ reversed p.left

pub record SearchesAmong (U : ℕ → Bool) (J : ℕ → ℕ → Bool) (r : ℕ) (s : Survey) : Type 0 where
  pub tells : Tells (searched U J r) s
  pub unreached : (x : ℕ) → bit s.unreached x ≡ (U x && not (reached U J r x))
  pub articulations : s.articulations ≡ 0

pub record SurveysAmong (U : ℕ → Bool) (J : ℕ → ℕ → Bool) (r : ℕ) (s : Survey) : Type 0 where
  pub tells : Tells (searched U J r) s
  pub unreached : (x : ℕ) → bit s.unreached x ≡ (U x && not (reached U J r x))
  pub articulations : s.unreached ≡ 0 → (x : ℕ) → bit s.articulations x ≡ separates U J x
  pub otherwise : (s.unreached ≢ 0) → s.articulations ≡ 0

abbrev pub Searches : Graph → ℕ → Survey → Type 0
Searches m r s = SearchesAmong (is_table m) (joined m) r s

abbrev pub Surveys : Graph → ℕ → Survey → Type 0
Surveys m r s = SurveysAmong (is_table m) (joined m) r s
