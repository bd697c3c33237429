-- The survey that the state at the end of a search tells.
--
--   whole_of                  no table to discover is left: the search discovered all
--   told, stands_so           what is told at the end is the search
--   surveyed                  and with the articulation tables the survey
--   may_survey, search_of     a graph may be searched by all its tables, and that is its search
--   whole_search              a search of a graph that discovered all tables
use Rattle.std.proofs.Common.{◌≡◌, ℕ, ◌<◌, Bool, true, false, not, ◌&&◌, ltb, List, sym, refl, ap, ◌∙◌, subst, arith}
use mathlib.Core.Path.{fun_ext}
use Rattle.std.proofs.lemmas.Bool.{lt-ltb}
use Rattle.std.proofs.lemmas.Bool.Decides.{nat_tests}
use Rattle.theory.specs.Graph.{Simple, is_table}
use Rattle.disassembly.specs.Search.{has, searched}
use Rattle.disassembly.specs.Walks.{SimpleOn}
use Rattle.disassembly.specs.Reach.{reached, separates}
use Rattle.disassembly.proofs.Keys.{graph_on}
use Rattle.sets.specs.Set.{bit}
use Rattle.bits.specs.Rows.{rows_graph}
use Rattle.sets.proofs.Bit.{zero_bit}
use Rattle.traversal.specs.Discoveries.{parent_in, number_in, earlier_in}
use Rattle.sets.specs.Rows.{in_row}
use Rattle.traversal.specs.Standing.{Stands}
use Rattle.traversal.specs.Folding.{Whole}
use Rattle.traversal.specs.Survey.{SearchesAmong, Searches, SurveysAmong}
use Rattle.traversal.specs.Order.{tables_in}
use Rattle.traversal.specs.declared.survey.Survey.{Survey}

reached_is : (U : ℕ → Bool) (J : ℕ → ℕ → Bool) (r x : ℕ) → reached U J r x ≡ has (searched U J r).seen x
unfolding reached
reached_is U J r x = refl

-- ---- the search of tables U with joins J from r

module _ (U : ℕ → Bool) (J : ℕ → ℕ → Bool) (r : ℕ) (s : Survey) (q : Stands U (searched U J r) s) where
  in_both : (u h b : Bool) → b ≡ (u && not h) → b ≡ false → u ≡ true → h ≡ true
  in_both u h b e f k = grind (arith, nat_tests)

  pub whole_of : SimpleOn U J → U r ≡ true → s.unreached ≡ 0 → Whole U J r s
  whole_of simple root none = record {
    simple = simple;
    root = root;
    stands = q;
    all = λ x u. in_both (U x) (has (searched U J r).seen x) (bit s.unreached x) (q.unreached x) (ap (λ v. bit v x) none ∙ zero_bit x) u;
  }

  pub told : s.articulations ≡ 0 → SearchesAmong U J r s
  told none = record {
    tells = record { parents = q.parents; numbers = q.numbers; earlier = q.earlier; left = q.left };
    unreached = λ x. q.unreached x ∙ ap (λ h. U x && not h) (sym (reached_is U J r x));
    articulations = none;
  }

module _ (U : ℕ → Bool) (J : ℕ → ℕ → Bool) (r : ℕ) (s : Survey) (q : SearchesAmong U J r s) where
  pub stands_so : Stands U (searched U J r) s
  stands_so = record {
    parents = q.tells.parents;
    numbers = q.tells.numbers;
    earlier = q.tells.earlier;
    left = q.tells.left;
    unreached = λ x. q.unreached x ∙ ap (λ h. U x && not h) (reached_is U J r x);
  }

  -- the same search, with the articulation tables or without
  pub surveyed : (t : Survey) → t.found ≡ s.found → (tables_in t.left) ≡ (tables_in s.left) → t.unreached ≡ s.unreached
      → (t.unreached ≡ 0 → (x : ℕ) → bit t.articulations x ≡ separates U J x) → ((t.unreached ≡ 0 → ⊥) → t.articulations ≡ 0) → SurveysAmong U J r t
  surveyed t found left unreached cuts none = record {
    tells = record {
      parents = λ x. ap (λ l. parent_in l x) found ∙ q.tells.parents x;
      numbers = λ x. ap (λ l. number_in l x) found ∙ q.tells.numbers x;
      earlier = λ x y. ap (λ l. bit (earlier_in l x) y) found ∙ q.tells.earlier x y;
      left = left ∙ q.tells.left;
    };
    unreached = λ x. ap (λ v. bit v x) unreached ∙ q.unreached x;
    articulations = cuts;
    otherwise = none;
  }

-- ---- a whole graph

-- a survey by the mask of all tables, over a copy of the rows
module _ (n : ℕ) (rows : List ℕ) (simple : Simple (rows_graph n rows)) (rows' : List ℕ) (same_rows : rows' ≡ rows) (tables : ℕ) (all : (x : ℕ) → bit tables x ≡ ltb x n) where
  as_tables : bit tables ≡ is_table (rows_graph n rows)
  as_tables = fun_ext all

  pub may_survey : (r : ℕ) → r < n → (bit tables r ≡ true) × SimpleOn (bit tables) (in_row rows')
  may_survey r low = (
    all r ∙ lt-ltb r n low,
    subst (λ (l : List ℕ). SimpleOn (bit tables) (in_row l)) (sym same_rows) (subst (λ (U : ℕ → Bool). SimpleOn U (in_row rows)) (sym as_tables) (graph_on (rows_graph n rows) simple)),
  )

  pub search_of : (r k : ℕ) (t : Survey) → r ≡ k → SearchesAmong (bit tables) (in_row rows') r t → Searches (rows_graph n rows) k t
  search_of r k t e q =
      let q₁ : SearchesAmong (bit tables) (in_row rows) r t = subst (λ (l : List ℕ). SearchesAmong (bit tables) (in_row l) r t) same_rows q in
      let q₂ : SearchesAmong (is_table (rows_graph n rows)) (in_row rows) r t = subst (λ (U : ℕ → Bool). SearchesAmong U (in_row rows) r t) as_tables q₁ in
      subst (λ j. SearchesAmong (is_table (rows_graph n rows)) (in_row rows) j t) e q₂

-- a search of the whole graph that discovered all tables
pub whole_search : (n : ℕ) (rows rows' : List ℕ) → Simple (rows_graph n rows) → rows' ≡ rows → (r : ℕ) → r < n → (s : Survey)
    → Searches (rows_graph n rows) r s → s.unreached ≡ 0 → Whole (is_table (rows_graph n rows)) (in_row rows') r s
whole_search n rows rows' simple same r low s q none =
    let U = is_table (rows_graph n rows) in
    subst (λ (l : List ℕ). Whole U (in_row l) r s) (sym same)
    (whole_of U (in_row rows) r s (stands_so U (in_row rows) r s q) (graph_on (rows_graph n rows) simple) (lt-ltb r n low) none)
