-- With a table not reached there are no articulation tables to tell; else the search discovered all.
use Rattle.std.proofs.Common.{◌≡◌, ℕ, ◌-◌, min, Bool, true, false, eqb, List, sym, ◌∙◌, refl, subst, arith}
use Rattle.std.proofs.lemmas.Bool.{both_ways, eqb-true, eq-eqb}
use Rattle.theory.specs.Graph.{is_table, joined}
use Rattle.disassembly.specs.Reach.{separates}
use Rattle.sets.specs.Set.{bit}
use Rattle.sets.specs.Rows.{in_row}
use Rattle.bits.specs.Table.{graph_of}
use Rattle.bits.proofs.Edits.{simple_of}
use Rattle.traversal.proofs.Surveying.{whole_search, surveyed}
use Rattle.traversal.proofs.surveys.survey.Goals as goal

-- what it says of a set that it is empty
some_left : (m : ℕ) (b : Bool) → b ≡ false → b ≡ eqb m 0 → m ≡ 0 → ⊥
some_left m b f e z = both_ways (eqb m 0) (sym e ∙ f) (eq-eqb m 0 z)

none_left : (m : ℕ) (b : Bool) → b ≡ true → b ≡ eqb m 0 → m ≡ 0
none_left m b t e = eqb-true m 0 (sym e ∙ t)

pub returns-then-not-is_empty : goal.returns-then-not-is_empty
returns-then-not-is_empty c =
    let g = graph_of c.args.graph.now in
    let s = c.search-survey.result in
    surveyed (is_table g) (joined g) (min c.args.start (g.tables - 1)) s c.search-survey.ensures s refl refl refl
    (λ e. absurd (some_left s.unreached c.is_empty.result c.if-not-is_empty.true c.is_empty.ensures e)) (λ _. c.search-survey.ensures.articulations)

pub articulations-survey-requires : goal.articulations-survey-requires
articulations-survey-requires c =
    let g = c.args.graph.now in
    let m = graph_of g in
    let start = min c.args.start (m.tables - 1) in
    let simple = simple_of g in (
      is_table m,
      start,
      whole_search g.count g.rows c.rows.result simple c.rows.ensures.is start (let some = g.some in omega arith) c.search-survey.result c.search-survey.ensures
          (none_left c.search-survey.result.unreached c.is_empty.result c.if-not-is_empty.false c.is_empty.ensures),
    )

pub returns : goal.returns
returns c =
    let g = c.args.graph.now in
    let m = graph_of g in
    let start = min c.args.start (m.tables - 1) in
    let s = c.search-survey.result in
    let none = none_left s.unreached c.is_empty.result c.if-not-is_empty.false c.is_empty.ensures in
    let whole = whole_search g.count g.rows c.rows.result (simple_of g) c.rows.ensures.is start (let some = g.some in omega arith) s c.search-survey.ensures none in
    surveyed (is_table m) (joined m) start s c.search-survey.ensures _ refl refl refl
    (λ _. subst (λ (l : List ℕ). (x : ℕ) → bit c.articulations-survey.result x ≡ separates (is_table m) (in_row l) x) c.rows.ensures.is
    (c.articulations-survey.ensures (is_table m) start whole))
    (λ some. absurd (some none))
