-- The laws of runs, of what a run leaves.
--
--   left_on      what a session keeps, call after call
--   foretold     a run on a graph without joins answers and leaves what the ledger foretells
--   keys         its lists and those of any such run are equal exactly when their ledgers agree
use Rattle.std.proofs.Common.{◌≡◌, ℕ, zero, suc, List, [], ◌∷◌, map, sym, ap, ◌∙◌, subst, arith}
use Rattle.theory.specs.Graph.{Graph, Simple, table_count, no_joins}
use Rattle.theory.proofs.Sizes.{no_joins_size}
use Rattle.spanning.specs.Spanning.{Spanning}
use Rattle.spanning.proofs.Enough.{forest_spanning}
use Rattle.spanning.proofs.Forests.{forest_start}
use Rattle.trees.specs.Spanner.{tree_of}
use Rattle.trees.specs.declared.tree.SpanningTree.{SpanningTree}
use Rattle.trees.proofs.Spans.{tree_spans}
use Rattle.ledger.specs.Run.{State, tree_at, state_by, turns_by, state_at_first}
use Rattle.ledger.specs.RunLaw.{Run, Foretells, OneKeyBetween}
use Rattle.ledger.proofs.Foretelling.{recorded, foretells}
use Rattle.ledger.proofs.OneList.{one_key}
use Rattle.runs.specs.Session.{began, Left, Ran, Empty, run_of}
use Rattle.runs.specs.declared.session.Session.{Session}

pub left_on : (s z w : Session) → Left s z → Left z w → Left s w
left_on s z w h k = record {
  marks = k.marks ∙ h.marks;
  turns_lent = k.turns_lent ∙ h.turns_lent;
  steps_lent = k.steps_lent ∙ h.steps_lent;
  reports_lent = k.reports_lent ∙ h.reports_lent;
  trees_lent = k.trees_lent ∙ h.trees_lent;
}

-- the tree of one table
one_table : Spanning (no_joins 1)
one_table = forest_spanning (no_joins 1) (forest_start 1 (omega arith) (omega arith)) (omega (arith, no_joins_size 1))

all_span : (trees : List SpanningTree) (j : ℕ) → Spanning (tree_at (map tree_of trees) j)
all_span [] j = one_table
all_span (t ∷ l) zero = tree_spans t
all_span (t ∷ l) (suc j) = all_span l j

module _ (capacity : ℕ) (m k : Graph) (s z : Session) (simple : Simple m) (empty : Empty m) (ran : Ran capacity m k s z) where
  abbrev first : State
  first = state_at_first (no_joins (table_count m)) s.steps.now s.reports.now (map tree_of s.trees.now)

  abbrev last : State
  last = state_by capacity s.marks.now first s.turns.now

  same_last : state_by capacity s.marks.now (began m s) s.turns.now ≡ last
  same_last = ap (λ x. state_by capacity s.marks.now (began x s) s.turns.now) empty

  same_turns : turns_by capacity s.marks.now (began m s) s.turns.now ≡ turns_by capacity s.marks.now first s.turns.now
  same_turns = ap (λ x. turns_by capacity s.marks.now (began x s) s.turns.now) empty

  abbrev foreseen : Run
  foreseen = recorded (table_count m) capacity simple.some simple.few s.marks.now s.steps.now s.reports.now (map tree_of s.trees.now) (all_span s.trees.now) s.turns.now

  same_run : run_of capacity m k s z ≡ foreseen
  same_run = λ i. record {
    tables = table_count m;
    capacity = capacity;
    turns_before = s.turns.now;
    turns = (ran.answers ∙ same_turns) i;
    marks = s.marks.now;
    steps_before = s.steps.now;
    steps = (ran.steps ∙ ap (λ (x : State). x.steps) same_last) i;
    reports_before = s.reports.now;
    reports = (ran.reports ∙ ap (λ (x : State). x.reports) same_last) i;
    trees_before = map tree_of s.trees.now;
    trees = (ran.trees ∙ ap (λ (x : State). x.trees) same_last) i;
    graph = (ran.meant ∙ ap (λ (x : State). x.graph) same_last) i;
  }

  pub foretold : Foretells (run_of capacity m k s z)
  foretold = subst (λ R. Foretells R) (sym same_run)
      (foretells (table_count m) capacity simple.some simple.few s.marks.now s.steps.now s.reports.now (map tree_of s.trees.now) (all_span s.trees.now) s.turns.now)

  pub keys : (B : Run) → Foretells B → OneKeyBetween (run_of capacity m k s z) B
  keys B f = one_key (run_of capacity m k s z) B foretold f
