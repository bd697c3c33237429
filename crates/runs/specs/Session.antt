-- What a session means, and what a run leaves of it.
--
--   state_of m s laid told   what a run has come to: the graph m, the records of s, and how many of them are filled
--   began m s                the same before the first call
--   Left s z                 a session keeps its marks, and its lender finds what is left in its records
--   Ran cap m k s z          a run on the graph m, of capacity cap, with the session s: it leaves the graph k and the session z
--   Empty m                  the graph has no joins
--   run_of cap m k s z       what the run was lent and what it left, for the laws of runs
use Rattle.std.specs.Prelude.{◌≡◌, ℕ, map}
use Rattle.theory.specs.Graph.{Graph, table_count, no_joins}
use Rattle.trees.specs.Spanner.{tree_of}
use Rattle.ledger.specs.Run.{State, state_by, turns_by}
use Rattle.ledger.specs.RunLaw.{Run}
use Rattle.runs.specs.declared.session.Session.{Session}

abbrev pub state_of : Graph → Session → ℕ → ℕ → State
state_of m s laid told = record {
  graph = m;
  steps = s.steps.now;
  laid = laid;
  reports = s.reports.now;
  told = told;
  trees = map tree_of s.trees.now;
}

abbrev pub began : Graph → Session → State
began m s = state_of m s 0 0

-- the marks are only read; each slice of the session is still the one that its lender gave, so that the lender finds there what the session has
pub record Left (s z : Session) : Type 0 where
  pub marks : z.marks.now ≡ s.marks.now
  pub turns_lent : z.turns.ghost_name ≡ s.turns.ghost_name
  pub steps_lent : z.steps.ghost_name ≡ s.steps.ghost_name
  pub reports_lent : z.reports.ghost_name ≡ s.reports.ghost_name
  pub trees_lent : z.trees.ghost_name ≡ s.trees.ghost_name

pub record Ran (capacity : ℕ) (m k : Graph) (s z : Session) : Type 0 where
  pub answers : z.turns.now ≡ turns_by capacity s.marks.now (began m s) s.turns.now
  pub steps : z.steps.now ≡ (state_by capacity s.marks.now (began m s) s.turns.now).steps
  pub reports : z.reports.now ≡ (state_by capacity s.marks.now (began m s) s.turns.now).reports
  pub trees : map tree_of z.trees.now ≡ (state_by capacity s.marks.now (began m s) s.turns.now).trees
  pub meant : k ≡ (state_by capacity s.marks.now (began m s) s.turns.now).graph
  pub left : Left s z

abbrev pub Empty : Graph → Type 0
Empty m = m ≡ no_joins (table_count m)

abbrev pub run_of : ℕ → Graph → Graph → Session → Session → Run
run_of capacity m k s z = record {
  tables = table_count m;
  capacity = capacity;
  turns_before = s.turns.now;
  turns = z.turns.now;
  marks = s.marks.now;
  steps_before = s.steps.now;
  steps = z.steps.now;
  reports_before = s.reports.now;
  reports = z.reports.now;
  trees_before = map tree_of s.trees.now;
  trees = map tree_of z.trees.now;
  graph = k;
}
