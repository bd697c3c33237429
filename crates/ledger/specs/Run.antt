-- A run: what each call answers, and what it leaves of the graph and of the records that are lent, for every graph to begin with. `RunLaw`
-- says in other words what this amounts to for a graph that begins without joins.
-- Of the calls, `Build k` is lent k records and `Drive j k` names the tree at place j and is lent k; `Fill j i k` names that tree, and k
-- marks from place i on. `Built from r` and `Driven from r` say where the list or the report is laid.
--
--   State                    what a run has come to: the graph; the step records, and how many of them lists fill; the report records, and
--                            how many of them reports fill; and what each tree means
--   lent_from from k l       the next k of the records l behind the first `from`, or those that are left
--   laid_from from k g l     the records l with the records g in the place of these
--   tree_at trees j          the tree at place j; past the end, the tree of one table
--   planted r t j trees      the trees with the tree t at place j, where a filling was accepted and there is such a place
--   neighbour_of m a b       the lowest neighbour of a, not below b, or none
--   given_steps r, given_reports n r   how many records a request that answers r fills
--   answer_to cap marks s c  what the call c answers
--   state_after cap marks s c   what it leaves
--   state_by cap marks s l   what the calls l leave, one after another
--   turns_by cap marks s l   the turns l, each with the answer of its call
use Rattle.std.specs.Prelude.{ℕ, ◌+◌, ◌-◌, List, [], ◌∷◌, ◌++◌, length, take, drop, slice_index_or, slice_set, map, Some, Option, Ok, Err, Result}
use Rattle.theory.specs.Graph.{Graph, joined, table_count, no_joins}
use Rattle.theory.specs.declared.mark.Mark.{Mark}
use Rattle.theory.specs.declared.step.Step.{Step}
use Rattle.disassembly.specs.Search.{lowest_from}
use Rattle.graph.specs.Store.{join_answer, unjoin_answer}
use Rattle.refusals.specs.declared.build.BuildFault.{BuildFault}
use Rattle.assembly.specs.Build.{build_answer, records_after}
use Rattle.assembly.specs.declared.build.Built.{Built}
use Rattle.reports.specs.declared.record.ReportRecord.{ReportRecord}
use Rattle.trees.specs.Tree.{marked, fill_answer}
use Rattle.trees.specs.declared.fault.TreeFault.{TreeFault}
use Rattle.driving.specs.Drive.{drive_judged, report_after}
use Rattle.driving.specs.declared.fault.DriveFault.{DriveFault}
use Rattle.ledger.specs.declared.call.Answer.{Answer}
use Rattle.ledger.specs.declared.call.Answer.TheVariants as answers
use Rattle.ledger.specs.declared.call.Call.{Call}
use Rattle.ledger.specs.declared.call.Call.TheVariants.{Join, Unjoin, Build, Drive, Fill, Tables, Joined, NextNeighbour, Capacity}
use Rattle.ledger.specs.declared.call.Turn.{Turn}
use Rattle.ledger.specs.Ledger.{ledger_step}

pub record State : Type 0 where
  pub graph : Graph
  pub steps : List Step
  pub laid : ℕ
  pub reports : List ReportRecord
  pub told : ℕ
  pub trees : List Graph

abbrev pub lent_from : {X : Type 0} → ℕ → ℕ → List X → List X
lent_from from k l = take k (drop from l)

abbrev pub laid_from : {X : Type 0} → ℕ → ℕ → List X → List X → List X
laid_from from k given l = take from l ++ (given ++ drop k (drop from l))

abbrev pub tree_at : List Graph → ℕ → Graph
tree_at trees j = slice_index_or trees j (no_joins 1)

abbrev pub planted : Result Unit TreeFault → Graph → ℕ → List Graph → List Graph
planted (Ok u) t j trees = slice_set trees j t
planted (Err f) t j trees = trees

abbrev pub neighbour_of : Graph → ℕ → ℕ → Option ℕ
neighbour_of m a b = lowest_from b (table_count m - b) (joined m a)

abbrev pub given_steps : Result Built BuildFault → ℕ
given_steps (Ok b) = b.steps
given_steps (Err f) = 0

abbrev pub given_reports : ℕ → Result Unit DriveFault → ℕ
given_reports n (Ok u) = n
given_reports n (Err f) = 0

-- ---- one call

abbrev pub built_to : State → ℕ → Result Built BuildFault
built_to s k = build_answer s.graph (length (lent_from s.laid k s.steps))

abbrev pub driven_to : State → ℕ → ℕ → Result Unit DriveFault
driven_to s j k = drive_judged s.graph (tree_at s.trees j) (length (lent_from s.told k s.reports))

abbrev pub filled_to : List Mark → State → ℕ → ℕ → Result Unit TreeFault
filled_to marks s i k = fill_answer s.graph (lent_from i k marks)

abbrev pub answer_to : ℕ → List Mark → State → Call → Answer
answer_to capacity marks s (Join a b) = answers.Edited (join_answer s.graph capacity a b)
answer_to capacity marks s (Unjoin a b) = answers.Edited (unjoin_answer s.graph a b)
answer_to capacity marks s (Build k) = answers.Built s.laid (built_to s k)
answer_to capacity marks s (Drive j k) = answers.Driven s.told (driven_to s j k)
answer_to capacity marks s (Fill j i k) = answers.Filled (filled_to marks s i k)
answer_to capacity marks s Tables = answers.Tables (table_count s.graph)
answer_to capacity marks s (Joined a b) = answers.Joined (joined s.graph a b)
answer_to capacity marks s (NextNeighbour a b) = answers.Neighbour (neighbour_of s.graph a b)
answer_to capacity marks s Capacity = answers.Capacity capacity

-- the list of the graph over the records lent, where one is given
abbrev pub built_after : State → ℕ → State
built_after s k = record {
  graph = s.graph;
  steps = laid_from s.laid k (records_after s.graph (lent_from s.laid k s.steps)) s.steps;
  laid = s.laid + given_steps (built_to s k);
  reports = s.reports;
  told = s.told;
  trees = s.trees;
}

abbrev pub driven_after : State → ℕ → ℕ → State
driven_after s j k = record {
  graph = s.graph;
  steps = s.steps;
  laid = s.laid;
  reports = laid_from s.told k (report_after (driven_to s j k) s.graph (tree_at s.trees j) (lent_from s.told k s.reports)) s.reports;
  told = s.told + given_reports (table_count s.graph) (driven_to s j k);
  trees = s.trees;
}

abbrev pub filled_after : List Mark → State → ℕ → ℕ → ℕ → State
filled_after marks s j i k = record {
  graph = s.graph;
  steps = s.steps;
  laid = s.laid;
  reports = s.reports;
  told = s.told;
  trees = planted (filled_to marks s i k) (marked (table_count s.graph) (lent_from i k marks)) j s.trees;
}

abbrev pub edited_after : State → Graph → State
edited_after s m = record { graph = m; steps = s.steps; laid = s.laid; reports = s.reports; told = s.told; trees = s.trees }

abbrev pub state_after : ℕ → List Mark → State → Call → State
state_after capacity marks s (Join a b) = edited_after s (ledger_step capacity s.graph (Join a b))
state_after capacity marks s (Unjoin a b) = edited_after s (ledger_step capacity s.graph (Unjoin a b))
state_after capacity marks s (Build k) = built_after s k
state_after capacity marks s (Drive j k) = driven_after s j k
state_after capacity marks s (Fill j i k) = filled_after marks s j i k
state_after capacity marks s Tables = s
state_after capacity marks s (Joined a b) = s
state_after capacity marks s (NextNeighbour a b) = s
state_after capacity marks s Capacity = s

-- ---- a list of calls

abbrev pub turn_by : ℕ → List Mark → State → Turn → Turn
turn_by capacity marks s t = record { call = t.call; answer = Some (answer_to capacity marks s t.call) }

unfoldable pub state_by : ℕ → List Mark → State → List Turn → State
state_by capacity marks s [] = s
state_by capacity marks s (t ∷ l) = state_by capacity marks (state_after capacity marks s t.call) l

unfoldable pub turns_by : ℕ → List Mark → State → List Turn → List Turn
turns_by capacity marks s [] = []
turns_by capacity marks s (t ∷ l) = turn_by capacity marks s t ∷ turns_by capacity marks (state_after capacity marks s t.call) l

abbrev pub calls_of : List Turn → List Call
calls_of l = map (λ t. t.call) l

-- before the first call no record is filled
abbrev pub state_at_first : Graph → List Step → List ReportRecord → List Graph → State
state_at_first m steps reports trees = record { graph = m; steps = steps; laid = 0; reports = reports; told = 0; trees = trees }
