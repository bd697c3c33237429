-- What a run amounts to on a graph that begins without joins, in words of the ledger, of taking graphs apart, of legal builds and of searches.
-- Counts and places begin at 0: turn i comes after i turns.
--
--   Run                    what a run was lent and what it left: the tables and the capacity, the marks, the graph that is left, and the turns,
--                          the step records, the report records and the trees before and after
--   ledger_at R i          the ledger before turn i: of the calls before it alone
--   edits_at R i           the edits that those of them gave rise to that were accepted
--   TurnAt R i c x         turn i is the call c, and is answered x
--   EditedAt R k a b       turn k was an accepted join or unjoin of the pair a, b
--   JoinedLast R i a b     before turn i the last accepted join or unjoin of the pair was a join
--   steps_filled l         how many step records the lists given at the turns l fill
--   reports_filled n l     how many report records the reports given at the turns l fill, of n tables each
--   steps_from R i, reports_from R i
--                          where the list and the report of turn i are laid: behind those before it
--   room from k l          how many records are lent: the next k of l behind the first `from`, or as many as are left
--   FilledAt R k j t       turn k was an accepted filling of the tree at place j, with the marks of t
--   NotFilled R h i j      no turn from h on, before turn i, was an accepted filling of the tree at place j
--   FilledLast R i j t     before turn i the last accepted filling of the tree at place j was with the marks of t
--   AsLent R i j t         before turn i no filling of it was accepted, and t is the tree lent there; or there is no such place, and t is the
--                          tree of one table
--   TreeAt R i j t         before turn i the tree at place j is t, by one of these two
--   BuildTold, DriveTold, FillTold, JoinedTold, NeighbourTold   what such a call answers, and what this tells of the ledger's graph
--   Foretold R i c x       the call c at turn i answers x
--   Foretells R            what is answered at every turn, that the graph that is left is the ledger's, and what is left of the records
--   ListAt R i t l         at turn i the list with triangle t and steps l was given, as the records have it at the end of the run
--   OneKeyBetween A B      a list of run A and a list of run B are equal exactly when at their two turns the last accepted join or unjoin of every
--                          pair was a join in both, or in neither
use Rattle.std.specs.Prelude.{◌≡◌, ℕ, ◌+◌, ◌-◌, ◌<◌, ◌≤◌, min, Bool, true, ◌⊎◌, ◌↔◌, List, [], ◌∷◌, length, take, drop, slice_get, Some, None, Option, Ok, Result}
use Rattle.theory.specs.Graph.{Graph, Next, joined, same_pair, no_joins}
use Rattle.theory.specs.declared.mark.Mark.{Mark}
use Rattle.theory.specs.declared.step.Step.{Step}
use Rattle.theory.specs.declared.step.Triangle.{Triangle}
use Rattle.graph.specs.Store.{join_answer, unjoin_answer}
use Rattle.refusals.specs.declared.build.BuildFault.{BuildFault}
use Rattle.assembly.specs.Build.{build_answer}
use Rattle.assembly.specs.BuildLaw.{ListGiven, LegalGiven, RefusedExactly, Named, PlaysBack}
use Rattle.assembly.specs.declared.build.Built.{Built}
use Rattle.reports.specs.declared.record.ReportRecord.{ReportRecord}
use Rattle.trees.specs.Tree.{marked, fill_answer, FillsExactly, FillRefused}
use Rattle.trees.specs.declared.fault.TreeFault.{TreeFault}
use Rattle.driving.specs.Drive.{drive_judged}
use Rattle.driving.specs.DriveLaw.{Reported, DriveNamed, AcceptedExactly}
use Rattle.driving.specs.declared.fault.DriveFault.{DriveFault}
use Rattle.ledger.specs.declared.call.Answer.{Answer}
use Rattle.ledger.specs.declared.call.Answer.TheVariants as answers
use Rattle.ledger.specs.declared.call.Call.{Call}
use Rattle.ledger.specs.declared.call.Call.TheVariants.{Join, Unjoin, Build, Drive, Fill, Tables, Joined, NextNeighbour, Capacity}
use Rattle.ledger.specs.declared.call.Turn.{Turn}
use Rattle.ledger.specs.Ledger.{ledger, Edit, edits, LastPut}
use Rattle.ledger.specs.Run.{lent_from, tree_at, given_steps, given_reports, calls_of}

pub record Run : Type 0 where
  pub tables : ℕ
  pub capacity : ℕ
  pub turns_before : List Turn
  pub turns : List Turn
  pub marks : List Mark
  pub steps_before : List Step
  pub steps : List Step
  pub reports_before : List ReportRecord
  pub reports : List ReportRecord
  pub trees_before : List Graph
  pub trees : List Graph
  pub graph : Graph

abbrev pub ledger_at : Run → ℕ → Graph
ledger_at R i = ledger R.capacity (no_joins R.tables) (take i (calls_of R.turns))

abbrev pub edits_at : Run → ℕ → List Edit
edits_at R i = edits R.capacity (no_joins R.tables) (take i (calls_of R.turns))

abbrev pub TurnAt : Run → ℕ → Call → Answer → Type 0
TurnAt R i c x = slice_get R.turns i ≡ Some (record { call = c; answer = Some x })

-- ---- the last accepted call on a pair

abbrev pub EditedAt : Run → ℕ → ℕ → ℕ → Type 0
EditedAt R k a b = (p q : ℕ) × (same_pair p q a b ≡ true)
    × (TurnAt R k (Join p q) (answers.Edited (Ok tt)) ⊎ TurnAt R k (Unjoin p q) (answers.Edited (Ok tt)))

pub record JoinedLast (R : Run) (i a b : ℕ) : Type 0 where
  pub turn : ℕ
  pub before : turn < i
  pub p : ℕ
  pub q : ℕ
  pub of_pair : same_pair p q a b ≡ true
  pub joins : TurnAt R turn (Join p q) (answers.Edited (Ok tt))
  pub none_later : (k : ℕ) → turn < k → k < i → EditedAt R k a b → ⊥

-- ---- where lists and reports lie

abbrev pub steps_of : Option Answer → ℕ
steps_of (Some (answers.Built from r)) = given_steps r
steps_of (Some (answers.Edited r)) = 0
steps_of (Some (answers.Driven from r)) = 0
steps_of (Some (answers.Filled r)) = 0
steps_of (Some (answers.Tables n)) = 0
steps_of (Some (answers.Joined e)) = 0
steps_of (Some (answers.Neighbour o)) = 0
steps_of (Some (answers.Capacity n)) = 0
steps_of None = 0

abbrev pub reports_of : ℕ → Option Answer → ℕ
reports_of n (Some (answers.Driven from r)) = given_reports n r
reports_of n (Some (answers.Edited r)) = 0
reports_of n (Some (answers.Built from r)) = 0
reports_of n (Some (answers.Filled r)) = 0
reports_of n (Some (answers.Tables k)) = 0
reports_of n (Some (answers.Joined e)) = 0
reports_of n (Some (answers.Neighbour o)) = 0
reports_of n (Some (answers.Capacity k)) = 0
reports_of n None = 0

unfoldable pub steps_filled : List Turn → ℕ
steps_filled [] = 0
steps_filled (t ∷ l) = steps_of t.answer + steps_filled l

unfoldable pub reports_filled : ℕ → List Turn → ℕ
reports_filled n [] = 0
reports_filled n (t ∷ l) = reports_of n t.answer + reports_filled n l

-- each list is laid behind those before it, and so is each report
abbrev pub steps_from : Run → ℕ → ℕ
steps_from R i = steps_filled (take i R.turns)

abbrev pub reports_from : Run → ℕ → ℕ
reports_from R i = reports_filled R.tables (take i R.turns)

abbrev pub room : {X : Type 0} → ℕ → ℕ → List X → ℕ
room from k l = min k (length l - from)

-- ---- which tree is named

pub record FilledAt (R : Run) (k j : ℕ) (t : Graph) : Type 0 where
  pub first : ℕ
  pub count : ℕ
  pub turn : TurnAt R k (Fill j first count) (answers.Filled (Ok tt))
  pub marks : t ≡ marked R.tables (lent_from first count R.marks)

abbrev pub NotFilled : Run → ℕ → ℕ → ℕ → Type 0
NotFilled R h i j = (k : ℕ) (t : Graph) → h ≤ k → k < i → FilledAt R k j t → ⊥

pub record FilledLast (R : Run) (i j : ℕ) (t : Graph) : Type 0 where
  pub place : j < length R.trees_before
  pub turn : ℕ
  pub before : turn < i
  pub filled : FilledAt R turn j t
  pub none_later : NotFilled R (turn + 1) i j

-- it is the tree lent where the place is past the end, or no filling of it was accepted
pub record AsLent (R : Run) (i j : ℕ) (t : Graph) : Type 0 where
  pub none : j < length R.trees_before → NotFilled R 0 i j
  pub lent : t ≡ tree_at R.trees_before j

abbrev pub TreeAt : Run → ℕ → ℕ → Graph → Type 0
TreeAt R i j t = FilledLast R i j t ⊎ AsLent R i j t

-- ---- what the calls answer

-- m is the ledger's graph, `lent` the number of records lent, and l the records from where the list is laid, at the end of the run
pub record BuildTold (m : Graph) (from lent : ℕ) (l : List Step) (x : Answer) : Type 0 where
  pub outcome : Result Built BuildFault
  pub answered : x ≡ answers.Built from outcome
  -- which refusal, in which order of checking, or the list
  pub judged : outcome ≡ build_answer m lent
  -- the list is the one that taking the graph apart yields, and no other is
  pub listed : ListGiven m outcome l
  -- it is a legal build of the graph
  pub legal : LegalGiven m outcome l
  -- 6, 7 or 8 is told exactly when the graph has no legal build at all
  pub refused : RefusedExactly m outcome
  pub named : Named m lent outcome
  pub plays : PlaysBack m outcome l

-- t is the tree that is named
pub record DriveTold (m t : Graph) (from lent : ℕ) (l : List ReportRecord) (x : Answer) : Type 0 where
  pub outcome : Result Unit DriveFault
  pub answered : x ≡ answers.Driven from outcome
  pub judged : outcome ≡ drive_judged m t lent
  -- each table's cross count, and that it drives exactly when some depth-first search begun there walks precisely the marks
  pub reported : Reported m t outcome l
  pub named : DriveNamed m t lent outcome
  pub exactly : AcceptedExactly m t lent outcome

pub record FillTold (m : Graph) (l : List Mark) (x : Answer) : Type 0 where
  pub outcome : Result Unit TreeFault
  pub answered : x ≡ answers.Filled outcome
  pub judged : outcome ≡ fill_answer m l
  -- accepted exactly when the marks make a spanning tree of the graph
  pub exactly : FillsExactly m l outcome
  pub refused : FillRefused m l outcome

-- joined exactly when the last accepted call on the pair was a join
pub record JoinedTold (R : Run) (i a b : ℕ) (x : Answer) : Type 0 where
  pub tells : Bool
  pub answered : x ≡ answers.Joined tells
  pub last : (tells ≡ true) ↔ JoinedLast R i a b

pub record NeighbourTold (m : Graph) (a b : ℕ) (x : Answer) : Type 0 where
  pub tells : Option ℕ
  pub answered : x ≡ answers.Neighbour tells
  pub next : Next (joined m a) b tells

abbrev pub Foretold : Run → ℕ → Call → Answer → Type 0
Foretold R i (Join a b) x = x ≡ answers.Edited (join_answer (ledger_at R i) R.capacity a b)
Foretold R i (Unjoin a b) x = x ≡ answers.Edited (unjoin_answer (ledger_at R i) a b)
Foretold R i (Build k) x = BuildTold (ledger_at R i) (steps_from R i) (room (steps_from R i) k R.steps) (drop (steps_from R i) R.steps) x
Foretold R i (Drive j k) x = (t : Graph) × TreeAt R i j t
    × DriveTold (ledger_at R i) t (reports_from R i) (room (reports_from R i) k R.reports) (drop (reports_from R i) R.reports) x
Foretold R i (Fill j first count) x = FillTold (ledger_at R i) (lent_from first count R.marks) x
Foretold R i Tables x = x ≡ answers.Tables R.tables
Foretold R i (Joined a b) x = JoinedTold R i a b x
Foretold R i (NextNeighbour a b) x = NeighbourTold (ledger_at R i) a b x
Foretold R i Capacity x = x ≡ answers.Capacity R.capacity

pub record Foretells (R : Run) : Type 0 where
  -- every graph has 1 to 64 tables
  pub some : 1 ≤ R.tables
  pub few : R.tables ≤ 64
  -- the calls stay, and each is answered
  pub calls : calls_of R.turns ≡ calls_of R.turns_before
  pub answered : (i : ℕ) (t : Turn) → slice_get R.turns i ≡ Some t → (x : Answer) × (t.answer ≡ Some x) × Foretold R i t.call x
  -- the last accepted call on a pair was a join in the run exactly when it was in the ledger, which sees no answer of it
  pub last : (i : ℕ) → i ≤ length R.turns → (a b : ℕ) → LastPut (edits_at R i) a b ↔ JoinedLast R i a b
  -- so before each turn the ledger's pairs are exactly those whose last accepted call was a join
  pub ledger_pairs : (i : ℕ) → i ≤ length R.turns → (a b : ℕ) → (joined (ledger_at R i) a b ≡ true) ↔ JoinedLast R i a b
  -- the graph is the ledger's at the end, and so are its pairs
  pub meant : R.graph ≡ ledger R.capacity (no_joins R.tables) (calls_of R.turns)
  pub pairs : (a b : ℕ) → (joined R.graph a b ≡ true) ↔ JoinedLast R (length R.turns) a b
  -- records that no list and no report was laid into are left alone
  pub as_many_steps : length R.steps ≡ length R.steps_before
  pub steps_kept : drop (steps_filled R.turns) R.steps ≡ drop (steps_filled R.turns) R.steps_before
  pub as_many_reports : length R.reports ≡ length R.reports_before
  pub reports_kept : drop (reports_filled R.tables R.turns) R.reports ≡ drop (reports_filled R.tables R.turns) R.reports_before
  -- each tree is the last accepted filling's, or is left alone
  pub as_many_trees : length R.trees ≡ length R.trees_before
  pub trees_left : (j : ℕ) → j < length R.trees → TreeAt R (length R.turns) j (tree_at R.trees j)

-- ---- the lists as keys

pub record ListAt (R : Run) (i : ℕ) (t : Triangle) (l : List Step) : Type 0 where
  pub records : ℕ
  pub from : ℕ
  pub built : Built
  pub turn : TurnAt R i (Build records) (answers.Built from (Ok built))
  pub corners : t ≡ built.triangle
  pub steps : l ≡ take built.steps (drop from R.steps)

pub record OneKeyBetween (A B : Run) : Type 0 where
  pub equal_exactly : (i j : ℕ) (t s : Triangle) (l k : List Step) → ListAt A i t l → ListAt B j s k
      → ((t ≡ s) × (l ≡ k)) ↔ ((a b : ℕ) → JoinedLast A i a b ↔ JoinedLast B j a b)
