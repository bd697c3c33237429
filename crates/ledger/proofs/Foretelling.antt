-- The laws of a run on a graph that begins without joins.
--
--   built_told, driven_told   what a build request and a driving request tell, by the records at the end of the run
--   recorded                  the run, as it is foreseen
--   foretells                 all of what a run answers and leaves
use Rattle.std.proofs.Common.{◌≡◌, ℕ, zero, suc, ◌+◌, ◌-◌, ◌<◌, ◌≤◌, min, true, ◌↔◌, List, length, take, drop, get_or, set, slice_get, Some, None, Ok, Err, Result, sym, refl, ap, ◌∙◌, subst, ⊎_elim, zero-add, arith}
use Rattle.std.proofs.lemmas.Bool.{cases_eq, cases_lt}
use Rattle.std.proofs.lemmas.List.{take-map, take_all, get_or-set_same, get_or-set_other, set_past}
use Rattle.std.proofs.lemmas.Option.{slice_get_within, slice_get_cases}
use Rattle.theory.specs.Graph.{Graph, Simple, joined, is_table, table_count, size, no_joins}
use Rattle.theory.specs.Build.{LegalBuild}
use Rattle.theory.specs.declared.mark.Mark.{Mark}
use Rattle.theory.specs.declared.step.Step.{Step}
use Rattle.theory.specs.declared.step.Triangle.{Triangle}
use Rattle.theory.proofs.Sizes.{no_joins_simple}
use Rattle.disassembly.specs.Disassembly.{Disassembly}
use Rattle.construction.specs.Replay.{replayed}
use Rattle.spanning.specs.Spanning.{Spanning}
use Rattle.spanning.specs.Driving.{Drives}
use Rattle.graph.specs.Store.{join_answer, unjoin_answer}
use Rattle.refusals.specs.declared.build.BuildFault.{BuildFault}
use Rattle.assembly.specs.Build.{build_answer, records_after}
use Rattle.assembly.specs.BuildLaw.{Named}
use Rattle.assembly.specs.declared.build.Built.{Built}
use Rattle.assembly.proofs.Laws.{list_given, legal_given, refused_exactly, named, plays_back}
use Rattle.reports.specs.declared.record.ReportRecord.{ReportRecord}
use Rattle.reports.specs.Pick.{silent}
use Rattle.trees.specs.Tree.{marked}
use Rattle.trees.proofs.Fills.{fills_exactly, fill_refused}
use Rattle.trees.specs.declared.fault.TreeFault.{TreeFault}
use Rattle.driving.proofs.Named as reports
use Rattle.driving.specs.Drive.{drive_judged, report_after}
use Rattle.driving.specs.DriveLaw.{RecordTells, Reported, DriveNamed, AcceptedExactly}
use Rattle.ledger.specs.declared.call.Answer.{Answer}
use Rattle.ledger.specs.declared.call.Answer.TheVariants as answers
use Rattle.ledger.specs.declared.call.Call.{Call}
use Rattle.ledger.specs.declared.call.Call.TheVariants.{Join, Unjoin, Build, Drive, Fill, Tables, Joined, NextNeighbour, Capacity}
use Rattle.ledger.specs.declared.call.Turn.{Turn}
use Rattle.ledger.specs.Ledger.{ledger_step, ledger, LastPut}
use Rattle.ledger.specs.Run.{State, lent_from, laid_from, tree_at, planted, neighbour_of, given_steps, given_reports, built_to, driven_to, filled_to, answer_to, state_after, state_by, turns_by, calls_of, state_at_first}
use Rattle.ledger.specs.RunLaw.{Run, ledger_at, edits_at, TurnAt, JoinedLast, steps_filled, reports_filled, steps_from, reports_from, room, TreeAt, BuildTold, DriveTold, FillTold, NeighbourTold, Foretold, Foretells}
use Rattle.ledger.proofs.Keeping.{ledger_keeps}
use Rattle.ledger.proofs.Grown.{length_lent, laid_there, read_there}
use Rattle.ledger.proofs.Requests.{build_filling, drive_filling, neighbour_told}
use Rattle.ledger.proofs.Turning.{turn_there, turn_here, take_turns, calls_stay, as_many, split_at, next_at, step_graph, graph_is, laid_is, told_is, Well, well_by, Onward, onward_by}
use Rattle.ledger.proofs.LastJoin.{Answered, tells_on, tells_first}
use Rattle.ledger.proofs.Named.{stays_named, past_end, named_now, named_first}

-- ---- a build request, and what becomes of its list

module _ (s : State) (simple : Simple s.graph) (inside : s.laid ≤ length s.steps) (k : ℕ) (end : List Step) (long : length end ≡ length s.steps)
    (front : take (s.laid + given_steps (built_to s k)) end
    ≡ take (s.laid + given_steps (built_to s k)) (laid_from s.laid k (records_after s.graph (lent_from s.laid k s.steps)) s.steps)) where
  abbrev lent : List Step
  lent = lent_from s.laid k s.steps

  abbrev told : Result Built BuildFault
  told = build_answer s.graph (length lent)

  same_room : length lent ≡ room s.laid k end
  same_room = length_lent s.laid k s.steps ∙ ap (λ n. min k (n - s.laid)) (sym long)

  -- the list stays where it was laid
  kept : (b : Built) → told ≡ Ok b → take b.steps (records_after s.graph lent) ≡ take b.steps (drop s.laid end)
  kept b e = let g : given_steps told ≡ b.steps = ap given_steps e in
      ap (λ n. take n (records_after s.graph lent)) (sym g)
      ∙ sym (laid_there s.laid k s.steps (records_after s.graph lent) inside (given_steps told) end (build_filling s.graph simple lent).few front)
      ∙ ap (λ n. take n (drop s.laid end)) g

  abbrev Listed : Built → List Step → Type 0
  Listed b l = Disassembly (is_table s.graph) (joined s.graph) 0 b.triangle l
      × ((t : Triangle) (n : List Step) → Disassembly (is_table s.graph) (joined s.graph) 0 t n → (t ≡ b.triangle) × (n ≡ l))

  abbrev Legal : Built → List Step → Type 0
  Legal b l = LegalBuild s.graph b.triangle l × (length l ≡ b.steps) × (b.steps + 3 ≡ size s.graph)

  abbrev Plays : Built → List Step → Type 0
  Plays b l = (capacity : ℕ) → size s.graph ≤ capacity
      → ((replayed capacity (no_joins (table_count s.graph)) b.triangle l).told ≡ Ok tt)
      × ((replayed capacity (no_joins (table_count s.graph)) b.triangle l).graph ≡ s.graph)

  pub built_told : BuildTold s.graph s.laid (room s.laid k end) (drop s.laid end) (answers.Built s.laid told)
  built_told = record {
    outcome = told;
    answered = refl;
    judged = ap (build_answer s.graph) same_room;
    listed = λ b e. subst (Listed b) (kept b e) (list_given s.graph simple lent b e);
    legal = λ b e. subst (Legal b) (kept b e) (legal_given s.graph simple lent b e);
    refused = refused_exactly s.graph simple lent;
    named = subst (λ n. Named s.graph n told) same_room (named s.graph simple lent);
    plays = λ b e. subst (Plays b) (kept b e) (plays_back s.graph simple lent b e);
  }

-- ---- a driving request, and what becomes of its report

module _ (s : State) (simple : Simple s.graph) (j : ℕ) (spans : Spanning (tree_at s.trees j)) (inside : s.told ≤ length s.reports) (k : ℕ)
    (end : List ReportRecord) (long : length end ≡ length s.reports)
    (front : take (s.told + given_reports (table_count s.graph) (driven_to s j k)) end
    ≡ take (s.told + given_reports (table_count s.graph) (driven_to s j k))
    (laid_from s.told k (report_after (driven_to s j k) s.graph (tree_at s.trees j) (lent_from s.told k s.reports)) s.reports)) where
  abbrev tree : Graph
  tree = tree_at s.trees j

  abbrev for_report : List ReportRecord
  for_report = lent_from s.told k s.reports

  same_records : length for_report ≡ room s.told k end
  same_records = length_lent s.told k s.reports ∙ ap (λ n. min k (n - s.told)) (sym long)

  -- the report stays where it was laid
  reported : Reported s.graph tree (driven_to s j k) (drop s.told end)
  reported e x h =
      let r = driven_to s j k in
      let given = report_after r s.graph tree for_report in
      let g : given_reports (table_count s.graph) r ≡ table_count s.graph = ap (given_reports (table_count s.graph)) e in
      let same : get_or (drop s.told end) x silent ≡ get_or given x silent
      = read_there s.told k s.reports given inside (given_reports (table_count s.graph) r) x end silent (subst (λ n. x < n) (sym g) h)
      (drive_filling s.graph tree for_report).few front in
      let tells : RecordTells s.graph tree x given = reports.reported s.graph tree r (reports.marks_of_tree s.graph tree simple spans (length for_report)) for_report e x h in
      record {
        count = ap (λ (z : ReportRecord). z.cross) same ∙ tells.count;
        counts = tells.counts;
        drives = subst (λ (z : ReportRecord). (z.drives ≡ true) ↔ Drives s.graph tree x) (sym same) tells.drives;
        zero = tells.zero;
      }

  pub driven_told : DriveTold s.graph tree s.told (room s.told k end) (drop s.told end) (answers.Driven s.told (driven_to s j k))
  driven_told = record {
    outcome = driven_to s j k;
    answered = refl;
    judged = ap (drive_judged s.graph tree) same_records;
    reported = reported;
    named = subst (λ n. DriveNamed s.graph tree n (driven_to s j k)) same_records (reports.named s.graph tree simple spans (length for_report));
    exactly = subst (λ n. AcceptedExactly s.graph tree n (driven_to s j k)) same_records (reports.exactly s.graph tree simple spans (length for_report));
  }

-- ---- the tree that is named, one turn on

module _ (R : Run) (i j : ℕ) (trees : List Graph) (long : length trees ≡ length R.trees_before) where
  filled_named : (at first count : ℕ) (r : Result Unit TreeFault) (new : Graph) → TurnAt R i (Fill at first count) (answers.Filled r)
      → new ≡ marked R.tables (lent_from first count R.marks) → TreeAt R i j (tree_at trees j) → TreeAt R (i + 1) j (tree_at (planted r new at trees) j)
  filled_named at first count (Ok tt) new turn is h = ⊎_elim
      (λ (e : at ≡ j). ⊎_elim
      (λ (l : j < length trees). subst (λ t. TreeAt R (i + 1) j t)
      (sym (ap (λ z. tree_at (set trees z new) j) e ∙ get_or-set_same trees j new (no_joins 1) l ∙ is))
      (named_now R i j first count (subst (λ n. j < n) long l) (subst (λ z. TurnAt R i (Fill z first count) (answers.Filled (Ok tt))) e turn)))
      (λ (l : length trees ≤ j). subst (λ x. TreeAt R (i + 1) j (tree_at x j)) (sym (ap (λ z. set trees z new) e ∙ set_past trees j new l))
      (past_end R i j (Fill at first count) (answers.Filled (Ok tt)) turn (tree_at trees j) (subst (λ n. n ≤ j) long l) h))
      (cases_lt j (length trees)))
      (λ (ne : at ≡ j → ⊥). subst (λ t. TreeAt R (i + 1) j t) (sym (get_or-set_other trees at j new (no_joins 1) (λ q. ne (sym q))))
      (stays_named R i j (Fill at first count) (answers.Filled (Ok tt)) turn (tree_at trees j) (λ q. ne (place q.0 q.1 q.2)) h))
      (cases_eq at j)
    where
      place : (f c : ℕ) → Fill at first count ≡ Fill j f c → at ≡ j
      place f c e = cc
  filled_named at first count (Err f) new turn is h =
      stays_named R i j (Fill at first count) (answers.Filled (Err f)) turn (tree_at trees j) (λ q. refused f q.3) h
    where
      refused : (f : TreeFault) → answers.Filled (Err f) ≡ answers.Filled (Ok tt) → ⊥
      refused f e = cc

  other_named : (c : Call) (x : Answer) → TurnAt R i c x → ((f n : ℕ) → c ≡ Fill j f n → ⊥) → TreeAt R i j (tree_at trees j) → TreeAt R (i + 1) j (tree_at trees j)
  other_named c x turn other h = stays_named R i j c x turn (tree_at trees j) (λ q. other q.0 q.1 q.2) h

tree_next : (capacity : ℕ) (R : Run) (i j : ℕ) (s : State) (c : Call) → length s.trees ≡ length R.trees_before → table_count s.graph ≡ R.tables
    → TurnAt R i c (answer_to capacity R.marks s c) → TreeAt R i j (tree_at s.trees j) → TreeAt R (i + 1) j (tree_at (state_after capacity R.marks s c).trees j)
tree_next capacity R i j s (Fill at first count) long same turn h =
    filled_named R i j s.trees long at first count (filled_to R.marks s first count) (marked (table_count s.graph) (lent_from first count R.marks)) turn
    (ap (λ n. marked n (lent_from first count R.marks)) same) h
tree_next capacity R i j s (Join a b) long same turn h = other_named R i j s.trees long (Join a b) _ turn (λ f n e. cc) h
tree_next capacity R i j s (Unjoin a b) long same turn h = other_named R i j s.trees long (Unjoin a b) _ turn (λ f n e. cc) h
tree_next capacity R i j s (Build k) long same turn h = other_named R i j s.trees long (Build k) _ turn (λ f n e. cc) h
tree_next capacity R i j s (Drive x k) long same turn h = other_named R i j s.trees long (Drive x k) _ turn (λ f n e. cc) h
tree_next capacity R i j s Tables long same turn h = other_named R i j s.trees long Tables _ turn (λ f n e. cc) h
tree_next capacity R i j s (Joined a b) long same turn h = other_named R i j s.trees long (Joined a b) _ turn (λ f n e. cc) h
tree_next capacity R i j s (NextNeighbour a b) long same turn h = other_named R i j s.trees long (NextNeighbour a b) _ turn (λ f n e. cc) h
tree_next capacity R i j s Capacity long same turn h = other_named R i j s.trees long Capacity _ turn (λ f n e. cc) h

-- ---- the run

module _ (n capacity : ℕ) (some : 1 ≤ n) (few : n ≤ 64) (marks : List Mark) (steps : List Step) (reports : List ReportRecord) (trees : List Graph)
    (spans : (j : ℕ) → Spanning (tree_at trees j)) (l : List Turn) where
  abbrev first : State
  first = state_at_first (no_joins n) steps reports trees

  abbrev at : ℕ → State
  at i = state_by capacity marks first (take i l)

  abbrev last : State
  last = state_by capacity marks first l

  abbrev pub recorded : Run
  recorded = record {
    tables = n;
    capacity = capacity;
    turns_before = l;
    turns = turns_by capacity marks first l;
    marks = marks;
    steps_before = steps;
    steps = last.steps;
    reports_before = reports;
    reports = last.reports;
    trees_before = trees;
    trees = last.trees;
    graph = last.graph;
  }

  well_first : Well capacity marks n first
  well_first = record { simple = no_joins_simple n some few; tables = refl; laid = omega arith; told = omega arith; trees = spans }

  well_at : (i : ℕ) → Well capacity marks n (at i)
  well_at i = well_by capacity marks n first (take i l) well_first

  calls_at : (i : ℕ) → calls_of (take i l) ≡ take i (calls_of recorded.turns)
  calls_at i = sym (take-map (λ (t : Turn). t.call) i l) ∙ ap (take i) (sym (calls_stay capacity marks first l))

  graph_at : (i : ℕ) → (at i).graph ≡ ledger_at recorded i
  graph_at i = graph_is capacity marks first (take i l) ∙ ap (ledger capacity (no_joins n)) (calls_at i)

  steps_at : (i : ℕ) → (at i).laid ≡ steps_from recorded i
  steps_at i = laid_is capacity marks first (take i l) ∙ zero-add (steps_filled (turns_by capacity marks first (take i l)))
      ∙ ap steps_filled (sym (take_turns capacity marks first l i))

  reports_at : (i : ℕ) → (at i).told ≡ reports_from recorded i
  reports_at i = told_is capacity marks n first (take i l) refl ∙ zero-add (reports_filled n (turns_by capacity marks first (take i l)))
      ∙ ap (reports_filled n) (sym (take_turns capacity marks first l i))

  on_from : (i : ℕ) → Onward capacity marks (at i) last
  on_from i = subst (λ z. Onward capacity marks (at i) z) (sym (split_at capacity marks first l i)) (onward_by capacity marks n (at i) (drop i l) (well_at i))

  on_first : Onward capacity marks first last
  on_first = onward_by capacity marks n first l well_first

  on_at : (i : ℕ) → Onward capacity marks first (at i)
  on_at i = onward_by capacity marks n first (take i l) well_first

  on_after : (i : ℕ) (t : Turn) → slice_get l i ≡ Some t → Onward capacity marks (state_after capacity marks (at i) t.call) last
  on_after i t h = subst (λ z. Onward capacity marks z last) (next_at capacity marks first l i t h) (on_from (i + 1))

  -- ---- the trees

  before_first : at 0 ≡ first
  unfolding state_by
  before_first = refl

  named_at : (i : ℕ) → i ≤ length l → (j : ℕ) → TreeAt recorded i j (tree_at (at i).trees j)
  named_at zero h j = subst (λ (z : State). TreeAt recorded 0 j (tree_at z.trees j)) (sym before_first) (named_first recorded j)
  named_at (suc i) h j =
      let again : i ≤ length l → TreeAt recorded i j (tree_at (at i).trees j) = λ k. named_at i k j in
      ⊎_elim
      (λ (q : (t : Turn) × (i < length l) × (slice_get l i ≡ Some t) × (get_or l i t ≡ t)).
      let e : i + 1 ≡ suc i = omega arith in
      subst (λ z. TreeAt recorded z j (tree_at (at z).trees j)) e
      (subst (λ (z : State). TreeAt recorded (i + 1) j (tree_at z.trees j)) (sym (next_at capacity marks first l i q.0 q.2))
      (tree_next capacity recorded i j (at i) q.0.call (on_at i).trees (well_at i).tables (turn_here capacity marks first l i q.0 q.2) (again (omega arith)))))
      (λ (q : (length l ≤ i) × (slice_get l i ≡ None)). let k : length l ≤ i = q.0 in absurd (omega arith))
      (slice_get_cases l i).1

  -- ---- the last accepted calls

  edits_say : (i : ℕ) (c : Call) → Answered capacity (at i).graph c (answer_to capacity marks (at i) c)
  edits_say i (Join a b) = refl
  edits_say i (Unjoin a b) = refl
  edits_say i (Build k) = tt
  edits_say i (Drive j k) = tt
  edits_say i (Fill j f k) = tt
  edits_say i Tables = tt
  edits_say i (Joined a b) = tt
  edits_say i (NextNeighbour a b) = tt
  edits_say i Capacity = tt

  last_at : (i : ℕ) → i ≤ length l → (a b : ℕ) → (joined (at i).graph a b ≡ true) ↔ JoinedLast recorded i a b
  last_at zero h a b = subst (λ (z : State). (joined z.graph a b ≡ true) ↔ JoinedLast recorded 0 a b) (sym before_first) (tells_first recorded a b)
  last_at (suc i) h a b =
      let again : i ≤ length l → (joined (at i).graph a b ≡ true) ↔ JoinedLast recorded i a b = λ k. last_at i k a b in
      ⊎_elim
      (λ (q : (t : Turn) × (i < length l) × (slice_get l i ≡ Some t) × (get_or l i t ≡ t)).
      let e : i + 1 ≡ suc i = omega arith in
      let same : ledger_step capacity (at i).graph q.0.call ≡ (at (i + 1)).graph
      = sym (ap (λ (z : State). z.graph) (next_at capacity marks first l i q.0 q.2) ∙ step_graph capacity marks (at i) q.0.call) in
      subst (λ z. (joined (at z).graph a b ≡ true) ↔ JoinedLast recorded z a b) e
      (subst (λ m. (joined m a b ≡ true) ↔ JoinedLast recorded (i + 1) a b) same
      (tells_on recorded i a b capacity (at i).graph q.0.call (answer_to capacity marks (at i) q.0.call) (turn_here capacity marks first l i q.0 q.2)
      (edits_say i q.0.call) (again (omega arith)))))
      (λ (q : (length l ≤ i) × (slice_get l i ≡ None)). let k : length l ≤ i = q.0 in absurd (omega arith))
      (slice_get_cases l i).1

  last_tells : (i : ℕ) → i ≤ length recorded.turns → (a b : ℕ) → LastPut (edits_at recorded i) a b ↔ JoinedLast recorded i a b
  last_tells i h a b =
      let keeps = ledger_keeps n capacity (take i (calls_of recorded.turns)) a b in
      let tells = last_at i (omega (arith, h, as_many capacity marks first l)) a b in
      let same : joined (at i).graph a b ≡ joined (ledger_at recorded i) a b = ap (λ m. joined m a b) (graph_at i) in
      ((λ p. tells.0 (same ∙ keeps.1 p)), (λ p. keeps.0 (sym same ∙ tells.1 p)))

  -- the ledger has a pair exactly when the last accepted call on it was a join
  keeps : (i : ℕ) → i ≤ length recorded.turns → (a b : ℕ) → (joined (ledger_at recorded i) a b ≡ true) ↔ JoinedLast recorded i a b
  keeps i h a b =
      let k = ledger_keeps n capacity (take i (calls_of recorded.turns)) a b in
      let z = last_tells i h a b in
      ((λ e. z.0 (k.0 e)), (λ e. k.1 (z.1 e)))

  -- ---- what each call answers

  told_by : (i : ℕ) (c : Call) → i ≤ length l → Onward capacity marks (state_after capacity marks (at i) c) last → Foretold recorded i c (answer_to capacity marks (at i) c)
  told_by i (Join a b) h on = ap (λ m. answers.Edited (join_answer m capacity a b)) (graph_at i)
  told_by i (Unjoin a b) h on = ap (λ m. answers.Edited (unjoin_answer m a b)) (graph_at i)
  told_by i (Build k) h on =
      let s = at i in
      let w = well_at i in
      let x = answer_to capacity marks (at i) (Build k) in
      subst (λ m. BuildTold m (steps_from recorded i) (room (steps_from recorded i) k last.steps) (drop (steps_from recorded i) last.steps) x) (graph_at i)
      (subst (λ f. BuildTold s.graph f (room f k last.steps) (drop f last.steps) x) (steps_at i)
      (built_told s w.simple w.laid k last.steps (on_from i).steps.long on.steps.front))
  told_by i (Drive j k) h on =
      let s = at i in
      let w = well_at i in
      let x = answer_to capacity marks (at i) (Drive j k) in
      let t = tree_at s.trees j in (
        t,
        named_at i h j,
        subst (λ m. DriveTold m t (reports_from recorded i) (room (reports_from recorded i) k last.reports) (drop (reports_from recorded i) last.reports) x) (graph_at i)
            (subst (λ f. DriveTold s.graph t f (room f k last.reports) (drop f last.reports) x) (reports_at i)
            (driven_told s w.simple j (w.trees j) w.told k last.reports (on_from i).reports.long on.reports.front)),
      )
  told_by i (Fill j f k) h on =
      let s = at i in
      subst (λ m. FillTold m (lent_from f k marks) (answers.Filled (filled_to marks s f k))) (graph_at i)
      (record {
        outcome = filled_to marks s f k;
        answered = refl;
        judged = refl;
        exactly = fills_exactly s.graph (well_at i).simple (lent_from f k marks);
        refused = fill_refused s.graph (well_at i).simple (lent_from f k marks);
      })
  told_by i Tables h on = ap answers.Tables (well_at i).tables
  told_by i (Joined a b) h on = record {
    tells = joined (at i).graph a b;
    answered = refl;
    last = last_at i h a b;
  }
  told_by i (NextNeighbour a b) h on =
      subst (λ m. NeighbourTold m a b (answers.Neighbour (neighbour_of (at i).graph a b))) (graph_at i)
      (record { tells = neighbour_of (at i).graph a b; answered = refl; next = neighbour_told (at i).graph (well_at i).simple a b })
  told_by i Capacity h on = refl

  answered : (i : ℕ) (x : Turn) → slice_get recorded.turns i ≡ Some x → (a : Answer) × (x.answer ≡ Some a) × Foretold recorded i x.call a
  answered i x h =
      let q = turn_there capacity marks first l i x h in
      let inside : i < length l = slice_get_within l i q.turn q.is in
      let a = answer_to capacity marks (at i) q.turn.call in (
        a,
        ap (λ (z : Turn). z.answer) q.answered,
        subst (λ (z : Turn). Foretold recorded i z.call a) (sym q.answered) (told_by i q.turn.call (omega arith) (on_after i q.turn q.is)),
      )

  meant : last.graph ≡ ledger capacity (no_joins n) (calls_of recorded.turns)
  meant = graph_is capacity marks first l ∙ ap (ledger capacity (no_joins n)) (sym (calls_stay capacity marks first l))

  steps_in : last.laid ≡ steps_filled recorded.turns
  steps_in = laid_is capacity marks first l ∙ zero-add (steps_filled recorded.turns)

  reports_in : last.told ≡ reports_filled n recorded.turns
  reports_in = told_is capacity marks n first l refl ∙ zero-add (reports_filled n recorded.turns)

  at_last : at (length recorded.turns) ≡ last
  at_last = ap (λ k. at k) (as_many capacity marks first l) ∙ ap (state_by capacity marks first) (take_all (length l) l (omega arith))

  pub foretells : Foretells recorded
  foretells = record {
    some = some;
    few = few;
    calls = calls_stay capacity marks first l;
    answered = answered;
    last = last_tells;
    ledger_pairs = keeps;
    meant = meant;
    pairs = λ a b. subst (λ (z : State). (joined z.graph a b ≡ true) ↔ JoinedLast recorded (length recorded.turns) a b) at_last
        (last_at (length recorded.turns) (omega (arith, as_many capacity marks first l)) a b);
    as_many_steps = on_first.steps.long;
    steps_kept = subst (λ k. drop k last.steps ≡ drop k steps) steps_in on_first.steps.back;
    as_many_reports = on_first.reports.long;
    reports_kept = subst (λ k. drop k last.reports ≡ drop k reports) reports_in on_first.reports.back;
    as_many_trees = on_first.trees;
    trees_left = λ j h. subst (λ (z : State). TreeAt recorded (length recorded.turns) j (tree_at z.trees j)) at_last
        (named_at (length recorded.turns) (omega (arith, as_many capacity marks first l)) j);
  }
