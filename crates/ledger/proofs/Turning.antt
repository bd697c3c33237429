-- A run turn by turn: what it has come to before a turn, and what stays from there on.
--
--   turn_there            an answered turn is that of a call, answered as the calls before it left things
--   take_turns, calls_stay, split_at, next_at   parts of a run
--   graph_is              the graph is the ledger's
--   laid_is, told_is      how many records are filled
--   Well, well_by         what always holds of what a run has come to
--   Onward, onward_by     what stays of it
use Rattle.std.proofs.Common.{◌≡◌, ℕ, zero, suc, ◌+◌, ◌<◌, ◌≤◌, List, [], ◌∷◌, length, take, drop, set, slice_get, Some, None, Option, Ok, Err, Result, sym, refl, ap, ◌∙◌, subst, ⊎_elim, arith}
use Rattle.std.proofs.lemmas.Bool.{cases_eq, cases_lt}
use Rattle.std.proofs.lemmas.List.{length-set, get_or-set_same, get_or-set_other, set_past}
use Rattle.theory.specs.Graph.{Graph, Simple, table_count, no_joins}
use Rattle.theory.specs.declared.mark.Mark.{Mark}
use Rattle.spanning.specs.Spanning.{Spanning}
use Rattle.assembly.specs.Build.{records_after}
use Rattle.driving.specs.Drive.{report_after}
use Rattle.trees.specs.Tree.{marked}
use Rattle.trees.specs.declared.fault.TreeFault.{TreeFault}
use Rattle.trees.proofs.Fills.{fills_exactly}
use Rattle.ledger.specs.declared.call.Call.{Call}
use Rattle.ledger.specs.declared.call.Call.TheVariants.{Join, Unjoin, Build, Drive, Fill, Tables, Joined, NextNeighbour, Capacity}
use Rattle.ledger.specs.declared.call.Turn.{Turn}
use Rattle.ledger.specs.Ledger.{ledger_step, ledger}
use Rattle.ledger.specs.Run.{State, lent_from, tree_at, planted, given_steps, built_to, driven_to, filled_to, answer_to, edited_after, state_after, turn_by, state_by, turns_by, calls_of}
use Rattle.ledger.specs.RunLaw.{steps_of, reports_of, steps_filled, reports_filled}
use Rattle.ledger.proofs.Grown.{Grown, grown_not, grown_on, grown_by}
use Rattle.ledger.proofs.Requests.{step_simple, step_tables, build_filling, drive_filling}

module _ (capacity : ℕ) (marks : List Mark) where
  abbrev By : State → List Turn → State
  By s l = state_by capacity marks s l

  abbrev After : State → Turn → State
  After s t = state_after capacity marks s t.call

  pub record There (s : State) (l : List Turn) (i : ℕ) (x : Turn) : Type 0 where
    pub turn : Turn
    pub is : slice_get l i ≡ Some turn
    pub answered : x ≡ turn_by capacity marks (state_by capacity marks s (take i l)) turn

  pub turn_there : (s : State) (l : List Turn) (i : ℕ) (x : Turn) → slice_get (turns_by capacity marks s l) i ≡ Some x → There s l i x
  unfolding turns_by state_by
  turn_there s [] i x h = absurd (none x h)
    where
      none : (x : Turn) → ◌≡◌ {A = Option Turn} None (Some x) → ⊥
      none x h = cc
  turn_there s (t ∷ l) zero x h = record { turn = t; is = refl; answered = cc }
  turn_there s (t ∷ l) (suc i) x h =
      let q : There (After s t) l i x = turn_there (After s t) l i x h in
      record { turn = q.turn; is = q.is; answered = q.answered }

  pub turn_here : (s : State) (l : List Turn) (i : ℕ) (t : Turn) → slice_get l i ≡ Some t
      → slice_get (turns_by capacity marks s l) i ≡ Some (turn_by capacity marks (state_by capacity marks s (take i l)) t)
  unfolding turns_by state_by
  turn_here s [] i t h = absurd (none t h)
    where
      none : (x : Turn) → ◌≡◌ {A = Option Turn} None (Some x) → ⊥
      none x h = cc
  turn_here s (u ∷ l) zero t h = let e : u ≡ t = cc in ap (λ v. Some (turn_by capacity marks s v)) e
  turn_here s (u ∷ l) (suc i) t h = turn_here (After s u) l i t h

  pub take_turns : (s : State) (l : List Turn) (i : ℕ) → take i (turns_by capacity marks s l) ≡ turns_by capacity marks s (take i l)
  unfolding turns_by
  take_turns s l zero = refl
  take_turns s [] (suc i) = refl
  take_turns s (t ∷ l) (suc i) = ap (λ x. turn_by capacity marks s t ∷ x) (take_turns (After s t) l i)

  pub calls_stay : (s : State) (l : List Turn) → calls_of (turns_by capacity marks s l) ≡ calls_of l
  unfolding turns_by
  calls_stay s [] = refl
  calls_stay s (t ∷ l) = ap (λ x. t.call ∷ x) (calls_stay (After s t) l)

  pub as_many : (s : State) (l : List Turn) → length (turns_by capacity marks s l) ≡ length l
  unfolding turns_by
  as_many s [] = refl
  as_many s (t ∷ l) = ap suc (as_many (After s t) l)

  -- the run goes on from what it has come to
  pub split_at : (s : State) (l : List Turn) (i : ℕ) → state_by capacity marks s l ≡ state_by capacity marks (state_by capacity marks s (take i l)) (drop i l)
  unfolding state_by
  split_at s l zero = refl
  split_at s [] (suc i) = refl
  split_at s (t ∷ l) (suc i) = split_at (After s t) l i

  next_suc : (s : State) (l : List Turn) (i : ℕ) (t : Turn) → slice_get l i ≡ Some t → By s (take (suc i) l) ≡ After (By s (take i l)) t
  unfolding state_by
  next_suc s [] i t h = absurd (none t h)
    where
      none : (x : Turn) → ◌≡◌ {A = Option Turn} None (Some x) → ⊥
      none x h = cc
  next_suc s (u ∷ l) zero t h = let e : u ≡ t = cc in ap (After s) e
  next_suc s (u ∷ l) (suc i) t h = next_suc (After s u) l i t h

  pub next_at : (s : State) (l : List Turn) (i : ℕ) (t : Turn) → slice_get l i ≡ Some t
      → state_by capacity marks s (take (i + 1) l) ≡ state_after capacity marks (state_by capacity marks s (take i l)) t.call
  next_at s l i t h = let e : i + 1 ≡ suc i = omega arith in ap (λ n. By s (take n l)) e ∙ next_suc s l i t h

  -- ---- the graph

  pub step_graph : (s : State) (c : Call) → (state_after capacity marks s c).graph ≡ ledger_step capacity s.graph c
  step_graph s (Join a b) = refl
  step_graph s (Unjoin a b) = refl
  step_graph s (Build k) = refl
  step_graph s (Drive j k) = refl
  step_graph s (Fill j i k) = refl
  step_graph s Tables = refl
  step_graph s (Joined a b) = refl
  step_graph s (NextNeighbour a b) = refl
  step_graph s Capacity = refl

  pub graph_is : (s : State) (l : List Turn) → (state_by capacity marks s l).graph ≡ ledger capacity s.graph (calls_of l)
  unfolding state_by ledger
  graph_is s [] = refl
  graph_is s (t ∷ l) = graph_is (After s t) l ∙ ap (λ m. ledger capacity m (calls_of l)) (step_graph s t.call)

  -- ---- how many records are filled

  laid_step : (s : State) (c : Call) → (state_after capacity marks s c).laid ≡ s.laid + steps_of (Some (answer_to capacity marks s c))
  laid_step s (Join a b) = omega arith
  laid_step s (Unjoin a b) = omega arith
  laid_step s (Build k) = refl
  laid_step s (Drive j k) = omega arith
  laid_step s (Fill j i k) = omega arith
  laid_step s Tables = omega arith
  laid_step s (Joined a b) = omega arith
  laid_step s (NextNeighbour a b) = omega arith
  laid_step s Capacity = omega arith

  pub laid_is : (s : State) (l : List Turn) → (state_by capacity marks s l).laid ≡ s.laid + steps_filled (turns_by capacity marks s l)
  unfolding state_by turns_by steps_filled
  laid_is s [] = omega arith
  laid_is s (t ∷ l) = omega (arith, laid_is (After s t) l, laid_step s t.call)

  told_step : (s : State) (c : Call) → (state_after capacity marks s c).told ≡ s.told + reports_of (table_count s.graph) (Some (answer_to capacity marks s c))
  told_step s (Join a b) = omega arith
  told_step s (Unjoin a b) = omega arith
  told_step s (Build k) = omega arith
  told_step s (Drive j k) = refl
  told_step s (Fill j i k) = omega arith
  told_step s Tables = omega arith
  told_step s (Joined a b) = omega arith
  told_step s (NextNeighbour a b) = omega arith
  told_step s Capacity = omega arith

  pub told_is : (n : ℕ) (s : State) (l : List Turn) → table_count s.graph ≡ n → (state_by capacity marks s l).told ≡ s.told + reports_filled n (turns_by capacity marks s l)
  unfolding state_by turns_by reports_filled
  told_is n s [] e = omega arith
  told_is n s (t ∷ l) e =
      let same : table_count (After s t).graph ≡ n = ap table_count (step_graph s t.call) ∙ step_tables capacity s.graph t.call ∙ e in
      let one : (After s t).told ≡ s.told + reports_of n (Some (answer_to capacity marks s t.call))
      = told_step s t.call ∙ ap (λ k. s.told + reports_of k (Some (answer_to capacity marks s t.call))) e in
      omega (arith, told_is n (After s t) l same, one)

  -- ---- what always holds, and what stays

  pub record Well (n : ℕ) (s : State) : Type 0 where
    pub simple : Simple s.graph
    pub tables : table_count s.graph ≡ n
    pub laid : s.laid ≤ length s.steps
    pub told : s.told ≤ length s.reports
    pub trees : (j : ℕ) → Spanning (tree_at s.trees j)

  pub record Onward (s z : State) : Type 0 where
    pub steps : Grown s.laid s.steps z.laid z.steps
    pub reports : Grown s.told s.reports z.told z.reports
    pub trees : length z.trees ≡ length s.trees

  stands : (n : ℕ) (s : State) → Well n s → Onward s s
  stands n s w = record { steps = grown_not s.laid s.steps w.laid; reports = grown_not s.told s.reports w.told; trees = refl }

  edited : (n : ℕ) (s : State) (m : Graph) → Well n s → Onward s (edited_after s m)
  edited n s m w = record { steps = grown_not s.laid s.steps w.laid; reports = grown_not s.told s.reports w.told; trees = refl }

  steps_on : (n : ℕ) (s : State) (k : ℕ) → Well n s → Grown s.laid s.steps (state_after capacity marks s (Build k)).laid (state_after capacity marks s (Build k)).steps
  steps_on n s k w =
      let l = lent_from s.laid k s.steps in
      let f = build_filling s.graph w.simple l in
      grown_by s.laid k s.steps (records_after s.graph l) w.laid (given_steps (built_to s k)) f.as_many f.few f.kept

  reports_on : (n : ℕ) (s : State) (j k : ℕ) → Well n s
      → Grown s.told s.reports (state_after capacity marks s (Drive j k)).told (state_after capacity marks s (Drive j k)).reports
  reports_on n s j k w =
      let l = lent_from s.told k s.reports in
      let f = drive_filling s.graph (tree_at s.trees j) l in
      grown_by s.told k s.reports (report_after (driven_to s j k) s.graph (tree_at s.trees j) l) w.told _ f.as_many f.few f.kept

  planted_long : (r : Result Unit TreeFault) (t : Graph) (j : ℕ) (trees : List Graph) → length (planted r t j trees) ≡ length trees
  planted_long (Ok u) t j trees = length-set trees j t
  planted_long (Err f) t j trees = refl

  pub onward : (n : ℕ) (s : State) (c : Call) → Well n s → Onward s (state_after capacity marks s c)
  onward n s (Join a b) w = edited n s (ledger_step capacity s.graph (Join a b)) w
  onward n s (Unjoin a b) w = edited n s (ledger_step capacity s.graph (Unjoin a b)) w
  onward n s (Build k) w = record { steps = steps_on n s k w; reports = grown_not s.told s.reports w.told; trees = refl }
  onward n s (Drive j k) w = record { steps = grown_not s.laid s.steps w.laid; reports = reports_on n s j k w; trees = refl }
  onward n s (Fill j i k) w = record {
    steps = grown_not s.laid s.steps w.laid;
    reports = grown_not s.told s.reports w.told;
    trees = planted_long (filled_to marks s i k) (marked (table_count s.graph) (lent_from i k marks)) j s.trees;
  }
  onward n s Tables w = stands n s w
  onward n s (Joined a b) w = stands n s w
  onward n s (NextNeighbour a b) w = stands n s w
  onward n s Capacity w = stands n s w

  planted_span : (r : Result Unit TreeFault) (t : Graph) (j : ℕ) (trees : List Graph) → (r ≡ Ok tt → Spanning t) → ((i : ℕ) → Spanning (tree_at trees i))
      → (i : ℕ) → Spanning (tree_at (planted r t j trees) i)
  planted_span (Ok tt) t j trees new old i = ⊎_elim
      (λ (e : i ≡ j). ⊎_elim
      (λ (h : j < length trees). subst (λ x. Spanning x) (sym (ap (tree_at (set trees j t)) e ∙ get_or-set_same trees j t (no_joins 1) h)) (new refl))
      (λ (h : length trees ≤ j). subst (λ x. Spanning (tree_at x i)) (sym (set_past trees j t h)) (old i))
      (cases_lt j (length trees)))
      (λ (ne : i ≡ j → ⊥). subst (λ x. Spanning x) (sym (get_or-set_other trees j i t (no_joins 1) ne)) (old i))
      (cases_eq i j)
  planted_span (Err f) t j trees new old i = old i

  well : (n : ℕ) (s : State) (c : Call) → Well n s → Well n (state_after capacity marks s c)
  well n s c w =
      let o = onward n s c w in
      record {
        simple = subst (λ m. Simple m) (sym (step_graph s c)) (step_simple capacity s.graph c w.simple);
        tables = ap table_count (step_graph s c) ∙ step_tables capacity s.graph c ∙ w.tables;
        laid = o.steps.fits;
        told = o.reports.fits;
        trees = spans s c w;
      }
    where
      spans : (s : State) (c : Call) → Well n s → (j : ℕ) → Spanning (tree_at (state_after capacity marks s c).trees j)
      spans s (Join a b) w = w.trees
      spans s (Unjoin a b) w = w.trees
      spans s (Build k) w = w.trees
      spans s (Drive j k) w = w.trees
      spans s (Fill j i k) w = planted_span (filled_to marks s i k) (marked (table_count s.graph) (lent_from i k marks)) j s.trees
          (λ h. ((fills_exactly s.graph w.simple (lent_from i k marks)).0 h).spanning) w.trees
      spans s Tables w = w.trees
      spans s (Joined a b) w = w.trees
      spans s (NextNeighbour a b) w = w.trees
      spans s Capacity w = w.trees

  pub well_by : (n : ℕ) (s : State) (l : List Turn) → Well n s → Well n (state_by capacity marks s l)
  unfolding state_by
  well_by n s [] w = w
  well_by n s (t ∷ l) w = well_by n (After s t) l (well n s t.call w)

  pub onward_by : (n : ℕ) (s : State) (l : List Turn) → Well n s → Onward s (state_by capacity marks s l)
  unfolding state_by
  onward_by n s [] w = stands n s w
  onward_by n s (t ∷ l) w =
      let o = onward n s t.call w in
      let p : Onward (After s t) (By (After s t) l) = onward_by n (After s t) l (well n s t.call w) in
      record {
        steps = grown_on s.laid (After s t).laid (By (After s t) l).laid s.steps (After s t).steps (By (After s t) l).steps o.steps p.steps;
        reports = grown_on s.told (After s t).told (By (After s t) l).told s.reports (After s t).reports (By (After s t) l).reports o.reports p.reports;
        trees = p.trees ∙ o.trees;
      }
