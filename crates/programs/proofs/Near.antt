-- What a replay's refusal names is small: a step of the list, or a table of the graph.
use Rattle.std.proofs.Common.{◌≡◌, ℕ, zero, suc, ◌+◌, ◌-◌, ◌<◌, ◌≤◌, Bool, true, false, cond, List, [], ◌∷◌, length, drop, Ok, Err, Result, refl, ap, subst, ⊎_elim, arith, length-drop}
use Rattle.std.proofs.lemmas.Bool.{cases_lt}
use Rattle.refusals.specs.Fault.{replay_step}
use Rattle.construction.specs.Replay.{Building, Played, start_answer, started, step_answer, step_after, close_from, close_answer, onward, steps_from, replayed}
use Rattle.refusals.specs.declared.fault.ReplayFault.{ReplayFault}
use Rattle.refusals.specs.declared.fault.ReplayFault.TheVariants.{Store, HasJoins, NotTriangle, InUse, NotInUse, Unused}
use Rattle.construction.proofs.Laws.{told_laws}
use Rattle.theory.specs.Graph.{Graph, Simple, table_count, no_joins}
use Rattle.theory.specs.declared.step.Step.{Step}
use Rattle.theory.specs.declared.step.Step.TheVariants.{Edge, Node}
use Rattle.theory.specs.declared.step.Triangle.{Triangle}
use Rattle.refusals.specs.Fault.{replay_place}

-- the table of 14, or 0
abbrev table_named : ReplayFault → ℕ
table_named (Store k f) = 0
table_named HasJoins = 0
table_named NotTriangle = 0
table_named (InUse k t) = 0
table_named (NotInUse k t) = 0
table_named (Unused t) = t

-- the same of an answer
abbrev named : Result Unit ReplayFault → ℕ
named (Ok u) = 0
named (Err f) = table_named f

step_named : (c k : ℕ) (b : Building) (s : Step) → named (step_answer c k b s) ≡ 0
unfolding step_answer
step_named c k b (Edge v w) = grind arith
step_named c k b (Node u v w) = grind arith

start_named : (c : ℕ) (m : Graph) (t : Triangle) → named (start_answer m c t) ≡ 0
start_named c m t = grind arith

close_named : (from left : ℕ) (used : ℕ → Bool) → named (close_from from left used) ≤ from + left
close_named from zero used = omega arith
close_named from (suc left) used =
    let ih : named (close_from (from + 1) left used) ≤ from + 1 + left = close_named (from + 1) left used in
    elim (used from) as (λ b. named (cond b (close_from (from + 1) left used) (Err (Unused from))) ≤ from + suc left) [ true ↦ omega arith | false ↦ omega arith ]

same_tables : (b : Building) (s : Step) → table_count (step_after b s).graph ≡ table_count b.graph
unfolding step_after
same_tables b (Edge v w) = refl
same_tables b (Node u v w) = refl

onward_named : (r : Result Unit ReplayFault) (g : Graph) (rest : Played) (n : ℕ) → named r ≡ 0 → named rest.told ≤ n → named (onward r g rest).told ≤ n
onward_named (Ok u) g rest n zero-named below = below
onward_named (Err f) g rest n zero-named below = omega arith

steps_named : (c k : ℕ) (b : Building) (l : List Step) → named (steps_from c k b l).told ≤ table_count b.graph
unfolding steps_from
steps_named c k b [] = let h : named (close_answer b) ≤ 0 + table_count b.graph = close_named 0 (table_count b.graph) b.used in omega arith
steps_named c k b (s ∷ l) =
    onward_named (step_answer c k b s) b.graph (steps_from c (k + 1) (step_after b s) l) (table_count b.graph) (step_named c k b s)
    (subst (λ n. named (steps_from c (k + 1) (step_after b s) l).told ≤ n) (same_tables b s) (steps_named c (k + 1) (step_after b s) l))

replay_named : (c : ℕ) (m : Graph) (t : Triangle) (l : List Step) → named (replayed c m t l).told ≤ table_count m
unfolding replayed
replay_named c m t l =
    onward_named (start_answer m c t) m (steps_from c 1 (started m t) l) (table_count m) (start_named c m t) (steps_named c 1 (started m t) l)

-- a place is a step, or the table of 14
place_parts : (f : ReplayFault) → replay_place f ≤ replay_step f + table_named f
place_parts (Store k f) = omega arith
place_parts HasJoins = omega arith
place_parts NotTriangle = omega arith
place_parts (InUse k t) = omega arith
place_parts (NotInUse k t) = omega arith
place_parts (Unused t) = omega arith

pub replay_near : (c n : ℕ) (t : Triangle) (l : List Step) (f : ReplayFault) → Simple (no_joins n) → (replayed c (no_joins n) t l).told ≡ Err f → replay_place f ≤ 64 + length l
replay_near c n t l f s told =
    let m = no_joins n in
    let few : n ≤ 64 = s.few in
    let parts = place_parts f in
    let table : table_named f ≤ n = subst (λ r. named r ≤ n) told (replay_named c m t l) in
    let step : replay_step f ≤ length l =
    ⊎_elim
    (λ (h : 0 < replay_step f).
    let r = (told_laws c m t l s (replayed c m t l).told (replayed c m t l).graph refl refl).refused refl f told (omega arith) in
    let long : length (drop (replay_step f - 1) l) ≡ suc (length r.2) = ap length r.4 in
    let cut = length-drop (replay_step f - 1) l in
    let g : replay_step f ≤ length l = omega arith in g)
    (λ (h : replay_step f ≤ 0). let g : replay_step f ≤ length l = omega arith in g)
    (cases_lt 0 (replay_step f)) in
    omega arith
