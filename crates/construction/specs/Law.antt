-- What a replay amounts to, in the words of legal builds. `r` is what it tells, and `g` the graph that it leaves.
--
--   AcceptedExactly m t l r g        on a graph without joins: accepted exactly when t and l are a legal build of g
--   AcceptedWithRoom cap m t l r     the same where there is room for all joins: exactly when they are a legal build of some
--                                    graph of as many tables
--   conditions cap U g s             the conditions that a step meets in turn, each with the number of its refusal
--   RefusedAtFirst cap m t l r g     a refused step is the first that meets one of its conditions: those before it are
--                                    allowed one after another and lead to the graph left, and the refusal's number is that
--                                    of the first condition that holds
--   UnusedTold m t l r g             a refusal at the close names the lowest table not in use: the steps are all allowed one
--                                    after another and lead to the graph left
--   StartTold m r g                  a refused triangle leaves the graph as it was, be it without joins or not
use Rattle.std.specs.Prelude.{◌≡◌, ℕ, ◌+◌, ◌-◌, ◌<◌, ◌≤◌, Bool, not, ◌&&◌, ◌||◌, ◌↔◌, List, [], ◌∷◌, length, take, drop, Ok, Err, Result, ◌==◌, ◌≢◌, nat_le}
use Rattle.theory.specs.Graph.{Graph, Lowest, joined, is_table, table_count, size, no_joins}
use Rattle.theory.specs.Build.{Builds, LegalBuild, triangle}
use Rattle.theory.specs.declared.step.Step.{Step}
use Rattle.theory.specs.declared.step.Step.TheVariants.{Edge, Node}
use Rattle.theory.specs.declared.step.Triangle.{Triangle}
use Rattle.graph.specs.First.{refused_first}
use Rattle.refusals.specs.Fault.{replay_number, replay_step}
use Rattle.refusals.specs.declared.fault.ReplayFault.{ReplayFault}
use Rattle.refusals.specs.declared.fault.ReplayFault.TheVariants.{Unused}

abbrev pub AcceptedExactly : Graph → Triangle → List Step → Result Unit ReplayFault → Graph → Type 0
AcceptedExactly m t l r g = m ≡ no_joins (table_count m) → (r ≡ Ok tt) ↔ LegalBuild g t l

abbrev pub AcceptedWithRoom : ℕ → Graph → Triangle → List Step → Result Unit ReplayFault → Type 0
AcceptedWithRoom capacity m t l r = m ≡ no_joins (table_count m) → 3 + length l ≤ capacity
    → (r ≡ Ok tt) ↔ ((h : Graph) × (table_count h ≡ table_count m) × LegalBuild h t l)

abbrev pub conditions : ℕ → (ℕ → Bool) → Graph → Step → List (Bool × ℕ)
conditions capacity U g (Edge v w) =
    ((not (is_table g v && is_table g w), 1)
    ∷ ((v == w), 2)
    ∷ (not (U v && U w), 13)
    ∷ (joined g v w, 3)
    ∷ (nat_le capacity (size g), 5)
    ∷ [])
conditions capacity U g (Node u v w) =
    ((not (is_table g u && (is_table g v && is_table g w)), 1)
    ∷ (u == v || (u == w || v == w), 2)
    ∷ (U u, 12)
    ∷ (not (U v && U w), 13)
    ∷ (not (joined g v w), 4)
    ∷ (nat_le capacity (size g), 5)
    ∷ [])

abbrev pub RefusedAtFirst : ℕ → Graph → Triangle → List Step → Result Unit ReplayFault → Graph → Type 0
RefusedAtFirst capacity m t l r g = m ≡ no_joins (table_count m) → (f : ReplayFault) → r ≡ Err f → 1 ≤ replay_step f
    → (before : List Step) × (s : Step) × (rest : List Step) × (U : ℕ → Bool)
    × (drop (replay_step f - 1) l ≡ s ∷ rest) × (take (replay_step f - 1) l ≡ before)
    × Builds (triangle t) before (record { in_use = U; joins = joined g })
    × (refused_first (conditions capacity U g s) ≡ Err (replay_number f))

abbrev pub UnusedTold : Graph → Triangle → List Step → Result Unit ReplayFault → Graph → Type 0
UnusedTold m t l r g = m ≡ no_joins (table_count m) → (x : ℕ) → r ≡ Err (Unused x)
    → (U : ℕ → Bool) × Builds (triangle t) l (record { in_use = U; joins = joined g })
    × (x < table_count g) × Lowest (λ y. not (U y)) 0 x

-- a refusal that names step 0 is the triangle's, unless it is the close's
abbrev pub StartTold : Graph → Result Unit ReplayFault → Graph → Type 0
StartTold m r g = (f : ReplayFault) → r ≡ Err f → replay_step f ≡ 0 → ((x : ℕ) → f ≢ Unused x) → g ≡ m
