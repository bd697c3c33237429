-- What a build request amounts to, in the words of searches, walks and legal builds. `r` is its answer, and `l` the records after.
--
--   ListGiven m r l       the list given is the one that taking the graph apart yields, and no other is
--   LegalGiven m r l      the list given is a legal build of the graph, and has a step for each join but three
--   RefusedExactly m r    6, 7 or 8 is told exactly when no triangle and no list of steps whatever is a legal build of the graph
--   Named m room r        7 names the lowest table that joins do not lead to from table 0, 8 the lowest articulation table of a
--                         graph that is connected, 9 the number of steps, which is more than the records lent
--   PlaysBack m r l       the list given, played back into any editable graph of as many tables that has no joins and room for
--                         those of this one, is accepted and makes the same graph
use Rattle.std.specs.Prelude.{◌≡◌, ℕ, ◌+◌, ◌<◌, ◌≤◌, ◌⊎◌, ◌↔◌, List, length, take, Ok, Err, Result}
use Rattle.theory.specs.Graph.{Graph, joined, is_table, table_count, size, no_joins}
use Rattle.theory.specs.Build.{LegalBuild}
use Rattle.theory.specs.declared.step.Step.{Step}
use Rattle.theory.specs.declared.step.Triangle.{Triangle}
use Rattle.construction.specs.Replay.{replayed}
use Rattle.disassembly.specs.Walks.{Reaches, Connected}
use Rattle.disassembly.specs.Walks as walks
use Rattle.disassembly.specs.Disassembly.{Disassembly}
use Rattle.refusals.specs.Build.{build_number}
use Rattle.refusals.specs.declared.build.BuildFault.{BuildFault}
use Rattle.refusals.specs.declared.build.BuildFault.TheVariants.{TooSmall, Unreached, Articulation, TooFewRecords}
use Rattle.assembly.specs.declared.build.Built.{Built}

abbrev pub ListGiven : Graph → Result Built BuildFault → List Step → Type 0
ListGiven m r l = (b : Built) → r ≡ Ok b
    → Disassembly (is_table m) (joined m) 0 b.triangle (take b.steps l)
    × ((t : Triangle) (k : List Step) → Disassembly (is_table m) (joined m) 0 t k → (t ≡ b.triangle) × (k ≡ take b.steps l))

abbrev pub LegalGiven : Graph → Result Built BuildFault → List Step → Type 0
LegalGiven m r l = (b : Built) → r ≡ Ok b
    → LegalBuild m b.triangle (take b.steps l) × (length (take b.steps l) ≡ b.steps) × (b.steps + 3 ≡ size m)

-- 6, 7 or 8 is told
abbrev pub UnbuildableTold : Result Built BuildFault → Type 0
UnbuildableTold r = (f : BuildFault) × (r ≡ Err f) × ((build_number f ≡ 6) ⊎ ((build_number f ≡ 7) ⊎ (build_number f ≡ 8)))

abbrev pub RefusedExactly : Graph → Result Built BuildFault → Type 0
RefusedExactly m r = UnbuildableTold r ↔ ((t : Triangle) (k : List Step) → LegalBuild m t k → ⊥)

abbrev pub LeadsTo : Graph → ℕ → Type 0
LeadsTo m x = Reaches (is_table m) (joined m) 0 x

abbrev pub Articulates : Graph → ℕ → Type 0
Articulates m x = walks.Articulation (is_table m) (joined m) x

abbrev pub NamedBy : Graph → ℕ → BuildFault → Type 0
NamedBy m room TooSmall = table_count m < 3
NamedBy m room (Unreached x) = (3 ≤ table_count m) × (x < table_count m) × (LeadsTo m x → ⊥) × ((y : ℕ) → y < x → LeadsTo m y)
NamedBy m room (Articulation x) = (3 ≤ table_count m) × Connected (is_table m) (joined m) × Articulates m x × ((y : ℕ) → y < x → Articulates m y → ⊥)
NamedBy m room (TooFewRecords k) = (k + 3 ≡ size m) × (room < k)

abbrev pub Named : Graph → ℕ → Result Built BuildFault → Type 0
Named m room r = (f : BuildFault) → r ≡ Err f → NamedBy m room f

abbrev pub PlaysBack : Graph → Result Built BuildFault → List Step → Type 0
PlaysBack m r l = (b : Built) → r ≡ Ok b → (capacity : ℕ) → size m ≤ capacity
    → ((replayed capacity (no_joins (table_count m)) b.triangle (take b.steps l)).told ≡ Ok tt)
    × ((replayed capacity (no_joins (table_count m)) b.triangle (take b.steps l)).graph ≡ m)
