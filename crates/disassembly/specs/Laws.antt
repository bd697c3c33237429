-- What is proved of walks, searches and build lists, for every set of tables U and joins J on it, and every start r in U.
--
--   Fit U J                  three tables or more, connected, and no articulation table
--   HasBuild U J             there is a legal build
--   HasBuildExactly          exactly the fit graphs have a legal build (Whitney)
--   ReachedExactly           a search discovers exactly the tables that joins lead to from its start
--   SeparatesExactly         the test on a search without one table finds exactly the articulation tables
--   Stands                   the list given stands in the relation, where the graph is fit
--   OnlyList                 no other list stands in it
--   GivenBuilds              the list given is a legal build
use Rattle.std.specs.Prelude.{◌≡◌, ℕ, ◌≤◌, Bool, true, ◌↔◌, List}
use Rattle.theory.specs.Graph.{count}
use Rattle.theory.specs.Build.{Ascending, triangle, Builds}
use Rattle.theory.specs.declared.step.Step.{Step}
use Rattle.theory.specs.declared.step.Triangle.{Triangle}
use Rattle.disassembly.specs.Walks.{Reaches, Connected, Articulation, SimpleOn}
use Rattle.disassembly.specs.Reach.{reached, separates}
use Rattle.disassembly.specs.Disassembly.{Disassembly, part_of, given}

pub record Fit (U : ℕ → Bool) (J : ℕ → ℕ → Bool) : Type 0 where
  pub three : 3 ≤ count U 64
  pub connected : Connected U J
  pub no_articulation : (x : ℕ) → Articulation U J x → ⊥

abbrev pub HasBuild : (ℕ → Bool) → (ℕ → ℕ → Bool) → Type 0
HasBuild U J = (t : Triangle) × (l : List Step) × Ascending t × Builds (triangle t) l (part_of U J)

abbrev pub HasBuildExactly : Type 0
HasBuildExactly = (U : ℕ → Bool) (J : ℕ → ℕ → Bool) → SimpleOn U J → HasBuild U J ↔ Fit U J

abbrev pub ReachedExactly : Type 0
ReachedExactly = (U : ℕ → Bool) (J : ℕ → ℕ → Bool) (r : ℕ) → SimpleOn U J → U r ≡ true → (x : ℕ) → (reached U J r x ≡ true) ↔ Reaches U J r x

abbrev pub SeparatesExactly : Type 0
SeparatesExactly = (U : ℕ → Bool) (J : ℕ → ℕ → Bool) → SimpleOn U J → (x : ℕ) → (separates U J x ≡ true) ↔ Articulation U J x

abbrev pub Stands : Type 0
Stands = (U : ℕ → Bool) (J : ℕ → ℕ → Bool) (r : ℕ) → SimpleOn U J → U r ≡ true → Fit U J → Disassembly U J r (given U J r).triangle (given U J r).steps

abbrev pub OnlyList : Type 0
OnlyList = (U : ℕ → Bool) (J : ℕ → ℕ → Bool) (r : ℕ) → SimpleOn U J → U r ≡ true → Fit U J → (s t : Triangle) (k l : List Step)
    → Disassembly U J r s k → Disassembly U J r t l → (s ≡ t) × (k ≡ l)

abbrev pub GivenBuilds : Type 0
GivenBuilds = (U : ℕ → Bool) (J : ℕ → ℕ → Bool) (r : ℕ) → SimpleOn U J → U r ≡ true → Fit U J
    → Ascending (given U J r).triangle × Builds (triangle (given U J r).triangle) (given U J r).steps (part_of U J)
