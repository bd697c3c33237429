-- What comparing the keys of two graphs answers: m and k are the graphs, a and b the numbers of records lent for each.
--
--   key_number, key_value, key_graph   the number of a refusal, what it names, and whose it is
--   Compared m k a b r                 the first graph's refusal, or else the second's, or else whether the lists are equal
--   second_after j k l                 the second's records after: it is not asked where j refuses the first
--   OneKey m k r                       the keys are equal exactly when the graphs agree on every pair of tables
use Rattle.std.specs.Prelude.{◌≡◌, ℕ, Bool, true, ◌↔◌, List, Ok, Err, Result}
use Rattle.theory.specs.Graph.{Graph, joined}
use Rattle.theory.specs.declared.step.Step.{Step}
use Rattle.refusals.specs.Build.{build_number, build_value}
use Rattle.refusals.specs.declared.build.BuildFault.{BuildFault}
use Rattle.assembly.specs.Build.{list_of, build_judged, records_after}
use Rattle.keys.specs.declared.key.KeyFault.{KeyFault}
use Rattle.keys.specs.declared.key.KeyFault.TheVariants.{First, Second}

abbrev pub key_number : KeyFault → ℕ
key_number (First f) = build_number f
key_number (Second f) = build_number f

abbrev pub key_value : KeyFault → ℕ
key_value (First f) = build_value f
key_value (Second f) = build_value f

abbrev pub key_graph : KeyFault → ℕ
key_graph (First f) = 1
key_graph (Second f) = 2

abbrev pub ComparedBy : Result Unit BuildFault → Result Unit BuildFault → Graph → Graph → Result Bool KeyFault → Type 0
ComparedBy (Err f) j m k r = r ≡ Err (First f)
ComparedBy (Ok u) (Err f) m k r = r ≡ Err (Second f)
ComparedBy (Ok u) (Ok w) m k r = (e : Bool) × (r ≡ Ok e) × ((e ≡ true) ↔ (list_of m ≡ list_of k))

abbrev pub Compared : Graph → Graph → ℕ → ℕ → Result Bool KeyFault → Type 0
Compared m k a b r = ComparedBy (build_judged m a) (build_judged k b) m k r

abbrev pub second_after : Result Unit BuildFault → Graph → List Step → List Step
second_after (Ok u) k l = records_after k l
second_after (Err f) k l = l

abbrev pub OneKey : Graph → Graph → Result Bool KeyFault → Type 0
OneKey m k r = (e : Bool) → r ≡ Ok e → (e ≡ true) ↔ ((x y : ℕ) → joined m x y ≡ joined k x y)
