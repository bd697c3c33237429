-- The build lists of two small graphs, computed: that the definitions say what they should.
--
--   five_tables   five tables and six joins
--   four_tables   four tables, each two of them joined
use Rattle.std.proofs.Common.{◌≡◌, ℕ, Bool, false, ◌||◌, ltb, List, [], ◌∷◌, refl}
use Rattle.theory.specs.Graph.{same_pair}
use Rattle.theory.specs.declared.step.Step.TheVariants.{Edge, Node}
use Rattle.disassembly.specs.Search.{moves}
use Rattle.disassembly.specs.Disassembly.{given, given_at, remaining, all_notes, taken, noted, nearest_of}

-- the joins of a list of pairs
abbrev joined_by : List (ℕ × ℕ) → ℕ → ℕ → Bool
joined_by [] a b = false
joined_by (e ∷ l) a b = same_pair e.0 e.1 a b || joined_by l a b

five_tables : given (λ x. ltb x 5) (joined_by ((0, 1) ∷ (0, 4) ∷ (1, 2) ∷ (1, 3) ∷ (2, 3) ∷ (3, 4) ∷ [])) 0
    ≡ record { triangle = record { a = 0; b = 1; c = 2 }; steps = Node 3 0 2 ∷ Edge 1 3 ∷ Node 4 0 3 ∷ [] }
unfolding given given_at moves remaining all_notes taken noted nearest_of
five_tables = refl

four_tables : given (λ x. ltb x 4) (joined_by ((0, 1) ∷ (0, 2) ∷ (0, 3) ∷ (1, 2) ∷ (1, 3) ∷ (2, 3) ∷ [])) 0
    ≡ record { triangle = record { a = 0; b = 1; c = 2 }; steps = Node 3 0 2 ∷ Edge 0 2 ∷ Edge 1 3 ∷ [] }
unfolding given given_at moves remaining all_notes taken noted nearest_of
four_tables = refl
