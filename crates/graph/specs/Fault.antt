-- The number of each of a store's refusals, and the values that it names; and any refusal with its place.
--
--   store_number f   its number
--   store_values f   the tables or the amount that it names
--   marked p r       an answer with the place p, which a refusal carries
use Rattle.std.specs.Prelude.{ℕ, List, [], ◌∷◌, Ok, Err, Result}
use Rattle.graph.specs.declared.fault.At.{At}
use Rattle.graph.specs.declared.fault.StoreFault.{StoreFault}
use Rattle.graph.specs.declared.fault.StoreFault.TheVariants.{UnknownTable, SameTable, AlreadyJoined, NotJoined, Full}

abbrev pub store_number : StoreFault → ℕ
store_number (UnknownTable t) = 1
store_number (SameTable t) = 2
store_number (AlreadyJoined a b) = 3
store_number (NotJoined a b) = 4
store_number (Full c) = 5

-- the tables or the amount, and 0 where it names one alone
abbrev pub store_values : StoreFault → List ℕ
store_values (UnknownTable t) = t ∷ 0 ∷ []
store_values (SameTable t) = t ∷ 0 ∷ []
store_values (AlreadyJoined a b) = a ∷ b ∷ []
store_values (NotJoined a b) = a ∷ b ∷ []
store_values (Full c) = c ∷ 0 ∷ []

abbrev pub marked : {F : Type 0} → ℕ → Result Unit F → Result Unit (At F)
marked p (Ok u) = Ok u
marked p (Err f) = Err (record { place = p; fault = f })
