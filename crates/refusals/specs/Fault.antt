-- The number of each of a replay's refusals, its step, the values that it names, its layer and its place.
--
--   replay_number f   its number: a store's refusal keeps its own
--   replay_step f     the step that it names: 0 is the triangle
--   replay_values f   the table that it names, or what the store's refusal names
--   replay_layer f    its layer: 2 for the store's refusals, else 3
--   replay_place f    its step, or the table that no step has put into use
use Rattle.std.specs.Prelude.{ℕ, List, [], ◌∷◌}
use Rattle.graph.specs.Fault.{store_number, store_values}
use Rattle.refusals.specs.declared.fault.ReplayFault.{ReplayFault}
use Rattle.refusals.specs.declared.fault.ReplayFault.TheVariants.{Store, HasJoins, NotTriangle, InUse, NotInUse, Unused}

abbrev pub replay_number : ReplayFault → ℕ
replay_number (Store k f) = store_number f
replay_number HasJoins = 10
replay_number NotTriangle = 11
replay_number (InUse k t) = 12
replay_number (NotInUse k t) = 13
replay_number (Unused t) = 14

abbrev pub replay_step : ReplayFault → ℕ
replay_step (Store k f) = k
replay_step HasJoins = 0
replay_step NotTriangle = 0
replay_step (InUse k t) = k
replay_step (NotInUse k t) = k
replay_step (Unused t) = 0

-- what a store's refusal names, or the table, and 0 where there is no more
abbrev pub replay_values : ReplayFault → List ℕ
replay_values (Store k f) = store_values f
replay_values HasJoins = 0 ∷ 0 ∷ []
replay_values NotTriangle = 0 ∷ 0 ∷ []
replay_values (InUse k t) = t ∷ 0 ∷ []
replay_values (NotInUse k t) = t ∷ 0 ∷ []
replay_values (Unused t) = t ∷ 0 ∷ []

abbrev pub replay_layer : ReplayFault → ℕ
replay_layer (Store k f) = 2
replay_layer HasJoins = 3
replay_layer NotTriangle = 3
replay_layer (InUse k t) = 3
replay_layer (NotInUse k t) = 3
replay_layer (Unused t) = 3

abbrev pub replay_place : ReplayFault → ℕ
replay_place (Store k f) = k
replay_place HasJoins = 0
replay_place NotTriangle = 0
replay_place (InUse k t) = k
replay_place (NotInUse k t) = k
replay_place (Unused t) = t
