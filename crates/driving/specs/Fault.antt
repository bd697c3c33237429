-- The number of each of a driving request's refusals, the values that it names, its layer and its place.
--
--   drive_number f   its number
--   drive_values f   the tables or the amount that it names, and 0 where it names one alone
--   drive_layer f    4 for all of them
--   drive_place f    the table or the amount, or 0
use Rattle.std.specs.Prelude.{ℕ, List, [], ◌∷◌}
use Rattle.driving.specs.declared.fault.DriveFault.{DriveFault}
use Rattle.driving.specs.declared.fault.DriveFault.TheVariants.{OtherCount, NotJoined, TooFewRecords}

abbrev pub drive_number : DriveFault → ℕ
drive_number (OtherCount t g) = 20
drive_number (NotJoined x) = 4
drive_number (TooFewRecords k) = 9

abbrev pub drive_values : DriveFault → List ℕ
drive_values (OtherCount t g) = t ∷ g ∷ []
drive_values (NotJoined x) = x ∷ 0 ∷ []
drive_values (TooFewRecords k) = k ∷ 0 ∷ []

abbrev pub drive_layer : DriveFault → ℕ
drive_layer f = 4

abbrev pub drive_place : DriveFault → ℕ
drive_place (OtherCount t g) = 0
drive_place (NotJoined x) = x
drive_place (TooFewRecords k) = k
