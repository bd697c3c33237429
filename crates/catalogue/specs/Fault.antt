-- The number of each refusal of a row count, and the values that it names.
--
--   row_number f   its number
--   row_values f   the table, and the stored number, or 0 where that is not at fault
use Rattle.std.specs.Prelude.{ℕ, List, [], ◌∷◌, ℤ, pos}
use Rattle.catalogue.specs.declared.fault.RowFault.{RowFault}
use Rattle.catalogue.specs.declared.fault.RowFault.TheVariants.{UnknownTable, OutOfRange}

abbrev pub row_number : RowFault → ℕ
row_number (UnknownTable t) = 1
row_number (OutOfRange t z) = 21

abbrev pub row_values : RowFault → List ℤ
row_values (UnknownTable t) = pos t ∷ pos 0 ∷ []
row_values (OutOfRange t z) = pos t ∷ z ∷ []
