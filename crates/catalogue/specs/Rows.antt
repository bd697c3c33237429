-- Row counts: what a stored number stands for, and what setting a record answers and leaves.
--
--   stored_count z           the count that the stored number z stands for: −1 is none
--   out_of_range z           z is below −1 or above 2,147,483,647
--   row_answer n t z         setting the record of table t, of n tables, to z: 1 no table, 21 out of range, or accepted
--   set_answer t z           the same, in a catalogue of 64 records
--   unknown                  a record without a count
--   row_record z             the record of the stored number z
--   records_after r l t z    the records l after z is set at t with the answer r: a refusal changes nothing
--   count_of l t             the count of table t in the 64 records l, and none past them
--   SetsOne l l' t z r       the answer r to setting z at t, and the records before and after: accepted, the count of t is
--                            the stored one and every other is as it was; refused, all records are
use Rattle.std.specs.Prelude.{◌≡◌, ℕ, Bool, cond, List, [], ◌∷◌, ℤ, pos, negsuc, Some, None, Option, Ok, Err, Result, ◌≢◌, nat_le, nat_lt, slice_index_or, slice_set}
use Rattle.graph.specs.First.{refused_first}
use Rattle.catalogue.specs.declared.catalogue.RowRecord.{RowRecord}
use Rattle.catalogue.specs.declared.fault.RowFault.{RowFault}
use Rattle.catalogue.specs.declared.fault.RowFault.TheVariants.{UnknownTable, OutOfRange}

-- the one place where a number comes to stand for a count
abbrev pub stored_count : ℤ → Option ℕ
stored_count (pos n) = Some n
stored_count (negsuc n) = None

abbrev pub out_of_range : ℤ → Bool
out_of_range (pos n) = nat_lt 2147483647 n
out_of_range (negsuc n) = nat_lt 0 n

abbrev pub row_answer : ℕ → ℕ → ℤ → Result Unit RowFault
row_answer n t z = refused_first
    ((nat_le n t, UnknownTable t)
    ∷ (out_of_range z, OutOfRange t z)
    ∷ [])

abbrev pub set_answer : ℕ → ℤ → Result Unit RowFault
set_answer t z = row_answer 64 t z

abbrev pub unknown : RowRecord
unknown = record { count = None }

abbrev pub row_record : ℤ → RowRecord
row_record z = record { count = stored_count z }

abbrev pub records_after : Result Unit RowFault → List RowRecord → ℕ → ℤ → List RowRecord
records_after (Ok u) l t z = slice_set l t (row_record z)
records_after (Err f) l t z = l

abbrev pub count_of : List RowRecord → ℕ → Option ℕ
count_of l t = cond (nat_lt t 64) (slice_index_or l t unknown).count None

pub record OneSet (before after : List RowRecord) (t : ℕ) (z : ℤ) : Type 0 where
  pub this : count_of after t ≡ stored_count z
  pub others : (x : ℕ) → (x ≢ t) → count_of after x ≡ count_of before x

abbrev pub SetsOne : List RowRecord → List RowRecord → ℕ → ℤ → Result Unit RowFault → Type 0
SetsOne before after t z (Ok u) = OneSet before after t z
SetsOne before after t z (Err f) = after ≡ before
