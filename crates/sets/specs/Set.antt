-- Sets of tables, as the bits of a number.
--
--   bit x k         whether table k is in the set x
--   bits_set x      how many tables are in the set x
--   one_bit k       the set of table k alone, as the code shifts it
--   lowest_in x     the lowest table of the set x, or none
--   tables_of x     the tables of the set x, in rising number
use Rattle.std.specs.Prelude.{ℕ, ◌*◌, ◌/◌, ◌%◌, ◌^◌, Bool, cond, Some, None, Option, List, ◌==◌}
use Rattle.std.specs.Int.Count.{count_trailing_zeros}
use Rattle.theory.specs.Graph.{count}
use Rattle.disassembly.specs.Disassembly.{passing}

abbrev pub bit : ℕ → ℕ → Bool
bit x k = x / 2 ^ k % 2 == 1

unfoldable pub bits_set : ℕ → ℕ
bits_set x = count (bit x) 64

abbrev pub one_bit : ℕ → ℕ
one_bit k = (1 * 2 ^ k) % 18446744073709551616

abbrev pub lowest_in : ℕ → Option ℕ
lowest_in x = cond (x == 0) None (Some (count_trailing_zeros 64 x))

unfoldable pub tables_of : ℕ → List ℕ
tables_of x = passing (bit x)
