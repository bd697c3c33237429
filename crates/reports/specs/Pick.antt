-- The pick among the driving tables of a report.
--
--   drives_in l x          x is the turn of one of the first 64 records of l, and that record says that its table drives
--   Counted l rows x c     x drives by l, and its known count is c
--   LowestCount l rows x   x drives, its count is known, and that of no driving table is lower, or the same at a lower table
--   LowestTable l rows x   x is the lowest driving table, and the count of none that drives is known
--   Picks l rows o         what is picked: a table of lowest count; where none is known, the lowest driving table; none where none drives
--   is_lower o p           the count o is lower than the count p: a known one is lower than one that is not known
--   better rows a b        of two driving tables, b the higher, the one to be picked
--   driving l              the driving tables, in rising order
--   picked l rows          the same as a function: of the driving tables the best, from the lowest on
use Rattle.std.specs.Prelude.{◌≡◌, ℕ, ◌<◌, ◌≤◌, Bool, true, false, cond, ◌&&◌, ◌⊎◌, List, Some, None, Option, nat_lt, slice_index_or}
use Rattle.std.specs.List.{filter, range_with_len, reduce}
use Rattle.catalogue.specs.Rows.{count_of}
use Rattle.catalogue.specs.declared.catalogue.RowRecord.{RowRecord}
use Rattle.reports.specs.declared.record.ReportRecord.{ReportRecord}

-- past the last record no table drives
abbrev pub silent : ReportRecord
silent = record { cross = 0; drives = false }

abbrev pub drives_in : List ReportRecord → ℕ → Bool
drives_in l x = nat_lt x 64 && (slice_index_or l x silent).drives

abbrev pub Counted : List ReportRecord → List RowRecord → ℕ → ℕ → Type 0
Counted l rows x c = (drives_in l x ≡ true) × (count_of rows x ≡ Some c)

abbrev pub LowestCount : List ReportRecord → List RowRecord → ℕ → Type 0
LowestCount l rows x = (c : ℕ) × Counted l rows x c
    × ((y d : ℕ) → Counted l rows y d → (c < d) ⊎ ((c ≡ d) × (x ≤ y)))

abbrev pub LowestTable : List ReportRecord → List RowRecord → ℕ → Type 0
LowestTable l rows x = (drives_in l x ≡ true)
    × ((y : ℕ) → drives_in l y ≡ true → x ≤ y)
    × ((y c : ℕ) → Counted l rows y c → ⊥)

abbrev pub Picks : List ReportRecord → List RowRecord → Option ℕ → Type 0
Picks l rows (Some x) = LowestCount l rows x ⊎ LowestTable l rows x
Picks l rows None = (x : ℕ) → drives_in l x ≡ false

-- no case compares a count that is not known as a number
abbrev pub is_lower : Option ℕ → Option ℕ → Bool
is_lower None o = false
is_lower (Some c) None = true
is_lower (Some c) (Some d) = nat_lt c d

-- equal counts, and tables without one, leave the lower table
abbrev pub better : List RowRecord → ℕ → ℕ → ℕ
better rows a b = cond (is_lower (count_of rows b) (count_of rows a)) b a

abbrev pub driving : List ReportRecord → List ℕ
driving l = filter (λ x. (slice_index_or l x silent).drives) (range_with_len 0 64)

abbrev pub picked : List ReportRecord → List RowRecord → Option ℕ
picked l rows = reduce (better rows) (driving l)
