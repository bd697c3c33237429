-- What a driving request amounts to, in the words of marked paths and depth-first searches. m is the graph, t the tree, r the answer, and
-- l the records after.
--
--   Cross m t r a b       a and b are joined, the join is not marked, and neither lies on the marked path from r to the other
--   CountsCross m t r     the pairs that the cross count of r counts are exactly these
--   RecordTells m t x l   the record of table x tells its cross count, and that it drives exactly when some depth-first search of the graph's
--                         joins, begun there, walks precisely the marks
--   Reported m t r l      accepted, the record of each table does
--   Towards t x p         p is the table that the mark of x towards table 0 leads to: they are marked, and p is on the marked path from
--                         table 0 to x
--   MarksJoined m t       all marks are joins of the graph
--   DriveNamedBy, DriveNamed m t room r
--                         what a refusal tells: 20 another number of tables; 4 as many, and the lowest table whose mark towards table 0
--                         is no join; 9 as many tables, all marks are joins, and fewer records than tables
--   AcceptedExactly ..    accepted exactly when the tree has as many tables, its marks are joins of the graph, and there are records
--                         enough
use Rattle.std.specs.Prelude.{◌≡◌, ℕ, ◌<◌, ◌≤◌, true, false, ◌↔◌, List, slice_index_or, Ok, Err, Result, ◌≢◌}
use Rattle.theory.specs.Graph.{Graph, joined, table_count}
use Rattle.spanning.specs.Crossing.{OnPath, cross, cross_count}
use Rattle.spanning.specs.Driving.{Drives}
use Rattle.reports.specs.declared.record.ReportRecord.{ReportRecord}
use Rattle.reports.specs.Pick.{silent}
use Rattle.driving.specs.declared.fault.DriveFault.{DriveFault}
use Rattle.driving.specs.declared.fault.DriveFault.TheVariants.{OtherCount, NotJoined, TooFewRecords}

pub record Cross (m t : Graph) (r a b : ℕ) : Type 0 where
  pub join : joined m a b ≡ true
  pub unmarked : joined t a b ≡ false
  pub first : OnPath t r a b → ⊥
  pub second : OnPath t r b a → ⊥

-- the pairs counted are exactly the cross joins
abbrev pub CountsCross : Graph → Graph → ℕ → Type 0
CountsCross m t r = (a b : ℕ) → a < table_count m → b < table_count m → (cross m t r a b ≡ true) ↔ Cross m t r a b

pub record RecordTells (m t : Graph) (x : ℕ) (l : List ReportRecord) : Type 0 where
  pub count : (slice_index_or l x silent).cross ≡ cross_count m t x
  pub counts : CountsCross m t x
  pub drives : ((slice_index_or l x silent).drives ≡ true) ↔ Drives m t x
  -- which is so exactly when no join is a cross join
  pub zero : Drives m t x ↔ (cross_count m t x ≡ 0)

abbrev pub Reported : Graph → Graph → Result Unit DriveFault → List ReportRecord → Type 0
Reported m t r l = r ≡ Ok tt → (x : ℕ) → x < table_count m → RecordTells m t x l

abbrev pub Towards : Graph → ℕ → ℕ → Type 0
Towards t x p = (joined t x p ≡ true) × OnPath t 0 p x

abbrev pub MarksJoined : Graph → Graph → Type 0
MarksJoined m t = (a b : ℕ) → joined t a b ≡ true → joined m a b ≡ true

abbrev pub DriveNamedBy : Graph → Graph → ℕ → DriveFault → Type 0
DriveNamedBy m t room (OtherCount a b) = (a ≡ table_count t) × (b ≡ table_count m) × (a ≢ b)
DriveNamedBy m t room (NotJoined x) = (table_count t ≡ table_count m) × ((p : ℕ) × Towards t x p × (joined m x p ≡ false))
    × ((y p : ℕ) → y < x → Towards t y p → joined m y p ≡ true)
DriveNamedBy m t room (TooFewRecords k) = (table_count t ≡ table_count m) × MarksJoined m t × (k ≡ table_count m) × (room < k)

abbrev pub DriveNamed : Graph → Graph → ℕ → Result Unit DriveFault → Type 0
DriveNamed m t room r = (f : DriveFault) → r ≡ Err f → DriveNamedBy m t room f

abbrev pub AcceptedExactly : Graph → Graph → ℕ → Result Unit DriveFault → Type 0
AcceptedExactly m t room r = (r ≡ Ok tt) ↔ ((table_count t ≡ table_count m) × MarksJoined m t × (table_count m ≤ room))
