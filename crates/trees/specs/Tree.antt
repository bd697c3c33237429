-- Filling a spanning tree: what each mark, and a list of them, is answered, and what the tree is afterwards.
--
--   leads t a b             the marks of t lead from table a to table b
--   mark_answer m t k       mark k, of the graph m, after the marks of t: 1 no table, 2 the same table, 4 no join, 19 it closes a ring
--                           or repeats a mark, or accepted
--   marks_judged m t i l    the marks l after those of t, the first of them at turn i: the first refusal with its turn, or accepted
--   fill_answer m l         18 where the marks l are not one fewer than the tables of m, then each mark in turn
--   has_mark l a b          some of the marks l is that of a and b
--   marked n l              n tables, and exactly the marks l
--   tree_after r t old      the tree after a filling that is answered r: the new tree, and after a refusal the old one
--   AllJoins m l            all marks l are joins of m
--   MarksTree m l           the marks l make a spanning tree of the graph m: all are joins of m, one fewer than tables, and they
--                           connect all tables without a ring
--   FillsExactly m l r      a filling is accepted exactly when its marks make a spanning tree of the graph
--   MarkAmiss m t k f       what is amiss with mark k after the marks of t, in words of walks
--   Earlier m l i           the marks before turn i are joins of m, close no ring and repeat none
--   FaultTold m l f, FillRefused m l r
--                           what a refusal tells: 18 another number of marks; else the first mark that is amiss, and what is
use Rattle.std.specs.Prelude.{◌≡◌, ℕ, ◌+◌, ◌-◌, ◌<◌, ◌≤◌, Bool, true, false, cond, not, ◌||◌, ◌⊎◌, ◌↔◌, List, [], ◌∷◌, length, take, slice_get, Some, Ok, Err, Result, ◌==◌, ◌≢◌}
use Rattle.theory.specs.Graph.{Graph, joined, is_table, table_count, same_pair, joining, no_joins}
use Rattle.theory.specs.declared.mark.Mark.{Mark}
use Rattle.graph.specs.First.{refused_first}
use Rattle.graph.specs.declared.fault.StoreFault.TheVariants.{UnknownTable, SameTable, AlreadyJoined, NotJoined, Full}
use Rattle.disassembly.specs.Reach.{reached}
use Rattle.disassembly.specs.Walks.{Reaches}
use Rattle.spanning.specs.Spanning.{Spanning}
use Rattle.spanning.specs.Laws.{Acyclic}
use Rattle.trees.specs.declared.fault.MarkFault.{MarkFault}
use Rattle.trees.specs.declared.fault.MarkFault.TheVariants.{Store, ClosesRing}
use Rattle.trees.specs.declared.fault.TreeFault.{TreeFault}
use Rattle.trees.specs.declared.fault.TreeFault.TheVariants as filling

abbrev pub leads : Graph → ℕ → ℕ → Bool
leads t a b = reached (is_table t) (joined t) a b

-- the one place where a mark is judged
abbrev pub mark_answer : Graph → Graph → Mark → Result Unit MarkFault
mark_answer m t k = refused_first
    ((not (is_table m k.v), Store (UnknownTable k.v))
    ∷ (not (is_table m k.w), Store (UnknownTable k.w))
    ∷ ((k.v == k.w), Store (SameTable k.v))
    ∷ (not (joined m k.v k.w), Store (NotJoined k.v k.w))
    ∷ (leads t k.v k.w, ClosesRing k.v k.w)
    ∷ [])

abbrev pub refused_at : ℕ → Result Unit MarkFault → Result Unit TreeFault → Result Unit TreeFault
refused_at i (Ok u) next = next
refused_at i (Err f) next = Err (filling.Mark i f)

unfoldable pub marks_judged : Graph → Graph → ℕ → List Mark → Result Unit TreeFault
marks_judged m t i [] = Ok tt
marks_judged m t i (k ∷ l) = refused_at i (mark_answer m t k) (marks_judged m (joining t k.v k.w) (i + 1) l)

unfoldable pub fill_answer : Graph → List Mark → Result Unit TreeFault
fill_answer m l = cond (length l + 1 == table_count m) (marks_judged m (no_joins (table_count m)) 0 l) (Err (filling.WrongCount (table_count m - 1)))

abbrev pub has_mark : List Mark → ℕ → ℕ → Bool
has_mark [] a b = false
has_mark (k ∷ l) a b = same_pair k.v k.w a b || has_mark l a b

abbrev pub marked : ℕ → List Mark → Graph
marked n l = record { tables = n; adj = has_mark l }

abbrev pub tree_after : Result Unit TreeFault → Graph → Graph → Graph
tree_after (Ok u) t old = t
tree_after (Err f) t old = old

-- ---- in words

abbrev pub AllJoins : Graph → List Mark → Type 0
AllJoins m l = (i : ℕ) (k : Mark) → slice_get l i ≡ Some k → joined m k.v k.w ≡ true

pub record MarksTree (m : Graph) (l : List Mark) : Type 0 where
  pub fewer : length l + 1 ≡ table_count m
  pub joins : AllJoins m l
  pub spanning : Spanning (marked (table_count m) l)

abbrev pub FillsExactly : Graph → List Mark → Result Unit TreeFault → Type 0
FillsExactly m l r = (r ≡ Ok tt) ↔ MarksTree m l

-- the first condition that holds of the mark
abbrev pub MarkAmiss : Graph → Graph → Mark → MarkFault → Type 0
MarkAmiss m t k (Store (UnknownTable x)) = (table_count m ≤ x) × ((x ≡ k.v) ⊎ ((x ≡ k.w) × (k.v < table_count m)))
MarkAmiss m t k (Store (SameTable x)) = (x < table_count m) × (x ≡ k.v) × (k.v ≡ k.w)
MarkAmiss m t k (Store (NotJoined x y)) = (x ≡ k.v) × (y ≡ k.w) × (x < table_count m) × (y < table_count m) × (x ≢ y) × (joined m x y ≡ false)
MarkAmiss m t k (Store (AlreadyJoined x y)) = ⊥
MarkAmiss m t k (Store (Full c)) = ⊥
MarkAmiss m t k (ClosesRing x y) = (x ≡ k.v) × (y ≡ k.w) × (joined m x y ≡ true) × Reaches (is_table t) (joined t) x y

pub record Earlier (m : Graph) (l : List Mark) (i : ℕ) : Type 0 where
  pub joins : AllJoins m (take i l)
  pub acyclic : Acyclic (marked (table_count m) (take i l))
  -- nothing is amiss with any of them after those before it, so that the mark at turn i is the first that is refused
  pub sound : (j : ℕ) (k : Mark) (f : MarkFault) → j < i → slice_get l j ≡ Some k → MarkAmiss m (marked (table_count m) (take j l)) k f → ⊥

abbrev pub FaultTold : Graph → List Mark → TreeFault → Type 0
FaultTold m l (filling.WrongCount k) = (k + 1 ≡ table_count m) × (length l ≢ k)
FaultTold m l (filling.Mark i f) = (length l + 1 ≡ table_count m) × Earlier m l i
    × ((k : Mark) × (slice_get l i ≡ Some k) × MarkAmiss m (marked (table_count m) (take i l)) k f)

abbrev pub FillRefused : Graph → List Mark → Result Unit TreeFault → Type 0
FillRefused m l r = (f : TreeFault) → r ≡ Err f → FaultTold m l f
