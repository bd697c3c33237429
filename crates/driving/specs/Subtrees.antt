-- What lies under each table of a tree, gathered in the order in which a search left the tables.
--
--   Begins b               b before any table is gone through
--   Gathers row p v b b'   b' is b once table v was gone through: p is its parent, and `row` the tables that its unmarked joins lead to
--   TellsTree m t b        b tells of the tree t what is under each table, and how many cross joins m has for table 0
use Rattle.std.specs.Prelude.{◌≡◌, ℕ, ◌+◌, not, ◌&&◌, ◌||◌, replicate, ◌==◌}
use Rattle.theory.specs.Graph.{Graph}
use Rattle.spanning.specs.Crossing.{cross_count}
use Rattle.spanning.specs.Laws.{TellsUnder}
use Rattle.sets.specs.Set.{bit}
use Rattle.sets.specs.Rows.{in_row}
use Rattle.driving.specs.Counting.{how_many}
use Rattle.driving.specs.declared.subtrees.Subtrees.{Subtrees}

pub record Begins (b : Subtrees) : Type 0 where
  pub under : b.under ≡ replicate 64 0
  pub gone : b.gone ≡ 0
  pub cross : b.cross ≡ 0

pub record Gathers (row p v : ℕ) (b b' : Subtrees) : Type 0 where
  pub under : (s x : ℕ) → in_row b'.under s x ≡ (((s == p || s == v) && (x == v || in_row b.under v x)) || in_row b.under s x)
  pub gone : (x : ℕ) → bit b'.gone x ≡ (x == v || bit b.gone x)
  -- the joins with tables gone through that are not under v
  pub cross : b'.cross ≡ b.cross + how_many (λ x. (bit row x && bit b.gone x) && not (x == v || in_row b.under v x))

pub record TellsTree (m t : Graph) (b : Subtrees) : Type 0 where
  pub under : TellsUnder t (in_row b.under)
  pub cross : b.cross ≡ cross_count m t 0
