-- The ledger: fed with the number of tables, the capacity and the calls' arguments alone. It is a graph's tables with a set of pairs, which
-- no call but a join and an unjoin changes.
--
--   ledger_step cap m c    the ledger m after the call c: a join or an unjoin is accepted when none of the store's conditions holds, and
--                          then puts its pair in or takes it out
--   ledger cap m l         the ledger m after the calls l, one after another
--   Edit                   a pair put in, or taken out
--   is_of e a b            the edit is of the pair a, b
--   edits cap m l          the edits that the accepted ones of the calls l give rise to, in their order
--   NoneOf l a b           none of the edits l is of the pair a, b
--   LastPut l a b          the last of the edits l that is of the pair a, b puts it in
--   LedgerKeeps            the ledger's pairs are exactly those whose last accepted join or unjoin was a join
use Rattle.std.specs.Prelude.{◌≡◌, ℕ, Bool, true, false, ◌↔◌, List, [], ◌∷◌, ◌++◌, Ok, Err, Result}
use Rattle.theory.specs.Graph.{Graph, joined, same_pair, joining, unjoining, no_joins}
use Rattle.graph.specs.Store.{join_answer, unjoin_answer, after}
use Rattle.graph.specs.declared.fault.StoreFault.{StoreFault}
use Rattle.ledger.specs.declared.call.Call.{Call}
use Rattle.ledger.specs.declared.call.Call.TheVariants.{Join, Unjoin, Build, Drive, Fill, Tables, Joined, NextNeighbour, Capacity}

abbrev pub ledger_step : ℕ → Graph → Call → Graph
ledger_step capacity m (Join a b) = after (join_answer m capacity a b) (joining m a b) m
ledger_step capacity m (Unjoin a b) = after (unjoin_answer m a b) (unjoining m a b) m
ledger_step capacity m (Build k) = m
ledger_step capacity m (Drive j k) = m
ledger_step capacity m (Fill j i k) = m
ledger_step capacity m Tables = m
ledger_step capacity m (Joined a b) = m
ledger_step capacity m (NextNeighbour a b) = m
ledger_step capacity m Capacity = m

unfoldable pub ledger : ℕ → Graph → List Call → Graph
ledger capacity m [] = m
ledger capacity m (c ∷ l) = ledger capacity (ledger_step capacity m c) l

-- ---- in words

pub data Edit : Type 0 where
  put_in : ℕ → ℕ → Edit
  take_out : ℕ → ℕ → Edit

abbrev pub is_of : Edit → ℕ → ℕ → Bool
is_of (put_in p q) a b = same_pair p q a b
is_of (take_out p q) a b = same_pair p q a b

-- an edit that is refused is none
abbrev pub if_accepted : Result Unit StoreFault → Edit → List Edit → List Edit
if_accepted (Ok u) e later = e ∷ later
if_accepted (Err f) e later = later

abbrev pub edit_of : ℕ → Graph → Call → List Edit → List Edit
edit_of capacity m (Join a b) later = if_accepted (join_answer m capacity a b) (put_in a b) later
edit_of capacity m (Unjoin a b) later = if_accepted (unjoin_answer m a b) (take_out a b) later
edit_of capacity m (Build k) later = later
edit_of capacity m (Drive j k) later = later
edit_of capacity m (Fill j i k) later = later
edit_of capacity m Tables later = later
edit_of capacity m (Joined a b) later = later
edit_of capacity m (NextNeighbour a b) later = later
edit_of capacity m Capacity later = later

unfoldable pub edits : ℕ → Graph → List Call → List Edit
edits capacity m [] = []
edits capacity m (c ∷ l) = edit_of capacity m c (edits capacity (ledger_step capacity m c) l)

abbrev pub NoneOf : List Edit → ℕ → ℕ → Type 0
NoneOf [] a b = Unit {0}
NoneOf (e ∷ l) a b = (is_of e a b ≡ false) × NoneOf l a b

pub record LastPut (l : List Edit) (a b : ℕ) : Type 0 where
  pub before : List Edit
  pub p : ℕ
  pub q : ℕ
  pub later : List Edit
  pub stands : l ≡ before ++ (put_in p q ∷ later)
  pub of_pair : same_pair p q a b ≡ true
  pub none_later : NoneOf later a b

abbrev pub LedgerKeeps : Type 0
LedgerKeeps = (n capacity : ℕ) (l : List Call) (a b : ℕ)
    → (joined (ledger capacity (no_joins n) l) a b ≡ true) ↔ LastPut (edits capacity (no_joins n) l) a b
