-- What an edit answers, and what it makes of the meaning: the conditions stand in their order of checking.
--
--   join_answer m capacity a b   1 no table, 2 the same table, 3 joined already, 5 full, or accepted
--   unjoin_answer m a b          1 no table, 2 the same table, 4 not joined, or accepted
--   after r changed same         the meaning after an edit that answers r: a refusal changes nothing
use Rattle.std.specs.Prelude.{ℕ, not, [], ◌∷◌, Ok, Err, Result, ◌==◌, nat_le}
use Rattle.theory.specs.Graph.{Graph, joined, is_table, size}
use Rattle.graph.specs.First.{refused_first}
use Rattle.graph.specs.declared.fault.StoreFault.{StoreFault}
use Rattle.graph.specs.declared.fault.StoreFault.TheVariants.{UnknownTable, SameTable, AlreadyJoined, NotJoined, Full}

abbrev pub join_answer : Graph → ℕ → ℕ → ℕ → Result Unit StoreFault
join_answer m capacity a b = refused_first
    ((not (is_table m a), UnknownTable a)
    ∷ (not (is_table m b), UnknownTable b)
    ∷ ((a == b), SameTable a)
    ∷ (joined m a b, AlreadyJoined a b)
    ∷ (nat_le capacity (size m), Full capacity)
    ∷ [])

abbrev pub unjoin_answer : Graph → ℕ → ℕ → Result Unit StoreFault
unjoin_answer m a b = refused_first
    ((not (is_table m a), UnknownTable a)
    ∷ (not (is_table m b), UnknownTable b)
    ∷ ((a == b), SameTable a)
    ∷ (not (joined m a b), NotJoined a b)
    ∷ [])

abbrev pub after : Result Unit StoreFault → Graph → Graph → Graph
after (Ok u) changed same = changed
after (Err e) changed same = same
