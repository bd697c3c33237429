-- What a list of pairs means.
--
--   held l a b    a pair of the list l is of the tables a and b
--   listed n l    the graph of n tables that joins the pairs of the list l
--   others a b    whether a pair is another than that of the tables a and b
use Rattle.std.specs.Prelude.{ℕ, Bool, not, List}
use Rattle.std.specs.List.{list_any}
use Rattle.theory.specs.Graph.{Graph, same_pair}

abbrev pub held : List (ℕ × ℕ) → ℕ → ℕ → Bool
held l a b = list_any (λ p. same_pair p.0 p.1 a b) l

abbrev pub listed : ℕ → List (ℕ × ℕ) → Graph
listed n l = record { tables = n; adj = held l }

abbrev pub others : ℕ → ℕ → ℕ × ℕ → Bool
others a b p = not (same_pair p.0 p.1 a b)
