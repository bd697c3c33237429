-- What an order of tables says.
--
--   tables_in o        the tables in the order o, one after another
--   has_place o        there are fewer than 64
--   push_answer o t    the answer to one table more, t: it is given back where there is no place
--   tables_after o t   the tables after it: t is the last where there was a place
use Rattle.std.specs.Prelude.{ℕ, Bool, cond, List, [], ◌∷◌, ◌++◌, length, take, nat_lt, Result, Ok, Err}
use Rattle.traversal.specs.declared.order.TableOrder.{TableOrder}

abbrev pub tables_in : TableOrder → List ℕ
tables_in o = take o.len o.tables

abbrev pub has_place : TableOrder → Bool
has_place o = nat_lt (length (tables_in o)) 64

abbrev pub push_answer : TableOrder → ℕ → Result Unit ℕ
push_answer o t = cond (has_place o) (Ok tt) (Err t)

abbrev pub tables_after : TableOrder → ℕ → List ℕ
tables_after o t = cond (has_place o) (tables_in o ++ t ∷ []) (tables_in o)
