-- The number of each refusal of a mark and of a tree's filling, and the values, the layer and the place of each.
--
--   mark_number f   a mark's refusal: its number, where a store's refusal keeps its own
--   mark_values f   the tables that it names, and 0 where it names one alone
--   tree_number f   a filling's refusal: its number
--   tree_turn f     the turn of the mark that is refused, from 0, or 0
--   tree_values f   what the mark's refusal names; or how many marks are needed, and 0
--   tree_layer f    4 for all of them
--   tree_place f    the mark's turn, or 0
use Rattle.std.specs.Prelude.{ℕ, List, [], ◌∷◌}
use Rattle.graph.specs.Fault.{store_number, store_values}
use Rattle.trees.specs.declared.fault.MarkFault.{MarkFault}
use Rattle.trees.specs.declared.fault.MarkFault.TheVariants.{Store, ClosesRing}
use Rattle.trees.specs.declared.fault.TreeFault.{TreeFault}
use Rattle.trees.specs.declared.fault.TreeFault.TheVariants.{WrongCount, Mark}

abbrev pub mark_number : MarkFault → ℕ
mark_number (Store f) = store_number f
mark_number (ClosesRing v w) = 19

abbrev pub mark_values : MarkFault → List ℕ
mark_values (Store f) = store_values f
mark_values (ClosesRing v w) = v ∷ w ∷ []

abbrev pub tree_number : TreeFault → ℕ
tree_number (WrongCount k) = 18
tree_number (Mark i f) = mark_number f

abbrev pub tree_turn : TreeFault → ℕ
tree_turn (WrongCount k) = 0
tree_turn (Mark i f) = i

abbrev pub tree_values : TreeFault → List ℕ
tree_values (WrongCount k) = k ∷ 0 ∷ []
tree_values (Mark i f) = mark_values f

abbrev pub tree_layer : TreeFault → ℕ
tree_layer f = 4

abbrev pub tree_place : TreeFault → ℕ
tree_place f = tree_turn f
