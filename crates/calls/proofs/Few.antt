-- A limit on the number of joins is kept, below the room of the store that it is set to.
--
--   one_more       a pair that is taken makes one join more
--   with_room      what the store takes is taken, where that keeps the limit
--   without_room   and is one too many, where it does not
--   unjoined_few   taking a pair out keeps the limit
use Rattle.std.proofs.Common.{◌≡◌, ℕ, ◌+◌, ◌<◌, ◌≤◌, Ok, Err, Result, arith}
use Rattle.std.proofs.lemmas.Bool.Decides.{nat_tests}
use Rattle.theory.specs.Graph.{Graph, Simple, size, joining, unjoining}
use Rattle.theory.proofs.Sizes.{joining_size, unjoining_size}
use Rattle.graph.specs.Store.{join_answer, unjoin_answer, after}
use Rattle.graph.specs.declared.fault.StoreFault.{StoreFault}
use Rattle.graph.specs.declared.fault.StoreFault.TheVariants.{Full}

pub one_more : (m : Graph) (room a b : ℕ) → Simple m → join_answer m room a b ≡ Ok tt → size (joining m a b) ≡ size m + 1
one_more m room a b simple taken =
    joining_size m a b (grind (arith, nat_tests, taken)) (grind (arith, nat_tests, taken)) (grind (arith, nat_tests, taken)) simple (grind (arith, nat_tests, taken))

module _ (m : Graph) (room a b most : ℕ) (simple : Simple m) (taken : join_answer m room a b ≡ Ok tt) where
  pub with_room : size (joining m a b) ≤ most → Ok tt ≡ join_answer m most a b
  with_room fits = let more = one_more m room a b simple taken in grind (arith, nat_tests, taken, more, fits)

  pub without_room : most < size (joining m a b) → Err (Full most) ≡ join_answer m most a b
  without_room over = let more = one_more m room a b simple taken in grind (arith, nat_tests, taken, more, over)

module _ (m : Graph) (a b most : ℕ) (simple : Simple m) (few : size m ≤ most) where
  pub unjoined_few : (r : Result Unit StoreFault) → r ≡ unjoin_answer m a b → size (after r (unjoining m a b) m) ≤ most
  unjoined_few (Ok _) taken =
      let less = unjoining_size m a b (grind (arith, nat_tests, taken)) (grind (arith, nat_tests, taken)) (grind (arith, nat_tests, taken)) simple (grind (arith, nat_tests, taken)) in
      omega (arith, less)
  unjoined_few (Err _) refused = few
