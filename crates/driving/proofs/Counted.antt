-- Tables of a set, and rows written over.
--
--   counted_as       a set has as many tables as pass the test that tells them
--   how_many_same, how_many_most
--                    tests that agree, and the most that pass
--   counted_to       how many pass a test that no number from n on passes
--   row_set          a row written over
use Rattle.std.proofs.Common.{◌≡◌, ℕ, ◌<◌, ◌≤◌, Bool, false, cond, eqb, List, length, get_or, set, ap, ◌∙◌}
use Rattle.theory.specs.Graph.{count}
use Rattle.theory.proofs.Sizes.{count_same, count_le}
use Rattle.spanning.proofs.DriveCross.{count_in}
use Rattle.sets.specs.Set.{bit, bits_set}
use Rattle.sets.specs.Rows.{in_row}
use Rattle.traversal.proofs.Stacks.{get_or_set, of_either}
use Rattle.driving.specs.Counting.{how_many}

same_in : (p q : ℕ → Bool) (n : ℕ) → ((x : ℕ) → p x ≡ q x) → count p n ≡ count q n
same_in p q n h = count_same p q n (λ x _. h x)

pub counted_as : (y : ℕ) (p : ℕ → Bool) → ((x : ℕ) → bit y x ≡ p x) → bits_set y ≡ how_many p
unfolding bits_set how_many
counted_as y p h = same_in (bit y) p 64 h

pub how_many_same : (p q : ℕ → Bool) → ((x : ℕ) → p x ≡ q x) → how_many p ≡ how_many q
unfolding how_many
how_many_same p q h = same_in p q 64 h

pub how_many_most : (p : ℕ → Bool) → how_many p ≤ 64
unfolding how_many
how_many_most p = count_le p 64

counted_below : (p : ℕ → Bool) (n k : ℕ) → n ≤ k → ((x : ℕ) → n ≤ x → p x ≡ false) → count p k ≡ count p n
counted_below p n k h none = count_in p n k h none

pub counted_to : (p : ℕ → Bool) (n : ℕ) → n ≤ 64 → ((x : ℕ) → n ≤ x → p x ≡ false) → how_many p ≡ count p n
unfolding how_many
counted_to p n few none = counted_below p n 64 few none

pub row_set : (l : List ℕ) (u w s x : ℕ) → u < length l → in_row (set l u w) s x ≡ cond (eqb s u) (bit w x) (in_row l s x)
row_set l u w s x h = ap (λ (y : ℕ). bit y x) (get_or_set l u w s 0 h) ∙ of_either (λ (y : ℕ). bit y x) (eqb s u) w (get_or l s 0)
