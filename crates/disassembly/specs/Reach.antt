-- What a search tells: the tables that it reaches, and so which tables hold a graph together.
--
--   reached U J r x          the search from r discovers x
--   lowest_unreached U J r   the lowest table of U that it does not discover, or none
--   separates U J x          without x, the search from the lowest other table does not discover all other tables
--   lowest_separating U J    the lowest such table, or none
use Rattle.std.specs.Prelude.{ℕ, Bool, true, false, not, ◌&&◌, Some, None, Option}
use Rattle.disassembly.specs.Search.{has, lowest_from, searched}
use Rattle.disassembly.specs.Walks.{without}

abbrev pub is_some : Option ℕ → Bool
is_some (Some x) = true
is_some None = false

unfoldable pub reached : (ℕ → Bool) → (ℕ → ℕ → Bool) → ℕ → ℕ → Bool
reached U J r x = has (searched U J r).seen x

abbrev pub lowest_unreached : (ℕ → Bool) → (ℕ → ℕ → Bool) → ℕ → Option ℕ
lowest_unreached U J r = lowest_from 0 64 (λ x. U x && not (reached U J r x))

-- from the lowest table of U, where there is one, some table of U is not reached
abbrev pub parted_from : (ℕ → Bool) → (ℕ → ℕ → Bool) → Option ℕ → Bool
parted_from U J (Some r) = is_some (lowest_unreached U J r)
parted_from U J None = false

unfoldable pub separates : (ℕ → Bool) → (ℕ → ℕ → Bool) → ℕ → Bool
separates U J x = U x && parted_from (without x U) J (lowest_from 0 64 (without x U))

abbrev pub lowest_separating : (ℕ → Bool) → (ℕ → ℕ → Bool) → Option ℕ
lowest_separating U J = lowest_from 0 64 (separates U J)
