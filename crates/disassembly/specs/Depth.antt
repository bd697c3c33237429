-- Depth-first search that is free in its choice among undiscovered neighbours. The tables discovered are listed with the most
-- recent first.
--
--   Recent J all p l   p is in the list l, and no table that stands before it there has a neighbour outside `all`
--   Search J parent r l
--                      a depth-first search from r can have discovered the tables l so far, each from its parent: the most recent
--                      table that has an undiscovered neighbour
use Rattle.std.specs.Prelude.{◌≡◌, ℕ, Bool, true, false, List, [], ◌∷◌}
use Rattle.disassembly.specs.Search.{has}

pub data Recent (J : ℕ → ℕ → Bool) (all : List ℕ) (p : ℕ) : List ℕ → Type 0 where
  top : {l : List ℕ} → Recent J all p (p ∷ l)
  below : {x : ℕ} {l : List ℕ} → ((y : ℕ) → J x y ≡ true → has all y ≡ true) → Recent J all p l → Recent J all p (x ∷ l)

pub data Search (J : ℕ → ℕ → Bool) (f : ℕ → ℕ) (r : ℕ) : List ℕ → Type 0 where
  start : Search J f r (r ∷ [])
  find : {u : ℕ} {l : List ℕ} → Search J f r l → has l u ≡ false → J (f u) u ≡ true → Recent J l (f u) l → Search J f r (u ∷ l)
