-- The rising depth-first search: it starts at a table r and takes undiscovered neighbours in rising number. All lists have the
-- most recent table first.
--
--   has l x              x is in the list l
--   fresh U J seen t y   y is an undiscovered neighbour of t among the tables of U
--   Visit U J parent r stack seen left
--                        the search from r can have come so far: it stands on the tables of `stack`, has discovered those of
--                        `seen`, each from its parent, and has left those of `left` for good
--   discovery seen x     the discovery number of x: how many tables were discovered before it
--   lowest_from k n p    the lowest of the n numbers from k on that passes the test p, or none
--   Place                where a search stands
--   moved U J p          the place after one more move: on to the lowest undiscovered neighbour, or back
--   moves k U J p        the place after k moves
--   searched U J r       the place at the end of the search from r: each of 64 tables is discovered and left at most once
use Rattle.std.specs.Prelude.{◌≡◌, ℕ, zero, suc, ◌+◌, Bool, false, cond, not, ◌&&◌, ◌||◌, List, [], ◌∷◌, length, Some, None, Option, ◌==◌}
use Rattle.theory.specs.Graph.{Lowest}

abbrev pub has : List ℕ → ℕ → Bool
has [] x = false
has (y ∷ l) x = x == y || has l x

abbrev pub fresh : (ℕ → Bool) → (ℕ → ℕ → Bool) → List ℕ → ℕ → ℕ → Bool
fresh U J seen t y = (J t y && U y) && not (has seen y)

pub data Visit (U : ℕ → Bool) (J : ℕ → ℕ → Bool) (parent : ℕ → ℕ) (r : ℕ) : List ℕ → List ℕ → List ℕ → Type 0 where
  begin : Visit U J parent r (r ∷ []) (r ∷ []) []
  -- the lowest undiscovered neighbour of the table it stands on is discovered from there
  discover : {t u : ℕ} {stack seen left : List ℕ} → Visit U J parent r (t ∷ stack) seen left → Lowest (fresh U J seen t) 0 u → parent u ≡ t
      → Visit U J parent r (u ∷ t ∷ stack) (u ∷ seen) left
  -- a table without an undiscovered neighbour is left for good
  leave : {t : ℕ} {stack seen left : List ℕ} → Visit U J parent r (t ∷ stack) seen left → ((y : ℕ) → fresh U J seen t y ≡ false)
      → Visit U J parent r stack seen (t ∷ left)

abbrev pub discovery : List ℕ → ℕ → ℕ
discovery [] x = 0
discovery (y ∷ l) x = cond (x == y) (length l) (discovery l x)

abbrev pub lowest_from : ℕ → ℕ → (ℕ → Bool) → Option ℕ
lowest_from k zero p = None
lowest_from k (suc n) p = cond (p k) (Some k) (lowest_from (k + 1) n p)

pub record Place : Type 0 where
  pub parent : ℕ → ℕ
  pub stack : List ℕ
  pub seen : List ℕ
  pub left : List ℕ

abbrev pub with_parent : ℕ → ℕ → (ℕ → ℕ) → ℕ → ℕ
with_parent u t f x = cond (x == u) t (f x)

-- from table t on, with the tables of st below it on the stack
abbrev pub move : Option ℕ → ℕ → List ℕ → Place → Place
move (Some u) t st p = record { parent = with_parent u t p.parent; stack = u ∷ t ∷ st; seen = u ∷ p.seen; left = p.left }
move None t st p = record { parent = p.parent; stack = st; seen = p.seen; left = t ∷ p.left }

abbrev pub moved_from : (ℕ → Bool) → (ℕ → ℕ → Bool) → List ℕ → Place → Place
moved_from U J [] p = p
moved_from U J (t ∷ st) p = move (lowest_from 0 64 (fresh U J p.seen t)) t st p

abbrev pub moved : (ℕ → Bool) → (ℕ → ℕ → Bool) → Place → Place
moved U J p = moved_from U J p.stack p

unfoldable pub moves : ℕ → (ℕ → Bool) → (ℕ → ℕ → Bool) → Place → Place
moves zero U J p = p
moves (suc k) U J p = moves k U J (moved U J p)

abbrev pub at_start : ℕ → Place
at_start r = record { parent = λ _. 0; stack = r ∷ []; seen = r ∷ []; left = [] }

abbrev pub searched : (ℕ → Bool) → (ℕ → ℕ → Bool) → ℕ → Place
searched U J r = moves 128 U J (at_start r)
