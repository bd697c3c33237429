-- Taking tables away from a graph in the order in which the rising search leaves them, until three remain, and the build list
-- that this gives. First as a relation, in the words of the subject; then as a function, which computes the only list that
-- stands in it.
--
--   edge v w, node u v w    the steps, with the lower of the two tables v and w first
--   unjoin v w p            the part p without the join of v and w
--   stripped u vs p         the part p without the joins of u with the tables vs, removed one after another
--   spliced u f a p         the part p with u and its joins replaced by the join of f and a
--   RisingList p l          l has each number that passes the test p exactly once, in rising order, and nothing else
--   TakesAway parent rank u p notes q
--                           taking u away from part p gives the notes, in their order, and leaves part q
--   TakesAll parent rank us p notes q
--                           the same for the tables us, one after another
--   Disassembly U J r t l   triangle t and steps l are the build list of the tables U with the joins J, searched from r
--
--   passing n p             the numbers below n that pass the test p, in rising order
--   nearest rank b l        of b and the tables l, the first of lowest rank
--   taken, noted            what taking one table away leaves, and the notes of it
--   remaining, all_notes    the same for tables taken away one after another
--   corners l               the triangle of the first three tables of l
--   Given                   a build list: a triangle and steps
--   given U J r             the build list of the tables U with the joins J, searched from r
use Rattle.std.specs.Prelude.{◌≡◌, ℕ, zero, suc, ◌+◌, ◌<◌, ◌≤◌, Bool, true, cond, not, ◌&&◌, List, [], ◌∷◌, ◌++◌, length, ◌==◌, nat_lt, slice_index}
use Rattle.theory.specs.Build.{Part, Ascending, triangle, with_join, without_join}
use Rattle.theory.specs.declared.step.Step.{Step}
use Rattle.theory.specs.declared.step.Step.TheVariants.{Edge, Node}
use Rattle.theory.specs.declared.step.Triangle.{Triangle}
use Rattle.disassembly.specs.Search.{has, Visit, discovery, Place, searched}
use Rattle.disassembly.specs.Walks.{without}

abbrev pub edge : ℕ → ℕ → Step
edge v w = cond (nat_lt v w) (Edge v w) (Edge w v)

abbrev pub node : ℕ → ℕ → ℕ → Step
node u v w = cond (nat_lt v w) (Node u v w) (Node u w v)

abbrev pub unjoin : ℕ → ℕ → Part → Part
unjoin v w p = record { in_use = p.in_use; joins = without_join v w p.joins }

abbrev pub stripped : ℕ → List ℕ → Part → Part
stripped u [] p = p
stripped u (v ∷ vs) p = stripped u vs (unjoin u v p)

abbrev pub spliced : ℕ → ℕ → ℕ → Part → Part
spliced u f a p = record {
  in_use = without u p.in_use;
  joins = with_join f a (λ x y. (not (u == x) && not (u == y)) && p.joins x y);
}

abbrev pub edges : ℕ → List ℕ → List Step
edges u [] = []
edges u (v ∷ vs) = edge u v ∷ edges u vs

abbrev pub reversed : {A : Type 0} → List A → List A
reversed [] = []
reversed (x ∷ l) = reversed l ++ (x ∷ [])

pub record RisingList (p : ℕ → Bool) (l : List ℕ) : Type 0 where
  pub only : (x : ℕ) → has l x ≡ p x
  pub rises : (i j : ℕ) → i < j → j < length l → slice_index l i < slice_index l j

-- whether v is a neighbour of u, and neither f nor a
abbrev pub other : ℕ → ℕ → ℕ → Part → ℕ → Bool
other u f a p v = p.joins u v && (not (v == f) && not (v == a))

-- the other neighbours are noted first, then the join of f and a where there is one, and u last
abbrev pub notes_of : ℕ → ℕ → ℕ → List ℕ → Part → List Step
notes_of u f a vs p = edges u vs ++ (cond (p.joins f a) (edge f a ∷ []) [] ++ (node u f a ∷ []))

-- the joins with the other neighbours and the join of f and a are removed, then u and its two joins are replaced by that join
abbrev pub part_after : ℕ → ℕ → ℕ → List ℕ → Part → Part
part_after u f a vs p = spliced u f a (unjoin f a (stripped u vs p))

pub record TakesAway (parent rank : ℕ → ℕ) (u : ℕ) (p : Part) (notes : List Step) (q : Part) : Type 0 where
  pub a : ℕ
  pub others : List ℕ
  -- a is u's neighbour of lowest discovery number in the part as it is then
  pub neighbour : p.joins u a ≡ true
  pub nearest_root : (b : ℕ) → p.joins u b ≡ true → rank a ≤ rank b
  -- the other neighbours, in rising number
  pub rising : RisingList (other u (parent u) a p) others
  pub noted_so : notes ≡ notes_of u (parent u) a others p
  pub leaves : q ≡ part_after u (parent u) a others p

pub data TakesAll (parent rank : ℕ → ℕ) : List ℕ → Part → List Step → Part → Type 0 where
  no_more : {p : Part} → TakesAll parent rank [] p [] p
  one_more : {u : ℕ} {us : List ℕ} {p q z : Part} {notes more : List Step} → TakesAway parent rank u p notes q → TakesAll parent rank us q more z
      → TakesAll parent rank (u ∷ us) p (notes ++ more) z

abbrev pub part_of : (ℕ → Bool) → (ℕ → ℕ → Bool) → Part
part_of U J = record { in_use = U; joins = J }

pub record Disassembly (U : ℕ → Bool) (J : ℕ → ℕ → Bool) (r : ℕ) (t : Triangle) (l : List Step) : Type 0 where
  pub parent : ℕ → ℕ
  pub seen : List ℕ
  pub left : List ℕ
  pub away : List ℕ
  pub last : List ℕ
  pub notes : List Step
  pub remains : Part
  -- the rising search from r, to its end
  pub search : Visit U J parent r [] seen left
  -- tables are taken away in the order in which the search leaves them for good, until three remain
  pub order : reversed left ≡ away ++ last
  pub three : length last ≡ 3
  pub takes : TakesAll parent (discovery seen) away (part_of U J) notes remains
  -- the triangle of the three that remain, in rising number
  pub ascending : Ascending t
  pub corner : (x : ℕ) → (triangle t).in_use x ≡ remains.in_use x
  -- then the notes in reverse
  pub list : l ≡ reversed notes

abbrev pub passing_from : ℕ → ℕ → (ℕ → Bool) → List ℕ
passing_from k zero p = []
passing_from k (suc n) p = cond (p k) (k ∷ passing_from (k + 1) n p) (passing_from (k + 1) n p)

abbrev pub passing : (ℕ → Bool) → List ℕ
passing p = passing_from 0 64 p

abbrev pub nearest : (ℕ → ℕ) → ℕ → List ℕ → ℕ
nearest rank b [] = b
nearest rank b (x ∷ l) = nearest rank (cond (nat_lt (rank x) (rank b)) x b) l

-- u's neighbour of lowest rank
unfoldable pub nearest_of : (ℕ → ℕ) → (ℕ → ℕ) → ℕ → Part → ℕ
nearest_of parent rank u p = nearest rank (parent u) (passing (p.joins u))

unfoldable pub taken : (ℕ → ℕ) → (ℕ → ℕ) → ℕ → Part → Part
taken parent rank u p = part_after u (parent u) (nearest_of parent rank u p) (passing (other u (parent u) (nearest_of parent rank u p) p)) p

unfoldable pub noted : (ℕ → ℕ) → (ℕ → ℕ) → ℕ → Part → List Step
noted parent rank u p = notes_of u (parent u) (nearest_of parent rank u p) (passing (other u (parent u) (nearest_of parent rank u p) p)) p

unfoldable pub remaining : (ℕ → ℕ) → (ℕ → ℕ) → List ℕ → Part → Part
remaining parent rank [] p = p
remaining parent rank (u ∷ us) p = remaining parent rank us (taken parent rank u p)

unfoldable pub all_notes : (ℕ → ℕ) → (ℕ → ℕ) → List ℕ → Part → List Step
all_notes parent rank [] p = []
all_notes parent rank (u ∷ us) p = noted parent rank u p ++ all_notes parent rank us (taken parent rank u p)

abbrev pub past : ℕ → List ℕ → List ℕ
past zero l = l
past (suc k) [] = []
past (suc k) (x ∷ l) = past k l

abbrev pub corners : List ℕ → Triangle
corners l = record { a = slice_index l 0; b = slice_index l 1; c = slice_index l 2 }

pub record Given : Type 0 where
  pub triangle : Triangle
  pub steps : List Step

-- the tables to take away: all but the last three that the search leaves
abbrev pub away_of : Place → List ℕ
away_of p = reversed (past 3 p.left)

unfoldable pub given_at : Place → (ℕ → Bool) → (ℕ → ℕ → Bool) → Given
given_at p U J = record {
  triangle = corners (passing (remaining p.parent (discovery p.seen) (away_of p) (part_of U J)).in_use);
  steps = reversed (all_notes p.parent (discovery p.seen) (away_of p) (part_of U J));
}

unfoldable pub given : (ℕ → Bool) → (ℕ → ℕ → Bool) → ℕ → Given
given U J r = given_at (searched U J r) U J
