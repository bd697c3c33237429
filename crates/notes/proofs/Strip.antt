-- The joins of one table taken out, neighbour by neighbour, and the notes of it.
--
--   without_more                 from some tables to one table more
--   edges_more                   the notes of one table more
--   others_has, others_of        the neighbours of u other than f and a, as a set
--   all_out                      u out of the rows of those, of f and of a, and its own row empty: all joins of u are out
--   symmetric_out                the joins then go both ways
use Rattle.std.proofs.Common.{◌≡◌, ℕ, ◌<◌, Bool, true, false, not, ◌&&◌, ◌||◌, eqb, List, [], ◌∷◌, ◌++◌, get_or, sym, refl, ap, ◌∙◌, arith}
use mathlib.Core.Path.{fun_ext}
use Rattle.std.proofs.lemmas.Bool.{eqb-true}
use Rattle.std.proofs.lemmas.Bool.Decides.{nat_tests}
use Rattle.sets.specs.Set.{bit, tables_of}
use Rattle.sets.specs.Rows.{in_row}
use Rattle.sets.proofs.Masks.{has_tables}
use Rattle.disassembly.specs.Search.{has}
use Rattle.disassembly.specs.Disassembly.{passing, edge, edges}
use Rattle.notes.specs.Notes.{Symmetric, Without, others}

-- ---- from one table to the next

has_after : (l : List ℕ) (v x : ℕ) → has (l ++ (v ∷ [])) x ≡ (has l x || eqb v x)
has_after [] v x = grind (arith, nat_tests)
has_after (y ∷ l) v x = ap (λ b. eqb x y || b) (has_after l v x) ∙ grind (arith, nat_tests)

-- d tells that y is u, p that x is v
one_more : (d p hx kx j k r : Bool) → k ≡ (not (d && hx) && j) → r ≡ (not (p && d) && k) → kx ≡ (hx || p) → r ≡ (not (d && kx) && j)
one_more d p hx kx j k r h₁ h₂ h₃ = grind (arith, nat_tests)

pub without_more : (J K L : ℕ → ℕ → Bool) (u v : ℕ) (done : List ℕ) → Without u done J K
    → ((x y : ℕ) → L x y ≡ (not (eqb v x && eqb u y) && K x y)) → Without u (done ++ (v ∷ [])) J L
without_more J K L u v done so_far out x y =
    one_more (eqb u y) (eqb v x) (has done x) (has (done ++ (v ∷ [])) x) (J x y) (K x y) (L x y) (so_far x y) (out x y) (has_after done v x)

pub edges_more : (u v : ℕ) (l : List ℕ) → edges u l ++ (edge u v ∷ []) ≡ edges u (l ++ (v ∷ []))
edges_more u v [] = refl
edges_more u v (x ∷ l) = ap (λ r. edge u x ∷ r) (edges_more u v l)

-- ---- the neighbours other than f and a

-- r is the row of u, from which f is taken, which leaves m, and then a
module _ (rows : List ℕ) (u f a r m k : ℕ) (row : r ≡ get_or rows u 0) (first : (x : ℕ) → bit m x ≡ (not (eqb x f) && bit r x)) (second : (x : ℕ) → bit k x ≡ (not (eqb x a) && bit m x)) where
  mask : (x : ℕ) → bit k x ≡ (not (eqb x a) && (not (eqb x f) && in_row rows u x))
  mask x = second x ∙ ap (λ b. not (eqb x a) && b) (first x ∙ ap (λ w. not (eqb x f) && bit w x) row)

  pub others_has : k < 18446744073709551616 → (x : ℕ) → has (tables_of k) x ≡ (not (eqb x a) && (not (eqb x f) && in_row rows u x))
  others_has low x = has_tables k low x ∙ mask x

  pub others_of : tables_of k ≡ others (in_row rows) u f a
  unfolding tables_of others
  others_of = ap passing (fun_ext (λ x. mask x ∙ order (in_row rows u x) x))
    where
      order : (r : Bool) (x : ℕ) → (not (eqb x a) && (not (eqb x f) && r)) ≡ (r && (not (eqb x f) && not (eqb x a)))
      order true x = grind (arith, nat_tests)
      order false x = grind (arith, nat_tests)

-- ---- all joins of u

-- p and q tell that x and y are u; fx and ax that x is f or a; ix that u is joined with x; j is the join of x and y
none_left : (p q fx ax ix hx j k₁ k₂ k₃ k₄ : Bool) → (q ≡ true → ix ≡ j) → hx ≡ (not ax && (not fx && ix))
    → k₁ ≡ (not (q && hx) && j) → k₂ ≡ (not (fx && q) && k₁) → k₃ ≡ (not (ax && q) && k₂) → k₄ ≡ (not p && k₃)
    → k₄ ≡ ((not p && not q) && j)
none_left p true fx ax ix hx j k₁ k₂ k₃ k₄ by_y mx h₁ h₂ h₃ h₄ = let e : ix ≡ j = by_y refl in grind (arith, nat_tests)
none_left p false fx ax ix hx j k₁ k₂ k₃ k₄ by_y mx h₁ h₂ h₃ h₄ = grind (arith, nat_tests)

-- u is taken out of the rows of its neighbours, and then its own row goes
pub all_out : (J K L M N : ℕ → ℕ → Bool) (u f a : ℕ) (l : List ℕ) → Symmetric J
    → ((x : ℕ) → has l x ≡ (not (eqb x a) && (not (eqb x f) && J u x))) → Without u l J K
    → ((x y : ℕ) → L x y ≡ (not (eqb f x && eqb u y) && K x y))
    → ((x y : ℕ) → M x y ≡ (not (eqb a x && eqb u y) && L x y))
    → ((x y : ℕ) → N x y ≡ (not (eqb u x) && M x y))
    → (x y : ℕ) → N x y ≡ ((not (eqb u x) && not (eqb u y)) && J x y)
all_out J K L M N u f a l symmetric mask others_out f_out a_out cleared x y =
    none_left (eqb u x) (eqb u y) (eqb f x) (eqb a x) (J u x) (has l x) (J x y) (K x y) (L x y) (M x y) (N x y)
    (λ e. symmetric u x ∙ ap (J x) (eqb-true u y e))
    (turned x) (others_out x y) (f_out x y) (a_out x y) (cleared x y)
  where
    turned : (z : ℕ) → has l z ≡ (not (eqb a z) && (not (eqb f z) && J u z))
    turned z = mask z ∙ (let p : eqb z a ≡ eqb a z = grind (arith, nat_tests) in let q : eqb z f ≡ eqb f z = grind (arith, nat_tests) in rw (p, q) refl)

pub symmetric_out : (J K : ℕ → ℕ → Bool) (u : ℕ) → Symmetric J → ((x y : ℕ) → K x y ≡ ((not (eqb u x) && not (eqb u y)) && J x y)) → Symmetric K
symmetric_out J K u s means x y = means x y ∙ turned ∙ sym (means y x)
  where
    turned : ((not (eqb u x) && not (eqb u y)) && J x y) ≡ ((not (eqb u y) && not (eqb u x)) && J y x)
    turned = let e : J x y ≡ J y x = s x y in grind (arith, nat_tests)
