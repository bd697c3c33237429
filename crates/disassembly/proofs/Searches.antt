-- The rising search as a function: it comes to its end within its moves, and every search in the relation is this one.
--
--   place                         a place by its parts
--   fresh_small                   only numbers below 64 are undiscovered neighbours
--   moved_some, moved_none        one move, on or back
--   moves_last, moves_stay        the last of several moves, and moves after the end
--   ends_done, searched_done      the search has left its root within 128 moves
--   ends_visit, searched_visit    where it ends is the end of a search in the relation
--   visit_ends, visit_unique      any finished search discovers, leaves and has as parents the same tables
use Rattle.std.proofs.Common.{◌≡◌, ℕ, zero, suc, ◌+◌, ◌*◌, ◌<◌, ◌≤◌, Bool, true, false, not, List, [], ◌∷◌, length, Some, None, Option, sym, refl, ap, ◌∙◌, subst, ⊎_elim, arith}
use Rattle.std.proofs.lemmas.Bool.{cases_eq, cases_Bool, both_ways, false≢true}
use Rattle.std.proofs.lemmas.Bool.Decides.{nat_tests}
use Rattle.theory.specs.Graph.{Lowest, count}
use Rattle.theory.proofs.Sizes.{count_le, count_one}
use Rattle.disassembly.specs.Walks.{SimpleOn}
use Rattle.disassembly.specs.Search.{has, fresh, lowest_from, Visit, begin, discover, leave, Place, with_parent, move, moved_from, moved, moves, at_start, searched}
use Rattle.disassembly.proofs.Members.{has_cases, lowest_some, lowest_is, lowest_none, none_is}
use Rattle.disassembly.proofs.Visits.{fresh_true, visit_change}

abbrev pub place : (ℕ → ℕ) → List ℕ → List ℕ → List ℕ → Place
place f st D L = record { parent = f; stack = st; seen = D; left = L }

-- ---- moves

pub moves_last : (k : ℕ) (U : ℕ → Bool) (J : ℕ → ℕ → Bool) (p : Place) → moves (suc k) U J p ≡ moved U J (moves k U J p)
unfolding moves
moves_last zero U J p = refl
moves_last (suc k) U J p = moves_last k U J (moved U J p)

pub moved_stay : (U : ℕ → Bool) (J : ℕ → ℕ → Bool) (p : Place) → p.stack ≡ [] → moved U J p ≡ p
moved_stay U J p e = ap (λ st. moved_from U J st p) e

pub moves_stay : (k : ℕ) (U : ℕ → Bool) (J : ℕ → ℕ → Bool) (p : Place) → p.stack ≡ [] → moves k U J p ≡ p
unfolding moves
moves_stay zero U J p e = refl
moves_stay (suc k) U J p e = ap (moves k U J) (moved_stay U J p e) ∙ moves_stay k U J p e

-- two numbers of moves that come to the end come to the same place
pub same_end : (k m : ℕ) (U : ℕ → Bool) (J : ℕ → ℕ → Bool) (p : Place) → (moves k U J p).stack ≡ [] → (moves m U J p).stack ≡ [] → moves k U J p ≡ moves m U J p
unfolding moves
same_end zero m U J p e d = sym (moves_stay m U J p e)
same_end (suc k) zero U J p e d = moves_stay (suc k) U J p d
same_end (suc k) (suc m) U J p e d = same_end k m U J (moved U J p) e d

module _ (U : ℕ → Bool) (J : ℕ → ℕ → Bool) (few : (a : ℕ) → U a ≡ true → a < 64) where
  pub fresh_small : (D : List ℕ) (t y : ℕ) → fresh U J D t y ≡ true → y < 64
  fresh_small D t y h = few y (fresh_true U J D t y h).1

  pub moved_some : (p : Place) (t u : ℕ) (st : List ℕ) → p.stack ≡ t ∷ st → Lowest (fresh U J p.seen t) 0 u → moved U J p ≡ move (Some u) t st p
  moved_some p t u st e low =
      let small : u < 64 = fresh_small p.seen t u low.holds in
      ap (λ l. moved_from U J l p) e ∙ ap (λ c. move c t st p) (lowest_is 0 64 (fresh U J p.seen t) u low (omega arith))

  pub moved_none : (p : Place) (t : ℕ) (st : List ℕ) → p.stack ≡ t ∷ st → ((y : ℕ) → fresh U J p.seen t y ≡ false) → moved U J p ≡ move None t st p
  moved_none p t st e no_fresh = ap (λ l. moved_from U J l p) e ∙ ap (λ c. move c t st p) (none_is 0 64 (fresh U J p.seen t) (λ x a b. no_fresh x))

  -- ---- the end of the function's search

  module _ (r : ℕ) where
    abbrev At : Place → Type 0
    At p = Visit U J p.parent r p.stack p.seen p.left

    unseen : List ℕ → ℕ
    unseen D = count (λ x. not (has D x)) 64

    -- how many moves are left at most
    abbrev to_go : List ℕ → List ℕ → ℕ
    to_go st D = 2 * unseen D + length st

    -- a test that passes all numbers but u passes one fewer than one that passes all that it does, and u
    one_fewer : (n : ℕ) (D : List ℕ) (u : ℕ) → u < n → has D u ≡ false → count (λ x. not (has D x)) n ≡ count (λ x. not (has (u ∷ D) x)) n + 1
    one_fewer n D u l new = count_one (λ x. not (has (u ∷ D) x)) (λ x. not (has D x)) u n l (grind (arith, nat_tests)) (grind arith) (λ k _ ne. grind (arith, nat_tests))

    unseen_fewer : (D : List ℕ) (u : ℕ) → u < 64 → has D u ≡ false → unseen D ≡ unseen (u ∷ D) + 1
    unfolding unseen
    unseen_fewer D u l new = one_fewer 64 D u l new

    moved_on : (f : ℕ → ℕ) (t : ℕ) (st D L : List ℕ) → Visit U J f r (t ∷ st) D L → (c : Option ℕ) → lowest_from 0 64 (fresh U J D t) ≡ c
        → At (move c t st (place f (t ∷ st) D L)) × (to_go (move c t st (place f (t ∷ st) D L)).stack (move c t st (place f (t ∷ st) D L)).seen < to_go (t ∷ st) D)
    moved_on f t st D L v None e = (leave v none, omega arith)
      where
        none : (y : ℕ) → fresh U J D t y ≡ false
        none y = ⊎_elim (λ (h : fresh U J D t y ≡ true). absurd (both_ways (fresh U J D t y) (lowest_none 0 64 (fresh U J D t) e y (omega arith) (omega (arith, fresh_small D t y h))) h)) (λ h. h) (cases_Bool (fresh U J D t y))
    moved_on f t st D L v (Some u) e =
        let low : Lowest (fresh U J D t) 0 u = (lowest_some 0 64 (fresh U J D t) u e).0 in
        let q = fresh_true U J D t u low.holds in
        let new : has D u ≡ false = q.2 in
        let fu : with_parent u t f u ≡ t = grind (arith, nat_tests) in
        let same : (x : ℕ) → has D x ≡ true → with_parent u t f x ≡ f x = λ x m. let ne : x ≡ u → ⊥ = λ z. both_ways (has D u) new (rw z at m) in grind (arith, nat_tests) in
        (discover (visit_change U J r f (with_parent u t f) v same) low fu, omega (arith, unseen_fewer D u (few u q.1) new))

    finish : (k : ℕ) (f : ℕ → ℕ) (st D L : List ℕ) → Visit U J f r st D L → to_go st D ≤ k
        → At (moves k U J (place f st D L)) × ((moves k U J (place f st D L)).stack ≡ [])
    unfolding moves
    finish k f [] D L v h = rw (moves_stay k U J (place f [] D L) refl) (v, refl)
    finish zero f (t ∷ st) D L v h = absurd (omega arith)
    finish (suc k) f (t ∷ st) D L v h =
        let m = moved_on f t st D L v (lowest_from 0 64 (fresh U J D t)) refl in
        let p = move (lowest_from 0 64 (fresh U J D t)) t st (place f (t ∷ st) D L) in
        finish k p.parent p.stack p.seen p.left m.0 (omega (arith, m.1))

    at_most : (n : ℕ) → r < n → count (λ x. not (has (r ∷ []) x)) n + 1 ≤ n
    at_most n l = let e = one_fewer n [] r l refl in let m = count_le (λ x. not (has [] x)) n in omega arith

    unseen_start : r < 64 → unseen (r ∷ []) + 1 ≤ 64
    unfolding unseen
    unseen_start l = at_most 64 l

    ended : U r ≡ true → At (searched U J r) × ((searched U J r).stack ≡ [])
    ended ur = finish 128 (λ _. 0) (r ∷ []) (r ∷ []) [] begin (omega (arith, unseen_start (few r ur)))

    pub ends_done : U r ≡ true → (searched U J r).stack ≡ []
    ends_done ur = (ended ur).1

    pub ends_visit : U r ≡ true → Visit U J (searched U J r).parent r [] (searched U J r).seen (searched U J r).left
    ends_visit ur = subst (λ st. Visit U J (searched U J r).parent r st (searched U J r).seen (searched U J r).left) (ended ur).1 (ended ur).0

    -- ---- every search in the relation goes the way of the function

    record Stands (f : ℕ → ℕ) (st D L : List ℕ) (p : Place) : Type 0 where
      standing : p.stack ≡ st
      discovered : p.seen ≡ D
      gone : p.left ≡ L
      parents : (x : ℕ) → has D x ≡ true → (x ≡ r → ⊥) → f x ≡ p.parent x

    stands_on : (f : ℕ → ℕ) (t u : ℕ) (st D L : List ℕ) (p : Place) → Stands f (t ∷ st) D L p → Lowest (fresh U J D t) 0 u → f u ≡ t
        → Stands f (u ∷ t ∷ st) (u ∷ D) L (moved U J p)
    stands_on f t u st D L p q low e =
        let low' : Lowest (fresh U J p.seen t) 0 u = subst (λ l. Lowest (fresh U J l t) 0 u) (sym q.discovered) low in
        subst (Stands f (u ∷ t ∷ st) (u ∷ D) L) (sym (moved_some p t u st q.standing low')) (record {
          standing = refl;
          discovered = ap (λ l. u ∷ l) q.discovered;
          gone = q.gone;
          parents = λ x h n. ⊎_elim
              (λ (z : x ≡ u). ap f z ∙ e ∙ sym (new x z))
              (λ (ne : x ≡ u → ⊥). old x ne (⊎_elim (λ z. absurd (ne z)) (λ k. q.parents x k n) (has_cases u D x h)))
              (cases_eq x u);
        })
      where
        new : (x : ℕ) → x ≡ u → with_parent u t p.parent x ≡ t
        new x z = grind (arith, nat_tests)

        old : (x : ℕ) → (x ≡ u → ⊥) → f x ≡ p.parent x → f x ≡ with_parent u t p.parent x
        old x ne k = grind (arith, nat_tests)

    stands_back : (f : ℕ → ℕ) (t : ℕ) (st D L : List ℕ) (p : Place) → Stands f (t ∷ st) D L p → ((y : ℕ) → fresh U J D t y ≡ false)
        → Stands f st D (t ∷ L) (moved U J p)
    stands_back f t st D L p q c =
        let c' : (y : ℕ) → fresh U J p.seen t y ≡ false = subst (λ l. (y : ℕ) → fresh U J l t y ≡ false) (sym q.discovered) c in
        subst (Stands f st D (t ∷ L)) (sym (moved_none p t st q.standing c')) (record {
          standing = refl;
          discovered = q.discovered;
          gone = ap (λ l. t ∷ l) q.gone;
          parents = q.parents;
        })

    visit_moves : {f : ℕ → ℕ} {st D L : List ℕ} → Visit U J f r st D L → (k : ℕ) × Stands f st D L (moves k U J (at_start r))
    unfolding moves
    visit_moves {f} begin = (0, record { standing = refl; discovered = refl; gone = refl; parents = λ x h n. absurd (n (⊎_elim (λ e. e) (λ k. absurd (false≢true k)) (has_cases r [] x h))) })
    visit_moves {f} (discover {t = t} {u = u} {stack = st} {seen = D} {left = L} v low e) =
        let m = visit_moves v in
        (suc m.0, subst (Stands f (u ∷ t ∷ st) (u ∷ D) L) (sym (moves_last m.0 U J (at_start r))) (stands_on f t u st D L (moves m.0 U J (at_start r)) m.1 low e))
    visit_moves {f} (leave {t = t} {stack = st} {seen = D} {left = L} v c) =
        let m = visit_moves v in
        (suc m.0, subst (Stands f st D (t ∷ L)) (sym (moves_last m.0 U J (at_start r))) (stands_back f t st D L (moves m.0 U J (at_start r)) m.1 c))

    pub visit_ends : U r ≡ true → {f : ℕ → ℕ} {D L : List ℕ} → Visit U J f r [] D L
        → (D ≡ (searched U J r).seen) × (L ≡ (searched U J r).left) × ((x : ℕ) → has D x ≡ true → (x ≡ r → ⊥) → f x ≡ (searched U J r).parent x)
    visit_ends ur {f} {D} {L} v =
        let m = visit_moves v in
        let q : Stands f [] D L (searched U J r) = subst (Stands f [] D L) (same_end m.0 128 U J (at_start r) m.1.standing (ends_done ur)) m.1 in
        (sym q.discovered, sym q.gone, q.parents)

-- ---- on a simple graph

pub searched_done : (U : ℕ → Bool) (J : ℕ → ℕ → Bool) (r : ℕ) → SimpleOn U J → U r ≡ true → (searched U J r).stack ≡ []
searched_done U J r s ur = ends_done U J s.few r ur

pub searched_visit : (U : ℕ → Bool) (J : ℕ → ℕ → Bool) (r : ℕ) → SimpleOn U J → U r ≡ true
    → Visit U J (searched U J r).parent r [] (searched U J r).seen (searched U J r).left
searched_visit U J r s ur = ends_visit U J s.few r ur

pub visit_unique : (U : ℕ → Bool) (J : ℕ → ℕ → Bool) (r : ℕ) → SimpleOn U J → U r ≡ true → {f : ℕ → ℕ} {D L : List ℕ} → Visit U J f r [] D L
    → (D ≡ (searched U J r).seen) × (L ≡ (searched U J r).left) × ((x : ℕ) → has D x ≡ true → (x ≡ r → ⊥) → f x ≡ (searched U J r).parent x)
visit_unique U J r s ur v = visit_ends U J s.few r ur v
