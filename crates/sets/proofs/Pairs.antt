-- Two rows rewritten.
--
--   joined_rows, unjoined_rows   each with the other's table put in, or taken out, that is done to the pair
use Rattle.std.proofs.Common.{◌≡◌, ℕ, ◌<◌, ◌≤◌, Bool, false, not, ◌&&◌, ◌||◌, eqb, ltb, List, length, set, sym, refl, ap, ◌∙◌, ⊎_elim, arith, length-set, get_or-set_other, get_or-set_same}
use Rattle.std.proofs.lemmas.Bool.Decides.{nat_tests}
use Rattle.std.proofs.lemmas.Bool.{cases_eq}
use Rattle.theory.specs.Graph.{same_pair}
use Rattle.sets.specs.Set.{bit}
use Rattle.sets.specs.Rows.{in_row}

-- the pair of a and b, seen from row b, from row a, and from another
pair_second : (a b y : ℕ) → eqb y a ≡ same_pair a b b y
pair_second a b y = grind (arith, nat_tests)

pair_first : (a b y : ℕ) → (a ≡ b → ⊥) → eqb y b ≡ same_pair a b a y
pair_first a b y ne = grind (arith, nat_tests)

pair_neither : (a b x y : ℕ) → (x ≡ a → ⊥) → (x ≡ b → ⊥) → false ≡ same_pair a b x y
pair_neither a b x y na nb = grind (arith, nat_tests)

-- rows ra and rb at a and b, in which op is done at the other's table: then op is done at the pair of a and b
module _ (op : Bool → Bool → Bool) (op-off : (v : Bool) → op false v ≡ v) (rows : List ℕ) (a b ra rb : ℕ) (ha : a < length rows) (hb : b < length rows)
    (row-a : (k : ℕ) → bit ra k ≡ op (eqb k b) (in_row rows a k)) (row-b : (k : ℕ) → bit rb k ≡ op (eqb k a) (in_row rows b k)) where
  two_rows : (x y : ℕ) → in_row (set (set rows a ra) b rb) x y ≡ op (same_pair a b x y) (in_row rows x y)
  two_rows x y =
      ⊎_elim
      (λ (e : x ≡ b).
      let hb' : b < length (set rows a ra) = simp length-set hb in
      rw (e, get_or-set_same (set rows a ra) b rb 0 hb') (row-b y ∙ ap (λ c. op c (in_row rows b y)) (pair_second a b y)))
      (λ (nb : x ≡ b → ⊥).
      ⊎_elim
      (λ (e : x ≡ a).
      let ne : a ≡ b → ⊥ = λ q. nb (e ∙ q) in
      rw (e, get_or-set_other (set rows a ra) b a rb 0 ne, get_or-set_same rows a ra 0 ha) (row-a y ∙ ap (λ c. op c (in_row rows a y)) (pair_first a b y ne)))
      (λ (na : x ≡ a → ⊥).
      rw (get_or-set_other (set rows a ra) b x rb 0 nb, get_or-set_other rows a x ra 0 na)
      (sym (op-off (in_row rows x y)) ∙ ap (λ c. op c (in_row rows x y)) (pair_neither a b x y na nb)))
      (cases_eq x a))
      (cases_eq x b)

module _ (rows : List ℕ) (a b ra rb : ℕ) (long : 64 ≤ length rows) (ha : a < 64) (hb : b < 64) where
  pub joined_rows : ((k : ℕ) → bit ra k ≡ ((eqb k b && ltb k 64) || in_row rows a k)) → ((k : ℕ) → bit rb k ≡ ((eqb k a && ltb k 64) || in_row rows b k))
      → (x y : ℕ) → in_row (set (set rows a ra) b rb) x y ≡ (((ltb a 64 && ltb b 64) && same_pair a b x y) || in_row rows x y)
  joined_rows row-a row-b x y =
      two_rows ◌||◌ (λ _. refl) rows a b ra rb (omega arith) (omega arith)
      (λ k. row-a k ∙ (grind (arith, nat_tests))) (λ k. row-b k ∙ (grind (arith, nat_tests))) x y
      ∙ (grind (arith, nat_tests))

  pub unjoined_rows : ((k : ℕ) → bit ra k ≡ (not (eqb k b) && in_row rows a k)) → ((k : ℕ) → bit rb k ≡ (not (eqb k a) && in_row rows b k))
      → (x y : ℕ) → in_row (set (set rows a ra) b rb) x y ≡ (not ((ltb a 64 && ltb b 64) && same_pair a b x y) && in_row rows x y)
  unjoined_rows row-a row-b x y =
      two_rows (λ c v. not c && v) (λ _. refl) rows a b ra rb (omega arith) (omega arith) row-a row-b x y
      ∙ (grind (arith, nat_tests))
