-- One row rewritten, where the number is a table.
--
--   inserted_row, removed_row   with one table put in, or taken out, that is done at one place
--   cleared_row                 with no tables, no place of it is left
--   both_in, both_out           done at the place of a and b and then at that of b and a, it is done at the pair
use Rattle.std.proofs.Common.{◌≡◌, ℕ, ◌<◌, ◌≤◌, Bool, true, false, cond, not, ◌&&◌, ◌||◌, eqb, ltb, List, length, set, sym, refl, ap, ◌∙◌, ⊎_elim, arith, get_or-set_other, get_or-set_same}
use Rattle.std.proofs.lemmas.Bool.Decides.{nat_tests}
use Rattle.std.proofs.lemmas.Bool.{cases_eq, cases_lt, cases_Bool, eqb-true}
use Rattle.std.proofs.lemmas.List.{get_or_past}
use Rattle.theory.specs.Graph.{same_pair}
use Rattle.sets.specs.Set.{bit}
use Rattle.sets.specs.Rows.{in_row}
use Rattle.sets.proofs.Bit.{zero_bit}

here : (a : ℕ) → eqb a a ≡ true
here a = grind (arith, nat_tests)

elsewhere : (a x : ℕ) → (x ≡ a → ⊥) → eqb a x ≡ false
elsewhere a x ne = grind (arith, nat_tests)

within : (a : ℕ) → a < 64 → ltb a 64 ≡ true
within a la = grind (arith, nat_tests)

past : (a : ℕ) → 64 ≤ a → ltb a 64 ≡ false
past a la = grind (arith, nat_tests)

-- a number that is no table has no row
past_rows : (rows : List ℕ) (a x y : ℕ) → length rows ≡ 64 → 64 ≤ a → eqb a x ≡ true → in_row rows x y ≡ false
past_rows rows a x y long la e =
    let is : a ≡ x = eqb-true a x e in
    ap (λ v. bit v y) (get_or_past rows x 0 (omega arith)) ∙ zero_bit y

-- so taking something out of it changes nothing
past_kept : (rows : List ℕ) (a x y : ℕ) (t : Bool) → length rows ≡ 64 → 64 ≤ a → in_row rows x y ≡ (not (eqb a x && t) && in_row rows x y)
past_kept rows a x y t long la =
    ⊎_elim
    (λ (e : eqb a x ≡ true). let none = past_rows rows a x y long la e in grind (arith, nat_tests))
    (λ (e : eqb a x ≡ false). grind (arith, nat_tests))
    (cases_Bool (eqb a x))

-- a row r at a, in which op is done at the places that t tells: then op is done at these places of row a
module _ (op : Bool → Bool → Bool) (op-off : (v : Bool) → op false v ≡ v) (t : ℕ → Bool) (rows : List ℕ) (a r : ℕ) (ha : a < length rows)
    (row : (k : ℕ) → bit r k ≡ op (t k) (in_row rows a k)) where
  one_row : (x y : ℕ) → in_row (set rows a r) x y ≡ op (eqb a x && t y) (in_row rows x y)
  one_row x y =
      ⊎_elim
      (λ (e : x ≡ a). rw (e, get_or-set_same rows a r 0 ha) (row y ∙ ap (λ c. op (c && t y) (in_row rows a y)) (sym (here a))))
      (λ (ne : x ≡ a → ⊥). rw (get_or-set_other rows a x r 0 ne) (sym (op-off (in_row rows x y)) ∙ ap (λ c. op (c && t y) (in_row rows x y)) (sym (elsewhere a x ne))))
      (cases_eq x a)

-- rows' are the rows with r in place of that of a
module _ (rows rows' : List ℕ) (a r : ℕ) (long : length rows ≡ 64) (is : rows' ≡ cond (ltb a 64) (set rows a r) rows) where
  when_table : a < 64 → rows' ≡ set rows a r
  when_table la = is ∙ ap (λ c. cond c (set rows a r) rows) (within a la)

  when_none : 64 ≤ a → rows' ≡ rows
  when_none la = is ∙ ap (λ c. cond c (set rows a r) rows) (past a la)

  pub inserted_row : (b : ℕ) → ((k : ℕ) → bit r k ≡ ((eqb k b && ltb k 64) || in_row rows a k))
      → (x y : ℕ) → in_row rows' x y ≡ (((ltb a 64 && ltb b 64) && (eqb a x && eqb b y)) || in_row rows x y)
  inserted_row b row x y =
      ⊎_elim
      (λ (la : a < 64). ap (λ l. in_row l x y) (when_table la) ∙ one_row ◌||◌ (λ _. refl) (λ k. eqb k b && ltb k 64) rows a r (omega arith) row x y ∙ grind (arith, nat_tests))
      (λ (la : 64 ≤ a). ap (λ l. in_row l x y) (when_none la) ∙ grind (arith, nat_tests))
      (cases_lt a 64)

  pub removed_row : (b : ℕ) → ((k : ℕ) → bit r k ≡ (not (eqb k b) && in_row rows a k))
      → (x y : ℕ) → in_row rows' x y ≡ (not (eqb a x && eqb b y) && in_row rows x y)
  removed_row b row x y =
      ⊎_elim
      (λ (la : a < 64). ap (λ l. in_row l x y) (when_table la) ∙ one_row (λ c v. not c && v) (λ _. refl) (λ k. eqb k b) rows a r (omega arith) row x y ∙ grind (arith, nat_tests))
      (λ (la : 64 ≤ a). ap (λ l. in_row l x y) (when_none la) ∙ past_kept rows a x y (eqb b y) long la)
      (cases_lt a 64)

  pub cleared_row : r ≡ 0 → (x y : ℕ) → in_row rows' x y ≡ (not (eqb a x) && in_row rows x y)
  cleared_row none x y =
      ⊎_elim
      (λ (la : a < 64). ap (λ l. in_row l x y) (when_table la)
      ∙ one_row (λ c v. not c && v) (λ _. refl) (λ _. true) rows a r (omega arith) (λ k. ap (λ v. bit v k) none ∙ zero_bit k) x y ∙ grind (arith, nat_tests))
      (λ (la : 64 ≤ a). ap (λ l. in_row l x y) (when_none la) ∙ past_kept rows a x y true long la ∙ grind (arith, nat_tests))
      (cases_lt a 64)

pub both_in : (a b x y : ℕ) (j k l : Bool) → k ≡ (((ltb a 64 && ltb b 64) && (eqb a x && eqb b y)) || j) → l ≡ (((ltb b 64 && ltb a 64) && (eqb b x && eqb a y)) || k)
    → l ≡ (((ltb a 64 && ltb b 64) && same_pair a b x y) || j)
both_in a b x y j k l first second = grind (arith, nat_tests)

pub both_out : (a b x y : ℕ) (j k l : Bool) → k ≡ (not (eqb a x && eqb b y) && j) → l ≡ (not (eqb b x && eqb a y) && k)
    → a < 64 → b < 64 → l ≡ (not ((ltb a 64 && ltb b 64) && same_pair a b x y) && j)
both_out a b x y j k l first second la lb = grind (arith, nat_tests)
