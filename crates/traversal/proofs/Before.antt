-- What was discovered before a table, and lists kept in arrays as parts of one another.
--
--   before_in, before_less, less_before   before a table, in the list, and by discovery numbers
--   stacked_in, stacked_part              the first k entries as a part of the first n
use Rattle.std.proofs.Common.{◌≡◌, ℕ, zero, suc, ◌<◌, ◌≤◌, true, false, eqb, List, [], ◌∷◌, length, get_or, sym, subst, ⊎_elim, arith}
use Rattle.std.proofs.lemmas.Bool.{cases_eq, false≢true, both_ways, eq-eqb, ne_eqb, cond-true, cond-false}
use Rattle.disassembly.specs.Search.{has, discovery}
use Rattle.disassembly.proofs.Members.{has_cases, has_more, Distinct}
use Rattle.disassembly.proofs.Depth.{discovery_below}
use Rattle.traversal.specs.Standing.{before}
use Rattle.traversal.proofs.Stacks.{stacked}

before_same : (y : ℕ) (l : List ℕ) (x : ℕ) → x ≡ y → before (y ∷ l) x ≡ l
before_same y l x e = cond-true (eqb x y) l (before l x) (eq-eqb x y e)

before_other : (y : ℕ) (l : List ℕ) (x : ℕ) → (x ≡ y → ⊥) → before (y ∷ l) x ≡ before l x
before_other y l x ne = cond-false (eqb x y) l (before l x) (ne_eqb x y ne)

number_same : (y : ℕ) (l : List ℕ) (x : ℕ) → x ≡ y → discovery (y ∷ l) x ≡ length l
number_same y l x e = cond-true (eqb x y) (length l) (discovery l x) (eq-eqb x y e)

number_other : (y : ℕ) (l : List ℕ) (x : ℕ) → (x ≡ y → ⊥) → discovery (y ∷ l) x ≡ discovery l x
number_other y l x ne = cond-false (eqb x y) (length l) (discovery l x) (ne_eqb x y ne)

number_below : (l : List ℕ) (a : ℕ) → has l a ≡ true → discovery l a < length l
number_below l a h = discovery_below (λ _ _. false) (λ k. k) 0 l a h

pub before_in : (l : List ℕ) (x e : ℕ) → has (before l x) e ≡ true → has l e ≡ true
before_in [] x e h = h
before_in (y ∷ l) x e h = ⊎_elim
    (λ (q : x ≡ y). has_more y l e (subst (λ m. has m e ≡ true) (before_same y l x q) h))
    (λ (ne : x ≡ y → ⊥). has_more y l e (before_in l x e (subst (λ m. has m e ≡ true) (before_other y l x ne) h)))
    (cases_eq x y)

-- a table of a list without repetition is not its own head
tail_apart : (y : ℕ) (l : List ℕ) (e : ℕ) → has l y ≡ false → has l e ≡ true → e ≡ y → ⊥
tail_apart y l e new h q = both_ways (has l y) new (subst (λ k. has l k ≡ true) q h)

in_tail : (y : ℕ) (l : List ℕ) (e : ℕ) → has (y ∷ l) e ≡ true → (e ≡ y → ⊥) → has l e ≡ true
in_tail y l e h ne = ⊎_elim (λ q. absurd (ne q)) (λ k. k) (has_cases y l e h)

pub before_less : (l : List ℕ) (x e : ℕ) → Distinct l → has l x ≡ true → has (before l x) e ≡ true → discovery l e < discovery l x
before_less [] x e d hx h = absurd (false≢true h)
before_less (y ∷ l) x e d hx h = ⊎_elim
    (λ (q : x ≡ y).
    let he : has l e ≡ true = subst (λ m. has m e ≡ true) (before_same y l x q) h in
    let ne : e ≡ y → ⊥ = tail_apart y l e d.0 he in
    let a : discovery (y ∷ l) x ≡ length l = number_same y l x q in
    let b : discovery (y ∷ l) e ≡ discovery l e = number_other y l e ne in
    let c : discovery l e < length l = number_below l e he in
    rw (a, b) c)
    (λ (nx : x ≡ y → ⊥).
    let hb : has (before l x) e ≡ true = subst (λ m. has m e ≡ true) (before_other y l x nx) h in
    let he : has l e ≡ true = before_in l x e hb in
    let ne : e ≡ y → ⊥ = tail_apart y l e d.0 he in
    let a : discovery (y ∷ l) x ≡ discovery l x = number_other y l x nx in
    let b : discovery (y ∷ l) e ≡ discovery l e = number_other y l e ne in
    let c : discovery l e < discovery l x = before_less l x e d.1 (in_tail y l x hx nx) hb in
    rw (a, b) c)
    (cases_eq x y)

pub less_before : (l : List ℕ) (x e : ℕ) → has l x ≡ true → has l e ≡ true → discovery l e < discovery l x → has (before l x) e ≡ true
less_before [] x e hx he h = absurd (false≢true he)
less_before (y ∷ l) x e hx he h = ⊎_elim
    (λ (q : x ≡ y).
    let a : discovery (y ∷ l) x ≡ length l = number_same y l x q in
    let ne : e ≡ y → ⊥ = λ (z : e ≡ y). let b : discovery (y ∷ l) e ≡ length l = number_same y l e z in absurd (less_not (discovery (y ∷ l) e) (discovery (y ∷ l) x) (length l) h b a) in
    subst (λ m. has m e ≡ true) (sym (before_same y l x q)) (in_tail y l e he ne))
    (λ (nx : x ≡ y → ⊥).
    let hx' : has l x ≡ true = in_tail y l x hx nx in
    let a : discovery (y ∷ l) x ≡ discovery l x = number_other y l x nx in
    let c : discovery l x < length l = number_below l x hx' in
    let ne : e ≡ y → ⊥ = λ (z : e ≡ y). let b : discovery (y ∷ l) e ≡ length l = number_same y l e z in absurd (less_not_past (discovery (y ∷ l) e) (discovery (y ∷ l) x) (length l) (discovery l x) h b a c) in
    let b : discovery (y ∷ l) e ≡ discovery l e = number_other y l e ne in
    let h' : discovery l e < discovery l x = less_as (discovery (y ∷ l) e) (discovery (y ∷ l) x) (discovery l e) (discovery l x) h b a in
    subst (λ m. has m e ≡ true) (sym (before_other y l x nx)) (less_before l x e hx' (in_tail y l e he ne) h'))
    (cases_eq x y)
  where
    less_not : (a b n : ℕ) → a < b → a ≡ n → b ≡ n → ⊥
    less_not a b n h p q = omega arith

    less_not_past : (a b n k : ℕ) → a < b → a ≡ n → b ≡ k → k < n → ⊥
    less_not_past a b n k h p q s = omega arith

    less_as : (a b c d : ℕ) → a < b → a ≡ c → b ≡ d → c < d
    less_as a b c d h p q = omega arith

-- ---- parts of a list kept in an array

pub stacked_in : (n k : ℕ) (l : List ℕ) (x : ℕ) → k ≤ n → has (stacked k l) x ≡ true → has (stacked n l) x ≡ true
stacked_in zero k l x h t = let e : k ≡ 0 = omega arith in subst (λ j. has (stacked j l) x ≡ true) e t
stacked_in (suc n) k l x h t = ⊎_elim
    (λ (e : k ≡ suc n). subst (λ j. has (stacked j l) x ≡ true) e t)
    (λ (ne : k ≡ suc n → ⊥). has_more (get_or l n 0) (stacked n l) x (stacked_in n k l x (omega arith) t))
    (cases_eq k (suc n))

-- what holds of a list and of each tail of it holds of the first k entries
pub stacked_part : (P : List ℕ → Type 0) → ((x : ℕ) (m : List ℕ) → P (x ∷ m) → P m) → (n k : ℕ) (l : List ℕ) → k ≤ n → P (stacked n l) → P (stacked k l)
stacked_part P tail zero k l h p = let e : k ≡ 0 = omega arith in subst (λ j. P (stacked j l)) (sym e) p
stacked_part P tail (suc n) k l h p = ⊎_elim
    (λ (e : k ≡ suc n). subst (λ j. P (stacked j l)) (sym e) p)
    (λ (ne : k ≡ suc n → ⊥). stacked_part P tail n k l (omega arith) (tail (get_or l n 0) (stacked n l) p))
    (cases_eq k (suc n))
