-- Lists that grow at their end, and arrays that are written.
--
--   more_small, take_small                  each entry stays below a bound
--   get_or_set                              an array after one write
--   of_either                               a function of one of two values
--   parent_set, number_set, earlier_set     discoveries after one write
--   none_found                              discoveries at the start
--   held_more                               a stack kept in slots after a record was put on top
--   top_small, some_on_top, on_top, none_on_top
--                                           what is on top of it, or that it is empty
--   fewer_small                             after a record was taken
--   none_held                               an empty one
--   stacked                                 the first k entries, the last of them first
--   stacked_length, stacked_all             how many, and all of a list turned round
use Rattle.std.proofs.Common.{◌≡◌, ℕ, zero, suc, ◌+◌, ◌-◌, ◌<◌, ◌≤◌, Bool, true, false, cond, eqb, List, [], ◌∷◌, ◌++◌, length, get_or, take, set, replicate, Some, slice_get, sym, refl, ap, ◌∙◌, subst, ap₂, ⊎_elim, arith, length-append, ltb, None, length-set}
use Rattle.std.proofs.lemmas.List.{get_or-set_same, get_or-set_other, get_or-take, take_more, take_more_set, take-take}
use Rattle.std.proofs.lemmas.Option.{get_or_from_slice_get, slice_get-get_or}
use Rattle.std.proofs.Math.Seq.{get_or-append_seam, take-append_seam, take-length}
use Rattle.std.proofs.lemmas.Bool.{cases_eq, eq-eqb, ne_eqb, cond-true, cond-false, lt-ltb}
use Rattle.disassembly.specs.Disassembly.{reversed}
use Rattle.memory.specs.Stack.{slots_after, height_after, top_of, held}
use Rattle.traversal.specs.Discoveries.{undiscovered, parent_in, number_in, earlier_in}
use Rattle.traversal.specs.declared.discovery.Discovery.{Discovery}

-- ---- entries below a bound

abbrev pub Small : ℕ → List ℕ → Type 0
Small n l = (x : ℕ) → get_or l x 0 < n

pub more_small : (n : ℕ) (l : List ℕ) (u : ℕ) → Small n l → u < n → Small n (l ++ (u ∷ []))
more_small n [] u h k zero = k
more_small n [] u h k (suc x) = omega arith
more_small n (y ∷ l) u h k zero = h zero
more_small n (y ∷ l) u h k (suc x) = more_small n l u (λ j. h (suc j)) k x

pub take_small : (n k : ℕ) (l : List ℕ) → Small n l → Small n (take k l)
take_small n zero l h x = let a = h 0 in omega arith
take_small n (suc k) [] h x = h x
take_small n (suc k) (y ∷ l) h zero = h zero
take_small n (suc k) (y ∷ l) h (suc x) = take_small n k l (λ j. h (suc j)) x

-- ---- one write

pub get_or_set : {A : Type 0} (l : List A) (u : ℕ) (v : A) (x : ℕ) (d : A) → u < length l → get_or (set l u v) x d ≡ cond (eqb x u) v (get_or l x d)
get_or_set l u v x d h =
    ⊎_elim
    (λ (e : x ≡ u). ap (λ k. get_or (set l u v) k d) e ∙ get_or-set_same l u v d h ∙ sym (cond-true (eqb x u) v (get_or l x d) (eq-eqb x u e)))
    (λ (ne : x ≡ u → ⊥). get_or-set_other l u x v d ne ∙ sym (cond-false (eqb x u) v (get_or l x d) (ne_eqb x u ne)))
    (cases_eq x u)

pub of_either : {A B : Type 0} (f : A → B) (c : Bool) (a b : A) → f (cond c a b) ≡ cond c (f a) (f b)
of_either f true a b = refl
of_either f false a b = refl

pick_small : (n : ℕ) (c : Bool) (a b : ℕ) → a < n → b < n → cond c a b < n
pick_small n true a b h k = h
pick_small n false a b h k = k

module _ (l : List Discovery) (u : ℕ) (d : Discovery) (x : ℕ) (h : u < length l) where
  pub parent_set : parent_in (set l u d) x ≡ cond (eqb x u) d.parent (parent_in l x)
  parent_set = ap (λ (e : Discovery). e.parent) (get_or_set l u d x undiscovered h) ∙ of_either (λ (e : Discovery). e.parent) (eqb x u) d (get_or l x undiscovered)

  pub number_set : number_in (set l u d) x ≡ cond (eqb x u) d.number (number_in l x)
  number_set = ap (λ (e : Discovery). e.number) (get_or_set l u d x undiscovered h) ∙ of_either (λ (e : Discovery). e.number) (eqb x u) d (get_or l x undiscovered)

  pub earlier_set : earlier_in (set l u d) x ≡ cond (eqb x u) d.earlier (earlier_in l x)
  earlier_set = ap (λ (e : Discovery). e.earlier) (get_or_set l u d x undiscovered h) ∙ of_either (λ (e : Discovery). e.earlier) (eqb x u) d (get_or l x undiscovered)

  pub parents_small : (n : ℕ) → parent_in l x < n → d.parent < n → parent_in (set l u d) x < n
  parents_small n low k = subst (λ y. y < n) (sym parent_set) (pick_small n (eqb x u) d.parent (parent_in l x) k low)

pub none_found : (n x : ℕ) → get_or (replicate n undiscovered) x undiscovered ≡ undiscovered
none_found zero x = refl
none_found (suc n) zero = refl
none_found (suc n) (suc x) = none_found n x

-- ---- a stack kept in slots

-- one record more
pub held_more : (slots slots' : List ℕ) (k k' x : ℕ) → k < length slots → slots' ≡ slots_after slots k x → k' ≡ height_after slots k
    → (held slots' k' ≡ held slots k ++ (x ∷ [])) × (k' ≡ k + 1) × (length slots' ≡ length slots)
held_more slots slots' k k' x room es ek =
    let free : ltb k (length slots) ≡ true = lt-ltb k (length slots) room in
    let up : k' ≡ k + 1 = ek ∙ cond-true (ltb k (length slots)) (k + 1) k free in
    let put : slots' ≡ set slots k x = es ∙ cond-true (ltb k (length slots)) (set slots k x) slots free in
    (ap₂ take up put ∙ take_more_set slots k x room, up, ap length put ∙ length-set slots k x)

-- what is on top
top_there : (slots : List ℕ) (k t : ℕ) → k ≤ length slots → top_of slots k ≡ Some t → (0 < k) × (get_or slots (k - 1) 0 ≡ t)
top_there slots zero t h e = let z : ◌≡◌ {A = ℕ} 0 1 = cc in absurd (omega arith)
top_there slots (suc k) t h e =
    let there : slice_get slots (suc k - 1) ≡ Some t = sym (cond-false (eqb (suc k) 0) None (slice_get slots (suc k - 1)) (ne_eqb (suc k) 0 (λ z. omega arith))) ∙ e in
    (omega arith, get_or_from_slice_get slots (suc k - 1) t 0 there)

pub top_small : (slots : List ℕ) (k t n : ℕ) → k ≤ length slots → top_of slots k ≡ Some t → Small n (held slots k) → t < n
top_small slots k t n h e low =
    let there = top_there slots k t h e in
    let some : 0 < k = there.0 in
    subst (λ (x : ℕ). x < n) (get_or-take k slots (k - 1) 0 (omega arith) ∙ there.1) (low (k - 1))

pub some_on_top : (slots : List ℕ) (k t : ℕ) → k ≤ length slots → top_of slots k ≡ Some t → 0 < k
some_on_top slots k t h e = (top_there slots k t h e).0

-- one record less
pub fewer_small : (n : ℕ) (slots slots' : List ℕ) (k k' : ℕ) → slots' ≡ slots → k' ≡ k - 1 → Small n (held slots k) → Small n (held slots' k')
fewer_small n slots slots' k k' es ek low =
    subst (Small n) (take-take (k - 1) k slots (omega arith) ∙ ap₂ take (sym ek) (sym es)) (take_small n (k - 1) (held slots k) low)

last_same : (a b : List ℕ) (x y : ℕ) → a ++ (x ∷ []) ≡ b ++ (y ∷ []) → (a ≡ b) × (x ≡ y)
last_same a b x y e =
    let one : length (a ++ (x ∷ [])) ≡ length a + 1 = length-append a (x ∷ []) in
    let other : length (b ++ (y ∷ [])) ≡ length b + 1 = length-append b (y ∷ []) in
    let both : length (a ++ (x ∷ [])) ≡ length (b ++ (y ∷ [])) = ap length e in
    let same : length a ≡ length b = omega arith in (
      sym (take-append_seam a (x ∷ [])) ∙ ap₂ take same e ∙ take-append_seam b (y ∷ []),
      sym (get_or-append_seam a x [] 0) ∙ ap₂ (λ (l : List ℕ) (k : ℕ). get_or l k 0) e same ∙ get_or-append_seam b y [] 0,
    )

none_more : (a : List ℕ) (x : ℕ) → a ++ (x ∷ []) ≡ [] → ⊥
none_more a x e =
    let one : length (a ++ (x ∷ [])) ≡ length a + 1 = length-append a (x ∷ []) in
    let none : length (a ++ (x ∷ [])) ≡ 0 = ap length e in
    omega arith

-- a stack m, kept the other way round, has on top what m begins with
on_more : (a m : List ℕ) (t : ℕ) → a ++ (t ∷ []) ≡ reversed m → (r : List ℕ) × (m ≡ t ∷ r) × (a ≡ reversed r)
on_more a [] t e = absurd (none_more a t e)
on_more a (y ∷ r) t e = let same = last_same a (reversed r) t y e in (r, ap (λ (z : ℕ). z ∷ r) (sym same.1), same.0)

pub on_top : (slots : List ℕ) (k : ℕ) (m : List ℕ) (t : ℕ) → k ≤ length slots → held slots k ≡ reversed m → top_of slots k ≡ Some t
    → (r : List ℕ) × (m ≡ t ∷ r) × (held slots (k - 1) ≡ reversed r)
on_top slots k m t h e top =
    let there = top_there slots k t h top in
    let some : 0 < k = there.0 in
    let up : k - 1 + 1 ≡ k = omega arith in
    let more : held slots (k - 1) ++ (t ∷ []) ≡ held slots k =
    sym (take_more slots (k - 1) 0 (omega arith) ∙ ap (λ (x : ℕ). take (k - 1) slots ++ (x ∷ [])) there.1) ∙ ap (λ j. take j slots) up in
    on_more (held slots (k - 1)) m t (more ∙ e)

pub none_on_top : (slots : List ℕ) (k : ℕ) → k ≤ length slots → top_of slots k ≡ None → k ≡ 0
none_on_top slots zero h e = refl
none_on_top slots (suc k) h e =
    let there : slice_get slots (suc k - 1) ≡ None = sym (cond-false (eqb (suc k) 0) None (slice_get slots (suc k - 1)) (ne_eqb (suc k) 0 (λ z. omega arith))) ∙ e in
    let some : slice_get slots (suc k - 1) ≡ Some (get_or slots (suc k - 1) 0) = slice_get-get_or slots (suc k - 1) 0 (omega arith) in
    let z : None ≡ Some (get_or slots (suc k - 1) 0) = sym there ∙ some in
    let n : ◌≡◌ {A = ℕ} 0 1 = cc in
    omega arith

pub none_held : (slots : List ℕ) (k : ℕ) (m : List ℕ) → k ≡ 0 → held slots k ≡ reversed m → m ≡ []
none_held slots k [] none e = refl
none_held slots k (x ∷ m) none e = absurd (none_more (reversed m) x (sym e ∙ ap (λ j. take j slots) none))

-- ---- the first entries, the last of them first

abbrev pub stacked : ℕ → List ℕ → List ℕ
stacked zero l = []
stacked (suc k) l = get_or l k 0 ∷ stacked k l

pub stacked_length : (k : ℕ) (l : List ℕ) → length (stacked k l) ≡ k
stacked_length zero l = refl
stacked_length (suc k) l = ap suc (stacked_length k l)

reversed_stacked : (k : ℕ) (l : List ℕ) → k ≤ length l → take k l ≡ reversed (stacked k l)
reversed_stacked zero l h = refl
reversed_stacked (suc k) l h =
    let up : suc k ≡ k + 1 = omega arith in
    ap (λ j. take j l) up ∙ take_more l k 0 (omega arith) ∙ ap (λ (r : List ℕ). r ++ (get_or l k 0 ∷ [])) (reversed_stacked k l (omega arith))

reversed_more : (l : List ℕ) (x : ℕ) → reversed (l ++ (x ∷ [])) ≡ x ∷ reversed l
reversed_more [] x = refl
reversed_more (y ∷ l) x = ap (λ (r : List ℕ). r ++ (y ∷ [])) (reversed_more l x)

reversed_twice : (l : List ℕ) → reversed (reversed l) ≡ l
reversed_twice [] = refl
reversed_twice (x ∷ l) = reversed_more (reversed l) x ∙ ap (λ (r : List ℕ). x ∷ r) (reversed_twice l)

pub stacked_all : (l m : List ℕ) → l ≡ reversed m → stacked (length l) l ≡ m
stacked_all l m e =
    let whole : l ≡ reversed (stacked (length l) l) = sym (take-length l) ∙ reversed_stacked (length l) l (omega arith) in
    sym (reversed_twice (stacked (length l) l)) ∙ ap reversed (sym whole ∙ e) ∙ reversed_twice m
