-- Records laid into slots one after another.
--
--   poured_append, poured_length   laying splits over ++; there are as many slots as before
--   poured_past                    past the last slot nothing is laid
--   poured_front, poured_back      the records stand behind those before them, as far as there are slots, and the slots after them are as they were
--   lays_as                        the records said in another way
--   lays_one, lays_more            one record put on top; more laid after those
--   LaidSoFar s t l all            the stack t is s with so many of the records `all` laid on top that the records l are left
--   laid_on, laid_end              from one piece to the next, and after the last
use Rattle.std.proofs.Common.{◌≡◌, ℕ, suc, ◌+◌, ◌-◌, ◌<◌, ◌≤◌, min, cond, List, [], ◌∷◌, ◌++◌, length, take, drop, set, sym, refl, ap, ◌∙◌, subst, ⊎_elim, arith, length-set}
use Rattle.std.proofs.lemmas.Bool.{cases_lt, lt-ltb, le-ltb}
use Rattle.std.proofs.lemmas.List.{append-nil, append_assoc, length-append, take_all, take_more_set, drop-set-lt, set_past}
use Rattle.theory.specs.declared.step.Step.{Step}
use Rattle.memory.specs.declared.stack.Stack.{Stack}
use Rattle.memory.specs.Stack.{slots_of, height_of, lender_of, slots_after, height_after}
use Rattle.notes.specs.Notes.{poured, Lays}

pub poured_append : {T : Type 0} (slots : List T) (k : ℕ) (l r : List T) → poured slots k (l ++ r) ≡ poured (poured slots k l) (k + length l) r
poured_append slots k [] r = let e : k ≡ k + 0 = omega arith in ap (λ n. poured slots n r) e
poured_append slots k (x ∷ l) r =
    let e : k + 1 + length l ≡ k + suc (length l) = omega arith in
    poured_append (set slots k x) (k + 1) l r ∙ ap (λ n. poured (poured (set slots k x) (k + 1) l) n r) e

pub poured_length : {T : Type 0} (slots : List T) (k : ℕ) (l : List T) → length (poured slots k l) ≡ length slots
poured_length slots k [] = refl
poured_length slots k (x ∷ l) = poured_length (set slots k x) (k + 1) l ∙ length-set slots k x

pub poured_past : {T : Type 0} (slots : List T) (k : ℕ) (l : List T) → length slots ≤ k → poured slots k l ≡ slots
poured_past slots k [] h = refl
poured_past slots k (x ∷ l) h = ap (λ s. poured s (k + 1) l) (set_past slots k x h) ∙ poured_past slots (k + 1) l (omega arith)

-- k is a place of the slots, or the one past the last
pub poured_front : {T : Type 0} (slots : List T) (k : ℕ) (l : List T) → k ≤ length slots
    → take (min (k + length l) (length slots)) (poured slots k l) ≡ take k slots ++ take (length slots - k) l
poured_front slots k [] h =
    let e : min (k + 0) (length slots) ≡ k = omega arith in
    ap (λ n. take n slots) e ∙ sym (append-nil (take k slots)) ∙ ap (λ m. take k slots ++ m) (sym (take_all (length slots - k) [] (omega arith)))
poured_front slots k (x ∷ l) h = ⊎_elim
    (λ (lt : k < length slots).
    let long : length (set slots k x) ≡ length slots = length-set slots k x in
    let n : min (k + suc (length l)) (length slots) ≡ min (k + 1 + length l) (length (set slots k x)) = omega arith in
    let m : length slots - k ≡ suc (length (set slots k x) - (k + 1)) = omega arith in
    ap (λ i. take i (poured (set slots k x) (k + 1) l)) n
    ∙ poured_front (set slots k x) (k + 1) l (omega arith)
    ∙ ap (λ f. f ++ take (length (set slots k x) - (k + 1)) l) (take_more_set slots k x lt)
    ∙ append_assoc (take k slots) (x ∷ []) (take (length (set slots k x) - (k + 1)) l)
    ∙ ap (λ i. take k slots ++ take i (x ∷ l)) (sym m))
    (λ (ge : length slots ≤ k).
    let n : min (k + suc (length l)) (length slots) ≡ k = omega arith in
    let m : length slots - k ≡ 0 = omega arith in
    ap (take (min (k + suc (length l)) (length slots))) (poured_past slots k (x ∷ l) ge)
    ∙ ap (λ i. take i slots) n
    ∙ sym (append-nil (take k slots))
    ∙ ap (λ i. take k slots ++ take i (x ∷ l)) (sym m))
    (cases_lt k (length slots))

pub poured_back : {T : Type 0} (slots : List T) (k : ℕ) (l : List T) → drop (k + length l) (poured slots k l) ≡ drop (k + length l) slots
poured_back slots k [] = refl
poured_back slots k (x ∷ l) =
    let e : k + suc (length l) ≡ k + 1 + length l = omega arith in
    ap (λ n. drop n (poured (set slots k x) (k + 1) l)) e
    ∙ poured_back (set slots k x) (k + 1) l
    ∙ drop-set-lt (k + 1 + length l) slots k x (omega arith)
    ∙ sym (ap (λ n. drop n slots) e)

-- ---- stacks

pub lays_as : (s t : Stack Step) (l r : List Step) → l ≡ r → Lays s t l → Lays s t r
lays_as s t l r e lays = subst (Lays s t) e lays

pub lays_one : (s t : Stack Step) (x : Step) → slots_of t ≡ slots_after (slots_of s) (height_of s) x → height_of t ≡ height_after (slots_of s) (height_of s)
    → lender_of t ≡ lender_of s → Lays s t (x ∷ [])
lays_one s t x kept height lender = ⊎_elim
    (λ (lt : s.len < length s.slots.now).
    let room = lt-ltb s.len (length s.slots.now) lt in
    let grown : t.len ≡ s.len + 1 = height ∙ ap (λ b. cond b (s.len + 1) s.len) room in record {
      laid = kept ∙ ap (λ b. cond b (set s.slots.now s.len x) s.slots.now) room;
      height = omega arith;
      lender = lender;
    })
    (λ (ge : length s.slots.now ≤ s.len).
    let full = le-ltb s.len (length s.slots.now) ge in
    let same : t.len ≡ s.len = height ∙ ap (λ b. cond b (s.len + 1) s.len) full in record {
      laid = kept ∙ ap (λ b. cond b (set s.slots.now s.len x) s.slots.now) full ∙ sym (set_past s.slots.now s.len x ge);
      height = omega (arith, s.fits);
      lender = lender;
    })
    (cases_lt s.len (length s.slots.now))

-- the records laid on what the stack holds, which is as many as there was room for
pub lays_more : (s t u : Stack Step) (l r : List Step) → Lays s t l → Lays t u r → Lays s u (l ++ r)
lays_more s t u l r first second = record {
  laid =
      second.laid
      ∙ ⊎_elim
      (λ (over : length s.slots.now < s.len + length l).
      poured_past t.slots.now t.len r (omega (arith, first.height, long))
      ∙ sym (poured_past t.slots.now (s.len + length l) r (omega (arith, long))))
      (λ (fits : s.len + length l ≤ length s.slots.now).
      let all : t.len ≡ s.len + length l = omega (arith, first.height) in
      ap (λ k. poured t.slots.now k r) all)
      (cases_lt (length s.slots.now) (s.len + length l))
      ∙ ap (λ slots. poured slots (s.len + length l) r) first.laid
      ∙ sym (poured_append s.slots.now s.len l r);
  height = omega (arith, second.height, first.height, long, length-append l r);
  lender = second.lender ∙ first.lender;
}
  where
    long : length t.slots.now ≡ length s.slots.now
    long = ap length first.laid ∙ poured_length s.slots.now s.len l

pub record LaidSoFar (s t : Stack Step) (left all : List Step) : Type 0 where
  pub done : List Step
  pub lays : Lays s t done
  pub whole : done ++ left ≡ all

pub laid_on : (s t u : Stack Step) (left l r all : List Step) → LaidSoFar s t left all → left ≡ l ++ r → Lays t u l → LaidSoFar s u r all
laid_on s t u left l r all so_far e more = record {
  done = so_far.done ++ l;
  lays = lays_more s t u so_far.done l so_far.lays more;
  whole = append_assoc so_far.done l r ∙ ap (λ m. so_far.done ++ m) (sym e) ∙ so_far.whole;
}

pub laid_end : (s t : Stack Step) (left all : List Step) → LaidSoFar s t left all → left ≡ [] → Lays s t all
laid_end s t left all so_far e = lays_as s t so_far.done all (sym (append-nil so_far.done) ∙ ap (λ m. so_far.done ++ m) (sym e) ∙ so_far.whole) so_far.lays
