-- One more table gone through, and all of them.
--
--   gathers_so    the rows after it handed on what is under it
--   Gone m t L b  b tells what is known once the tables of L were gone through
--   gone_none, gone_more, gone_all
--                 before any, after one more, and after all
use Rattle.std.proofs.Common.{◌≡◌, ℕ, zero, suc, ◌+◌, ◌<◌, ◌≤◌, Bool, true, false, cond, not, ◌&&◌, ◌||◌, eqb, List, [], ◌∷◌, length, set, replicate, length-set, refl, sym, ap, ap₂, ◌∙◌, ⊎_elim, arith}
use Rattle.std.proofs.lemmas.Bool.{cases_Bool, eqb-true}
use Rattle.theory.specs.Graph.{Graph, table_count, pairs}
use Rattle.disassembly.specs.Search.{has}
use Rattle.spanning.specs.Laws.{MarksOf, parent_in, unmarked}
use Rattle.spanning.specs.Crossing.{cross}
use Rattle.spanning.proofs.DriveLeaving.{Ordered, small, root_parent}
use Rattle.spanning.proofs.DriveUnder.{Gathered, none_gathered, gathered_more, gathered_exactly}
use Rattle.spanning.proofs.DriveCross.{among, crossed_now, crossed_more, crossed_none, crossed_all, goes_up}
use Rattle.sets.specs.Set.{bit}
use Rattle.sets.specs.Rows.{in_row}
use Rattle.sets.proofs.Bit.{zero_bit}
use Rattle.driving.specs.Subtrees.{Begins, Gathers, TellsTree}
use Rattle.driving.specs.declared.subtrees.Subtrees.{Subtrees}
use Rattle.driving.proofs.Counted.{how_many_same, counted_to, row_set}

-- ---- one more

shape : (sp sv pv us up uv xv : Bool) → (sp ≡ true → (us ≡ up) × (sv ≡ pv)) → (sv ≡ true → us ≡ uv)
    → cond sp (cond pv (xv || uv) up || (xv || uv)) (cond sv (xv || uv) us) ≡ (((sp || sv) && (xv || uv)) || us)
shape true true pv us up uv xv h k = let a = h refl in let b = k refl in grind (arith, a, b)
shape true false pv us up uv xv h k = let a = h refl in grind (arith, a)
shape false true pv us up uv xv h k = let b = k refl in grind (arith, b)
shape false false pv us up uv xv h k = refl

-- w is what is under v, and e the row of its parent p, into which it is put
pub gathers_so : (under : List ℕ) (p v w e q : ℕ) → 64 ≤ length under → v < 64 → p < 64
    → ((x : ℕ) → bit w x ≡ (eqb x v || in_row under v x)) → ((x : ℕ) → bit e x ≡ in_row (set under v w) p x) → ((x : ℕ) → bit q x ≡ (bit e x || bit w x))
    → (s x : ℕ) → in_row (set (set under v w) p q) s x ≡ (((eqb s p || eqb s v) && (eqb x v || in_row under v x)) || in_row under s x)
gathers_so under p v w e q long vl pl w-is e-is q-is s x =
    let long' : length (set under v w) ≡ length under = length-set under v w in
    let inner : (z : ℕ) → in_row (set under v w) z x ≡ cond (eqb z v) (eqb x v || in_row under v x) (in_row under z x) =
    λ z. row_set under v w z x (omega arith) ∙ ap (λ (b : Bool). cond (eqb z v) b (in_row under z x)) (w-is x) in
    row_set (set under v w) p q s x (omega arith)
    ∙ ap₂ (λ (a b : Bool). cond (eqb s p) a b) (q-is x ∙ ap₂ (λ (a b : Bool). a || b) (e-is x ∙ inner p) (w-is x)) (inner s)
    ∙ shape (eqb s p) (eqb s v) (eqb p v) (in_row under s x) (in_row under p x) (in_row under v x) (eqb x v)
    (λ h. (ap (λ (z : ℕ). in_row under z x) (eqb-true s p h), ap (λ (z : ℕ). eqb z v) (eqb-true s p h)))
    (λ h. ap (λ (z : ℕ). in_row under z x) (eqb-true s v h))

-- ---- all

pub record Gone (m t : Graph) (L : List ℕ) (b : Subtrees) : Type 0 where
  pub under : Gathered (parent_in t) (table_count m) L (in_row b.under)
  pub gone : (x : ℕ) → bit b.gone x ≡ has L x
  pub cross : b.cross ≡ pairs (among m t L) (table_count m)

no_rows : (n x y : ℕ) → in_row (replicate n 0) x y ≡ false
no_rows zero x y = zero_bit y
no_rows (suc n) zero y = zero_bit y
no_rows (suc n) (suc x) y = no_rows n x y

pub gone_none : (b : Subtrees) → Begins b → (m t : Graph) → Gone m t [] b
gone_none b q m t = record {
  under = none_gathered (parent_in t) (table_count m) (in_row b.under) (λ s x. ap (λ (l : List ℕ). in_row l s x) q.under ∙ no_rows 64 s x);
  gone = λ x. ap (λ (y : ℕ). bit y x) q.gone ∙ zero_bit x;
  cross = q.cross ∙ sym (crossed_none m t (table_count m));
}

module _ (m t : Graph) (h : MarksOf m t) where
  abbrev n : ℕ
  n = table_count m

  abbrev f : ℕ → ℕ
  f = parent_in t

  module _ (L : List ℕ) (v : ℕ) (o : Ordered f n (v ∷ L)) (b : Subtrees) (q : Gone m t L b) (row : ℕ) (is_row : (x : ℕ) → bit row x ≡ unmarked m t v x) where
    low : (x : ℕ) → has L x ≡ true → x < n
    low = small f n L o.1

    now : (x : ℕ) → ((bit row x && bit b.gone x) && not (eqb x v || in_row b.under v x)) ≡ (has L x && cross m t 0 v x)
    now x = ap₂ (λ j k. (j && k) && not (eqb x v || in_row b.under v x)) (is_row x) (q.gone x) ∙ crossed_now m t h L (in_row b.under) q.under v o.0 low x

    none_beyond : (x : ℕ) → n ≤ x → (has L x && cross m t 0 v x) ≡ false
    none_beyond x l = ⊎_elim
        (λ (k : has L x ≡ true). let z : x < n = low x k in absurd (omega arith))
        (λ (k : has L x ≡ false). ap (λ c. c && cross m t 0 v x) k)
        (cases_Bool (has L x))

    pub gone_more : (b' : Subtrees) → Gathers row (parent_in t v) v b b' → Gone m t (v ∷ L) b'
    gone_more b' g = record {
      under = gathered_more f n (goes_up m t h) (root_parent t) L (in_row b.under) q.under v o.0 (in_row b'.under) g.under;
      gone = λ x. g.gone x ∙ ap (λ c. eqb x v || c) (q.gone x);
      cross = g.cross ∙ ap₂ (λ c d. c + d) q.cross
          (how_many_same (λ x. (bit row x && bit b.gone x) && not (eqb x v || in_row b.under v x)) (λ x. has L x && cross m t 0 v x) now
          ∙ counted_to (λ x. has L x && cross m t 0 v x) n h.simple.few none_beyond)
          ∙ sym (crossed_more m t h L (in_row b.under) q.under v o.0 low);
    }

  pub gone_all : (L : List ℕ) (b : Subtrees) → Gone m t L b → ((x : ℕ) → x < table_count m → has L x ≡ true) → TellsTree m t b
  gone_all L b q all = record {
    under = λ s x sn xn. gathered_exactly f n L (in_row b.under) q.under s x (all s (rw (sym h.same) sn)) (rw (sym h.same) xn);
    cross = q.cross ∙ crossed_all m t L all;
  }
