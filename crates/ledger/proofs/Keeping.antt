-- The ledger's pairs are exactly those whose last accepted call was a join.
use Rattle.std.proofs.Common.{◌≡◌, ℕ, Bool, true, false, not, ◌&&◌, ◌⊎◌, List, [], ◌∷◌, ◌++◌, Ok, Err, Result, sym, refl, ap, ◌∙◌, subst, inl, inr, ⊎_elim}
use Rattle.std.proofs.lemmas.Bool.{cases_Bool, or_cases, or_left, or_right, and_parts, both_ways}
use Rattle.theory.specs.Graph.{Graph, joined, same_pair, joining, unjoining, no_joins}
use Rattle.graph.specs.Store.{join_answer, unjoin_answer, after}
use Rattle.graph.specs.declared.fault.StoreFault.{StoreFault}
use Rattle.ledger.specs.declared.call.Call.{Call}
use Rattle.ledger.specs.declared.call.Call.TheVariants.{Join, Unjoin, Build, Drive, Fill, Tables, Joined, NextNeighbour, Capacity}
use Rattle.ledger.specs.Ledger.{ledger_step, ledger, Edit, put_in, take_out, if_accepted, edits, NoneOf, LastPut, LedgerKeeps}

abbrev edited : Graph → Edit → Graph
edited m (put_in p q) = joining m p q
edited m (take_out p q) = unjoining m p q

abbrev by_edits : Graph → List Edit → Graph
by_edits m [] = m
by_edits m (e ∷ l) = by_edits (edited m e) l

-- ---- the edits make the ledger

put_step : (m : Graph) (r : Result Unit StoreFault) (e : Edit) (l : List Edit) → by_edits m (if_accepted r e l) ≡ by_edits (after r (edited m e) m) l
put_step m (Ok u) e l = refl
put_step m (Err f) e l = refl

made : (capacity : ℕ) (m : Graph) (l : List Call) → ledger capacity m l ≡ by_edits m (edits capacity m l)
unfolding ledger edits
made capacity m [] = refl
made capacity m (Join a b ∷ l) =
    made capacity (ledger_step capacity m (Join a b)) l
    ∙ sym (put_step m (join_answer m capacity a b) (put_in a b) (edits capacity (ledger_step capacity m (Join a b)) l))
made capacity m (Unjoin a b ∷ l) =
    made capacity (ledger_step capacity m (Unjoin a b)) l
    ∙ sym (put_step m (unjoin_answer m a b) (take_out a b) (edits capacity (ledger_step capacity m (Unjoin a b)) l))
made capacity m (Build k ∷ l) = made capacity m l
made capacity m (Drive j k ∷ l) = made capacity m l
made capacity m (Fill j i k ∷ l) = made capacity m l
made capacity m (Tables ∷ l) = made capacity m l
made capacity m (Joined a b ∷ l) = made capacity m l
made capacity m (NextNeighbour a b ∷ l) = made capacity m l
made capacity m (Capacity ∷ l) = made capacity m l

-- ---- the last edit decides

module _ (a b : ℕ) where
  -- put in by the edits, or there before and not edited
  abbrev Stays : Graph → List Edit → Type 0
  Stays m l = LastPut l a b ⊎ ((joined m a b ≡ true) × NoneOf l a b)

  later_on : (e : Edit) (l : List Edit) → LastPut l a b → LastPut (e ∷ l) a b
  later_on e l h = record {
    before = e ∷ h.before;
    p = h.p;
    q = h.q;
    later = h.later;
    stands = ap (λ x. e ∷ x) h.stands;
    of_pair = h.of_pair;
    none_later = h.none_later;
  }

  here : (p q : ℕ) (l : List Edit) → same_pair p q a b ≡ true → NoneOf l a b → LastPut (put_in p q ∷ l) a b
  here p q l same none = record { before = []; p = p; q = q; later = l; stands = refl; of_pair = same; none_later = none }

  -- a put of the pair at the head, and none after; or a put among those after
  abbrev FromHead : Edit → List Edit → Type 0
  FromHead e l = ((p q : ℕ) × (e ≡ put_in p q) × (same_pair p q a b ≡ true) × NoneOf l a b) ⊎ LastPut l a b

  parted : (e : Edit) (l before : List Edit) (p q : ℕ) (later : List Edit) → e ∷ l ≡ before ++ (put_in p q ∷ later) → same_pair p q a b ≡ true
      → NoneOf later a b → FromHead e l
  parted e l [] p q later h same none = inl (p, q, cc, same, subst (λ x. NoneOf x a b) (cc) none)
  parted e l (d ∷ before) p q later h same none = inr (record { before = before; p = p; q = q; later = later; stands = cc; of_pair = same; none_later = none })

  from_head : (e : Edit) (l : List Edit) → LastPut (e ∷ l) a b → FromHead e l
  from_head e l h = parted e l h.before h.p h.q h.later h.stands h.of_pair h.none_later

  joined_put : (m : Graph) (p q : ℕ) → joined (joining m p q) a b ≡ true → (same_pair p q a b ≡ true) ⊎ ((joined m a b ≡ true) × (same_pair p q a b ≡ false))
  joined_put m p q h = ⊎_elim (λ (s : same_pair p q a b ≡ true). inl s)
      (λ (s : same_pair p q a b ≡ false). inr (⊎_elim (λ t. absurd (both_ways (same_pair p q a b) s t)) (λ j. j) (or_cases (same_pair p q a b) (joined m a b) h), s))
      (cases_Bool (same_pair p q a b))

  to : (m : Graph) (l : List Edit) → joined (by_edits m l) a b ≡ true → Stays m l
  to m [] h = inr (h, tt)
  to m (put_in p q ∷ l) h = ⊎_elim (λ x. inl (later_on (put_in p q) l x))
      (λ x. ⊎_elim (λ s. inl (here p q l s x.1)) (λ j. inr (j.0, (j.1, x.1))) (joined_put m p q x.0))
      (to (joining m p q) l h)
  to m (take_out p q ∷ l) h = ⊎_elim (λ x. inl (later_on (take_out p q) l x))
      (λ x. let z = and_parts (not (same_pair p q a b)) (joined m a b) x.0 in inr (z.1, (not_true (same_pair p q a b) z.0, x.1)))
      (to (unjoining m p q) l h)
    where
      not_true : (x : Bool) → not x ≡ true → x ≡ false
      not_true true e = sym e
      not_true false e = refl

  -- an edit of the pair that is none
  off : (p q : ℕ) → same_pair p q a b ≡ true → same_pair p q a b ≡ false → ⊥
  off p q s t = both_ways (same_pair p q a b) t s

  two_kinds : (p q r s : ℕ) → take_out p q ≡ put_in r s → ⊥
  two_kinds p q r s e = cc

  same_put : (p q r s : ℕ) → put_in p q ≡ put_in r s → same_pair r s a b ≡ true → same_pair p q a b ≡ true
  same_put p q r s e h = let x : p ≡ r = cc in let y : q ≡ s = cc in ap (λ z. same_pair z q a b) x ∙ ap (λ z. same_pair r z a b) y ∙ h

  back : (m : Graph) (l : List Edit) → Stays m l → joined (by_edits m l) a b ≡ true
  back m [] h = ⊎_elim (λ x. absurd (never x.before x.p x.q x.later x.stands)) (λ x. x.0) h
    where
      never : (before : List Edit) (p q : ℕ) (later : List Edit) → [] ≡ before ++ (put_in p q ∷ later) → ⊥
      never [] p q later e = cc
      never (d ∷ before) p q later e = cc
  back m (put_in p q ∷ l) h = let again : Stays (joining m p q) l → joined (by_edits (joining m p q) l) a b ≡ true = back (joining m p q) l in ⊎_elim
      (λ x. ⊎_elim
      (λ y. again (inr (or_left (same_pair p q a b) (joined m a b) (same_put p q y.0 y.1 y.2 y.3), y.4)))
      (λ y. again (inl y))
      (from_head (put_in p q) l x))
      (λ x. again (inr (or_right (same_pair p q a b) (joined m a b) x.0, x.1.1)))
      h
  back m (take_out p q ∷ l) h = let again : Stays (unjoining m p q) l → joined (by_edits (unjoining m p q) l) a b ≡ true = back (unjoining m p q) l in ⊎_elim
      (λ x. ⊎_elim
      (λ y. absurd (two_kinds p q y.0 y.1 y.2))
      (λ y. again (inl y))
      (from_head (take_out p q) l x))
      (λ x. again (inr (kept (same_pair p q a b) (joined m a b) x.1.0 x.0, x.1.1)))
      h
    where
      kept : (x y : Bool) → x ≡ false → y ≡ true → (not x && y) ≡ true
      kept x y e f = rw (e, f) refl

pub ledger_keeps : LedgerKeeps
ledger_keeps n capacity l a b = (
  (λ h. ⊎_elim (λ x. x) (λ x. absurd (both_ways false refl x.0)) (to a b (no_joins n) (edits capacity (no_joins n) l) (ap (λ m. joined m a b) (sym (made capacity (no_joins n) l)) ∙ h))),
  (λ h. ap (λ m. joined m a b) (made capacity (no_joins n) l) ∙ back a b (no_joins n) (edits capacity (no_joins n) l) (inl h)),
)
