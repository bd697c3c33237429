-- The tree that is named at a turn is the last accepted filling's of its place, or the tree that was lent.
use Rattle.std.proofs.Common.{◌≡◌, ℕ, ◌+◌, ◌<◌, ◌≤◌, length, slice_get, Some, Ok, Option, sym, refl, ap, ◌∙◌, subst, inl, inr, ⊎_elim, arith}
use Rattle.std.proofs.lemmas.Bool.{cases_eq}
use Rattle.theory.specs.Graph.{Graph}
use Rattle.trees.specs.Tree.{marked}
use Rattle.ledger.specs.declared.call.Answer.{Answer}
use Rattle.ledger.specs.declared.call.Answer.TheVariants as answers
use Rattle.ledger.specs.declared.call.Call.{Call}
use Rattle.ledger.specs.declared.call.Call.TheVariants.{Fill}
use Rattle.ledger.specs.declared.call.Turn.{Turn}
use Rattle.ledger.specs.Run.{lent_from, tree_at}
use Rattle.ledger.specs.RunLaw.{Run, TurnAt, FilledAt, NotFilled, FilledLast, AsLent, TreeAt}

pub same_turn : (c d : Call) (x y : Answer) (o : Option Turn) → o ≡ Some (record { call = c; answer = Some x }) → o ≡ Some (record { call = d; answer = Some y }) → (c ≡ d) × (x ≡ y)
same_turn c d x y o h k =
    let t : Turn = record { call = c; answer = Some x } in
    let u : Turn = record { call = d; answer = Some y } in
    let e : t ≡ u = some_same t u (sym h ∙ k) in
    (ap (λ (z : Turn). z.call) e, answer_same x y (ap (λ (z : Turn). z.answer) e))
  where
    some_same : (t u : Turn) → Some t ≡ Some u → t ≡ u
    some_same t u e = cc

    answer_same : (x y : Answer) → Some x ≡ Some y → x ≡ y
    answer_same x y e = cc

-- a place that is filled by the turn
abbrev pub FilledBy : Call → Answer → ℕ → Type 0
FilledBy c x j = (first count : ℕ) × (c ≡ Fill j first count) × (x ≡ answers.Filled (Ok tt))

module _ (R : Run) (i j : ℕ) (c : Call) (x : Answer) (turn : TurnAt R i c x) where
  -- no accepted filling of the place
  not_now : (FilledBy c x j → ⊥) → (t : Graph) → FilledAt R i j t → ⊥
  not_now other t f = let q = same_turn c (Fill j f.first f.count) x (answers.Filled (Ok tt)) (slice_get R.turns i) turn f.turn in other (f.first, f.count, q.0, q.1)

  further : (h : ℕ) → NotFilled R h i j → (FilledBy c x j → ⊥) → NotFilled R h (i + 1) j
  further h none other k t l m f = ⊎_elim (λ (e : k ≡ i). not_now other t (subst (λ z. FilledAt R z j t) e f))
      (λ (ne : k ≡ i → ⊥). none k t l (omega arith) f) (cases_eq k i)

  -- the tree stays
  pub stays_named : (t : Graph) → (FilledBy c x j → ⊥) → TreeAt R i j t → TreeAt R (i + 1) j t
  stays_named t other h = ⊎_elim
      (λ (f : FilledLast R i j t). let l : f.turn < i = f.before in
      inl (record { place = f.place; turn = f.turn; before = omega arith; filled = f.filled; none_later = further (f.turn + 1) f.none_later other }))
      (λ (f : AsLent R i j t). inr (record { none = λ l. further 0 (f.none l) other; lent = f.lent }))
      h

  -- past the end it is the tree of one table
  pub past_end : (t : Graph) → length R.trees_before ≤ j → TreeAt R i j t → TreeAt R (i + 1) j t
  past_end t l h = ⊎_elim
      (λ (f : FilledLast R i j t). let k : j < length R.trees_before = f.place in absurd (omega arith))
      (λ (f : AsLent R i j t). inr (record { none = λ k. absurd (omega arith); lent = f.lent }))
      h

pub named_now : (R : Run) (i j first count : ℕ) → j < length R.trees_before → TurnAt R i (Fill j first count) (answers.Filled (Ok tt))
    → TreeAt R (i + 1) j (marked R.tables (lent_from first count R.marks))
named_now R i j first count l turn = inl (record {
  place = l;
  turn = i;
  before = omega arith;
  filled = record { first = first; count = count; turn = turn; marks = refl };
  none_later = λ k t h m f. absurd (omega arith);
})

pub named_first : (R : Run) (j : ℕ) → TreeAt R 0 j (tree_at R.trees_before j)
named_first R j = inr (record { none = λ l k t h m f. absurd (omega arith); lent = refl })
