-- The ledger has a pair exactly when the last accepted call on it was a join, by the calls and answers of the run.
use Rattle.std.proofs.Common.{◌≡◌, ℕ, ◌+◌, ◌<◌, Bool, true, false, not, ◌&&◌, ◌↔◌, slice_get, Ok, Err, Result, refl, ap, ◌∙◌, subst, inl, inr, ⊎_elim, arith}
use Rattle.std.proofs.lemmas.Bool.{cases_Bool, cases_eq, or_cases, or_left, or_right, and_parts, both_ways}
use Rattle.theory.specs.Graph.{Graph, joined, same_pair, joining, unjoining}
use Rattle.graph.specs.Store.{join_answer, unjoin_answer, after}
use Rattle.graph.specs.declared.fault.StoreFault.{StoreFault}
use Rattle.ledger.specs.declared.call.Answer.{Answer}
use Rattle.ledger.specs.declared.call.Answer.TheVariants as answers
use Rattle.ledger.specs.declared.call.Call.{Call}
use Rattle.ledger.specs.declared.call.Call.TheVariants.{Join, Unjoin, Build, Drive, Fill, Tables, Joined, NextNeighbour, Capacity}
use Rattle.ledger.specs.Ledger.{ledger_step}
use Rattle.ledger.specs.RunLaw.{Run, TurnAt, EditedAt, JoinedLast}
use Rattle.ledger.proofs.Named.{same_turn}

-- ---- what is no edit of a pair

refused_edit : (f : StoreFault) → answers.Edited (Err f) ≡ answers.Edited (Ok tt) → ⊥
refused_edit f e = cc

join_ends : (p q v w : ℕ) → Join p q ≡ Join v w → (p ≡ v) × (q ≡ w)
join_ends p q v w e = (cc, cc)

unjoin_ends : (p q v w : ℕ) → Unjoin p q ≡ Unjoin v w → (p ≡ v) × (q ≡ w)
unjoin_ends p q v w e = (cc, cc)

join_unjoin : (p q v w : ℕ) → Join p q ≡ Unjoin v w → ⊥
join_unjoin p q v w e = cc

-- a call that is neither
abbrev NoEdit : Call → Type 0
NoEdit c = ((p q : ℕ) → c ≡ Join p q → ⊥) × ((p q : ℕ) → c ≡ Unjoin p q → ⊥)

module _ (R : Run) (i a b : ℕ) where
  abbrev Last : ℕ → Type 0
  Last k = JoinedLast R k a b

  not_edited : (c : Call) (x : Answer) → TurnAt R i c x → NoEdit c → EditedAt R i a b → ⊥
  not_edited c x turn other e = ⊎_elim
      (λ t. other.0 e.0 e.1 (same_turn c (Join e.0 e.1) x (answers.Edited (Ok tt)) (slice_get R.turns i) turn t).0)
      (λ t. other.1 e.0 e.1 (same_turn c (Unjoin e.0 e.1) x (answers.Edited (Ok tt)) (slice_get R.turns i) turn t).0)
      e.3

  not_accepted : (c : Call) (f : StoreFault) → TurnAt R i c (answers.Edited (Err f)) → EditedAt R i a b → ⊥
  not_accepted c f turn e = ⊎_elim
      (λ t. refused_edit f (same_turn c (Join e.0 e.1) (answers.Edited (Err f)) (answers.Edited (Ok tt)) (slice_get R.turns i) turn t).1)
      (λ t. refused_edit f (same_turn c (Unjoin e.0 e.1) (answers.Edited (Err f)) (answers.Edited (Ok tt)) (slice_get R.turns i) turn t).1)
      e.3

  ends_of : (p q v w : ℕ) → p ≡ v → q ≡ w → same_pair v w a b ≡ true → same_pair p q a b ≡ true
  ends_of p q v w e f h = ap (λ z. same_pair z q a b) e ∙ ap (λ z. same_pair v z a b) f ∙ h

  other_join : (p q : ℕ) → TurnAt R i (Join p q) (answers.Edited (Ok tt)) → same_pair p q a b ≡ false → EditedAt R i a b → ⊥
  other_join p q turn off e = ⊎_elim
      (λ t. let z = join_ends p q e.0 e.1 (same_turn (Join p q) (Join e.0 e.1) (answers.Edited (Ok tt)) (answers.Edited (Ok tt)) (slice_get R.turns i) turn t).0 in
      both_ways (same_pair p q a b) off (ends_of p q e.0 e.1 z.0 z.1 e.2))
      (λ t. join_unjoin p q e.0 e.1 (same_turn (Join p q) (Unjoin e.0 e.1) (answers.Edited (Ok tt)) (answers.Edited (Ok tt)) (slice_get R.turns i) turn t).0)
      e.3

  other_unjoin : (p q : ℕ) → TurnAt R i (Unjoin p q) (answers.Edited (Ok tt)) → same_pair p q a b ≡ false → EditedAt R i a b → ⊥
  other_unjoin p q turn off e = ⊎_elim
      (λ t. join_unjoin e.0 e.1 p q (same_turn (Join e.0 e.1) (Unjoin p q) (answers.Edited (Ok tt)) (answers.Edited (Ok tt)) (slice_get R.turns i) t turn).0)
      (λ t. let z = unjoin_ends p q e.0 e.1 (same_turn (Unjoin p q) (Unjoin e.0 e.1) (answers.Edited (Ok tt)) (answers.Edited (Ok tt)) (slice_get R.turns i) turn t).0 in
      both_ways (same_pair p q a b) off (ends_of p q e.0 e.1 z.0 z.1 e.2))
      e.3

  -- ---- one turn on

  stays : (EditedAt R i a b → ⊥) → Last i ↔ Last (i + 1)
  stays off = (
    (λ h. let l : h.turn < i = h.before in record {
      turn = h.turn;
      before = omega arith;
      p = h.p;
      q = h.q;
      of_pair = h.of_pair;
      joins = h.joins;
      none_later = λ k m n e. ⊎_elim (λ (z : k ≡ i). off (subst (λ x. EditedAt R x a b) z e)) (λ (z : k ≡ i → ⊥). h.none_later k m (omega arith) e) (cases_eq k i);
    }),
    (λ h. let l : h.turn < i + 1 = h.before in ⊎_elim
        (λ (z : h.turn ≡ i). absurd (off (subst (λ x. EditedAt R x a b) z (h.p, h.q, h.of_pair, inl h.joins))))
        (λ (z : h.turn ≡ i → ⊥). record {
          turn = h.turn;
          before = omega arith;
          p = h.p;
          q = h.q;
          of_pair = h.of_pair;
          joins = h.joins;
          none_later = λ k m n e. h.none_later k m (omega arith) e;
        })
        (cases_eq h.turn i)),
  )

  joined_now : (p q : ℕ) → TurnAt R i (Join p q) (answers.Edited (Ok tt)) → same_pair p q a b ≡ true → Last (i + 1)
  joined_now p q turn on = record { turn = i; before = omega arith; p = p; q = q; of_pair = on; joins = turn; none_later = λ k m n e. absurd (omega arith) }

  parted_now : (p q : ℕ) → TurnAt R i (Unjoin p q) (answers.Edited (Ok tt)) → same_pair p q a b ≡ true → Last (i + 1) → ⊥
  parted_now p q turn on h = let l : h.turn < i + 1 = h.before in ⊎_elim
      (λ (z : h.turn ≡ i). join_unjoin h.p h.q p q (same_turn (Join h.p h.q) (Unjoin p q) (answers.Edited (Ok tt)) (answers.Edited (Ok tt)) (slice_get R.turns i)
      (subst (λ x. TurnAt R x (Join h.p h.q) (answers.Edited (Ok tt))) z h.joins) turn).0)
      (λ (z : h.turn ≡ i → ⊥). h.none_later i (omega arith) (omega arith) (p, q, on, inr turn))
      (cases_eq h.turn i)

  abbrev Tells : Graph → ℕ → Type 0
  Tells m k = (joined m a b ≡ true) ↔ Last k

  unchanged : (m : Graph) → (EditedAt R i a b → ⊥) → Tells m i → Tells m (i + 1)
  unchanged m off h = ((λ e. (stays off).0 (h.0 e)), (λ k. h.1 ((stays off).1 k)))

  join_tells : (m : Graph) (p q : ℕ) (r : Result Unit StoreFault) → TurnAt R i (Join p q) (answers.Edited r) → Tells m i → Tells (after r (joining m p q) m) (i + 1)
  join_tells m p q (Ok tt) turn h = ⊎_elim
      (λ (on : same_pair p q a b ≡ true). ((λ e. joined_now p q turn on), (λ k. or_left (same_pair p q a b) (joined m a b) on)))
      (λ (off : same_pair p q a b ≡ false).
      let same = stays (other_join p q turn off) in (
        (λ e. same.0 (h.0 (⊎_elim (λ x. absurd (both_ways (same_pair p q a b) off x)) (λ x. x) (or_cases (same_pair p q a b) (joined m a b) e)))),
        (λ k. or_right (same_pair p q a b) (joined m a b) (h.1 (same.1 k))),
      ))
      (cases_Bool (same_pair p q a b))
  join_tells m p q (Err f) turn h = unchanged m (not_accepted (Join p q) f turn) h

  not_of : (x y : Bool) → x ≡ true → (not x && y) ≡ true → ⊥
  not_of true y e h = both_ways false refl h
  not_of false y e h = both_ways false refl e

  kept : (x y : Bool) → x ≡ false → y ≡ true → (not x && y) ≡ true
  kept x y e f = rw (e, f) refl

  unjoin_tells : (m : Graph) (p q : ℕ) (r : Result Unit StoreFault) → TurnAt R i (Unjoin p q) (answers.Edited r) → Tells m i → Tells (after r (unjoining m p q) m) (i + 1)
  unjoin_tells m p q (Ok tt) turn h = ⊎_elim
      (λ (on : same_pair p q a b ≡ true). ((λ e. absurd (not_of (same_pair p q a b) (joined m a b) on e)), (λ k. absurd (parted_now p q turn on k))))
      (λ (off : same_pair p q a b ≡ false).
      let same = stays (other_unjoin p q turn off) in (
        (λ e. same.0 (h.0 (and_parts (not (same_pair p q a b)) (joined m a b) e).1)),
        (λ k. kept (same_pair p q a b) (joined m a b) off (h.1 (same.1 k))),
      ))
      (cases_Bool (same_pair p q a b))
  unjoin_tells m p q (Err f) turn h = unchanged m (not_accepted (Unjoin p q) f turn) h

-- the edits answer what the graph before them says
abbrev pub Answered : ℕ → Graph → Call → Answer → Type 0
Answered capacity m (Join p q) x = x ≡ answers.Edited (join_answer m capacity p q)
Answered capacity m (Unjoin p q) x = x ≡ answers.Edited (unjoin_answer m p q)
Answered capacity m (Build k) x = Unit {0}
Answered capacity m (Drive j k) x = Unit {0}
Answered capacity m (Fill j f k) x = Unit {0}
Answered capacity m Tables x = Unit {0}
Answered capacity m (Joined p q) x = Unit {0}
Answered capacity m (NextNeighbour p q) x = Unit {0}
Answered capacity m Capacity x = Unit {0}

pub tells_on : (R : Run) (i a b : ℕ) (capacity : ℕ) (m : Graph) (c : Call) (x : Answer) → TurnAt R i c x → Answered capacity m c x
    → (joined m a b ≡ true) ↔ JoinedLast R i a b → (joined (ledger_step capacity m c) a b ≡ true) ↔ JoinedLast R (i + 1) a b
tells_on R i a b capacity m (Join p q) x turn is h = join_tells R i a b m p q (join_answer m capacity p q) (subst (TurnAt R i (Join p q)) is turn) h
tells_on R i a b capacity m (Unjoin p q) x turn is h = unjoin_tells R i a b m p q (unjoin_answer m p q) (subst (TurnAt R i (Unjoin p q)) is turn) h
tells_on R i a b capacity m (Build k) x turn is h = unchanged R i a b m (not_edited R i a b (Build k) x turn ((λ p q e. cc), (λ p q e. cc))) h
tells_on R i a b capacity m (Drive j k) x turn is h = unchanged R i a b m (not_edited R i a b (Drive j k) x turn ((λ p q e. cc), (λ p q e. cc))) h
tells_on R i a b capacity m (Fill j f k) x turn is h = unchanged R i a b m (not_edited R i a b (Fill j f k) x turn ((λ p q e. cc), (λ p q e. cc))) h
tells_on R i a b capacity m Tables x turn is h = unchanged R i a b m (not_edited R i a b Tables x turn ((λ p q e. cc), (λ p q e. cc))) h
tells_on R i a b capacity m (Joined v w) x turn is h = unchanged R i a b m (not_edited R i a b (Joined v w) x turn ((λ p q e. cc), (λ p q e. cc))) h
tells_on R i a b capacity m (NextNeighbour v w) x turn is h = unchanged R i a b m (not_edited R i a b (NextNeighbour v w) x turn ((λ p q e. cc), (λ p q e. cc))) h
tells_on R i a b capacity m Capacity x turn is h = unchanged R i a b m (not_edited R i a b Capacity x turn ((λ p q e. cc), (λ p q e. cc))) h

pub tells_first : (R : Run) (a b : ℕ) → (false ≡ true) ↔ JoinedLast R 0 a b
tells_first R a b = ((λ e. absurd (both_ways false refl e)), (λ h. let l : h.turn < 0 = h.before in absurd (omega arith)))
