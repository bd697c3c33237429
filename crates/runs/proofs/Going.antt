-- A run's loop, over plain values: what is left of the calls gives the whole.
--
--   Going      after i turns of l0, which are now l, the run has come to s
--   begins, goes_on, ends
use Rattle.std.proofs.Common.{◌≡◌, ℕ, ◌+◌, ◌<◌, ◌≤◌, List, [], ◌∷◌, ◌++◌, length, get_or, set, take, drop, None, sym, refl, ap, ◌∙◌, subst, append_assoc, arith}
use Rattle.std.proofs.lemmas.List.{at_drop_more, at_drop_all, append-nil, take_all, take_more_set, drop-set-lt, length-set}
use Rattle.theory.specs.declared.mark.Mark.{Mark}
use Rattle.ledger.specs.declared.call.Answer.{Answer}
use Rattle.ledger.specs.declared.call.Call.TheVariants.{Join}
use Rattle.ledger.specs.declared.call.Turn.{Turn}
use Rattle.runs.specs.Turns.{answered_by, answered_at}
use Rattle.ledger.specs.Run.{State, answer_to, state_after, turn_by, state_by, turns_by}

pub record Going (capacity : ℕ) (marks : List Mark) (first : State) (all : List Turn) (i : ℕ) (s : State) (l : List Turn) : Type 0 where
  pub state : state_by capacity marks first all ≡ state_by capacity marks s (drop i l)
  pub turns : turns_by capacity marks first all ≡ take i l ++ turns_by capacity marks s (drop i l)
  pub as_many : length l ≡ length all

abbrev pub blank : Turn
blank = record { call = Join 0 0; answer = None }

module _ (capacity : ℕ) (marks : List Mark) (first : State) (all : List Turn) where
  pub begins : Going capacity marks first all 0 first all
  begins = record { state = refl; turns = refl; as_many = refl }

  module _ (i : ℕ) (s : State) (l : List Turn) (going : Going capacity marks first all i s l) where
    one_state : (d : Turn) → i < length l → state_by capacity marks s (drop i l) ≡ state_by capacity marks (state_after capacity marks s (get_or l i d).call) (drop (i + 1) l)
    unfolding state_by
    one_state d inside = at_drop_more (state_by capacity marks s) l i d inside

    one_turn : (d : Turn) → i < length l
        → turns_by capacity marks s (drop i l) ≡ turn_by capacity marks s (get_or l i d) ∷ turns_by capacity marks (state_after capacity marks s (get_or l i d).call) (drop (i + 1) l)
    unfolding turns_by
    one_turn d inside = at_drop_more (turns_by capacity marks s) l i d inside

    pub goes_on : (d x : Turn) (z : State) → i < length l → z ≡ state_after capacity marks s (get_or l i d).call → x ≡ turn_by capacity marks s (get_or l i d)
        → Going capacity marks first all (i + 1) z (set l i x)
    goes_on d x z inside left answered =
        let same : drop (i + 1) (set l i x) ≡ drop (i + 1) l = drop-set-lt (i + 1) l i x (omega arith) in
        record {
          state = going.state ∙ one_state d inside ∙ ap (λ w. state_by capacity marks w (drop (i + 1) l)) (sym left) ∙ ap (state_by capacity marks z) (sym same);
          turns = going.turns ∙ ap (λ w. take i l ++ w) (one_turn d inside)
              ∙ ap (λ w. take i l ++ (w ∷ turns_by capacity marks (state_after capacity marks s (get_or l i d).call) (drop (i + 1) l))) (sym answered)
              ∙ sym (append_assoc (take i l) (x ∷ []) (turns_by capacity marks (state_after capacity marks s (get_or l i d).call) (drop (i + 1) l)))
              ∙ ap (λ w. w ++ turns_by capacity marks (state_after capacity marks s (get_or l i d).call) (drop (i + 1) l)) (sym (take_more_set l i x inside))
              ∙ ap (λ w. take (i + 1) (set l i x) ++ turns_by capacity marks w (drop (i + 1) l)) (sym left)
              ∙ ap (λ w. take (i + 1) (set l i x) ++ turns_by capacity marks z w) (sym same);
          as_many = length-set l i x ∙ going.as_many;
        }

    -- the call is performed by a graph of the same capacity, with the same marks; k are the turns before the answer is put beside it
    pub performed : (n : ℕ) (taken : List Mark) (z : State) (k w : List Turn) (r : Answer) → i < length l → n ≡ capacity → taken ≡ marks → k ≡ l
        → z ≡ state_after n taken s (get_or l i blank).call → r ≡ answer_to n taken s (get_or l i blank).call → w ≡ answered_at k i r
        → Going capacity marks first all (i + 1) z w
    performed n taken z k w r inside same taken_are turns left told put =
        let call = (get_or l i blank).call in
        let told_so : r ≡ answer_to capacity marks s call = told ∙ ap (λ c. answer_to c taken s call) same ∙ ap (λ x. answer_to capacity x s call) taken_are in
        let left_so : z ≡ state_after capacity marks s call = left ∙ ap (λ c. state_after c taken s call) same ∙ ap (λ x. state_after capacity x s call) taken_are in
        subst (λ (x : List Turn). Going capacity marks first all (i + 1) z x) (sym (put ∙ ap (λ x. answered_at x i r) turns))
        (goes_on blank (answered_by call r) z inside left_so (ap (answered_by call) told_so))

    pub ends : length l ≤ i → (s ≡ state_by capacity marks first all) × (l ≡ turns_by capacity marks first all)
    unfolding state_by turns_by
    ends h = (
      sym (going.state ∙ at_drop_all (state_by capacity marks s) l i h),
      sym (going.turns ∙ ap (λ w. take i l ++ w) (at_drop_all (turns_by capacity marks s) l i h) ∙ append-nil (take i l) ∙ take_all i l h),
    )
