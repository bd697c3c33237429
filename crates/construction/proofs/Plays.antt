-- A replay's loop, over plain values: what is left of the list gives the whole.
use Rattle.std.proofs.Common.{◌≡◌, ℕ, ◌+◌, ◌<◌, ◌≤◌, Bool, List, length, get_or, drop, Ok, Err, Result, sym, ap, ◌∙◌, subst}
use Rattle.std.proofs.lemmas.List.{at_drop_more, at_drop_all}
use Rattle.theory.specs.Graph.{Graph, Simple}
use Rattle.theory.specs.declared.step.Step.{Step}
use Rattle.theory.specs.declared.step.Triangle.{Triangle}
use Rattle.construction.specs.Replay.{Building, Played, start_answer, started, step_answer, step_after, close_answer, onward, steps_from, replayed}
use Rattle.construction.specs.Inner.{building, left, corners}
use Rattle.refusals.specs.declared.fault.ReplayFault.{ReplayFault}
use Rattle.construction.proofs.Inner.{startable, same_building}
use Rattle.construction.proofs.Going.{Going, started_going, answer_fits, step_going}

-- ---- the start

module _ (c : ℕ) (m : Graph) (t : Triangle) (l : List Step) where
  pub begun : start_answer m c t ≡ Ok tt → replayed c m t l ≡ steps_from c 1 (started m t) l
  unfolding replayed
  begun ok = ap (λ r. onward r m (steps_from c 1 (started m t) l)) ok

  pub not_begun : (f : ReplayFault) → start_answer m c t ≡ Err f → replayed c m t l ≡ record { told = Err f; graph = m }
  unfolding replayed
  not_begun f e = ap (λ r. onward r m (steps_from c 1 (started m t) l)) e

  -- at the exit of the start
  pub start_off : (m₁ : Graph) (r : Result Unit ReplayFault) (a y : ReplayFault) (final : Result Unit ReplayFault)
      → r ≡ start_answer m c t → m₁ ≡ left r (started m t).graph m → r ≡ Err a → final ≡ Err y → y ≡ a
      → (final ≡ (replayed c m t l).told) × (m₁ ≡ (replayed c m t l).graph)
  start_off m₁ r a y final is meant broke gave by =
      let e = not_begun a (sym is ∙ broke) in (
        gave ∙ ap (λ z. Err z) by ∙ sym (ap (λ (p : Played). p.told) e),
        meant ∙ ap (λ z. left z (started m t).graph m) broke ∙ sym (ap (λ (p : Played). p.graph) e),
      )

  -- and after it: it leaves m₁ and c₁, and U₁ are the tables in use
  module _ (m₁ : Graph) (U₁ : ℕ → Bool) (r : Result Unit ReplayFault) (is : r ≡ start_answer m c t) (meant : m₁ ≡ left r (started m t).graph m)
      (ok : r ≡ Ok tt) (seats : (x : ℕ) → U₁ x ≡ corners t x) where
    is_started : building m₁ U₁ ≡ started m t
    is_started = same_building m₁ (started m t).graph U₁ (corners t) (meant ∙ ap (λ z. left z (started m t).graph m) ok) seats

    pub entered : (c₁ : ℕ) → c₁ ≡ c → replayed c m t l ≡ steps_from c₁ 1 (building m₁ U₁) l
    entered c₁ same = begun (sym is ∙ ok) ∙ sym (ap (λ n. steps_from n 1 (building m₁ U₁) l) same ∙ ap (λ x. steps_from c 1 x l) is_started)

    pub entered_going : Simple m → Going (building m₁ U₁)
    entered_going s = subst (λ x. Going x) (sym is_started) (started_going m c t s (startable m c t s (sym is ∙ ok)))

-- ---- one step

module _ (c k : ℕ) (b : Building) (l : List Step) (i : ℕ) (d : Step) (within : i < length l) where
  next : steps_from c k b (drop i l) ≡ onward (step_answer c k b (get_or l i d)) b.graph (steps_from c (k + 1) (step_after b (get_or l i d)) (drop (i + 1) l))
  unfolding steps_from
  next = at_drop_more (steps_from c k b) l i d within

  goes_on : step_answer c k b (get_or l i d) ≡ Ok tt → steps_from c k b (drop i l) ≡ steps_from c (k + 1) (step_after b (get_or l i d)) (drop (i + 1) l)
  goes_on ok = next ∙ ap (λ r. onward r b.graph (steps_from c (k + 1) (step_after b (get_or l i d)) (drop (i + 1) l))) ok

  stops : (f : ReplayFault) → step_answer c k b (get_or l i d) ≡ Err f → steps_from c k b (drop i l) ≡ record { told = Err f; graph = b.graph }
  stops f e = next ∙ ap (λ r. onward r b.graph (steps_from c (k + 1) (step_after b (get_or l i d)) (drop (i + 1) l))) e

pub ends : (c k : ℕ) (b : Building) (l : List Step) (i : ℕ) → length l ≤ i → steps_from c k b (drop i l) ≡ record { told = close_answer b; graph = b.graph }
unfolding steps_from
ends c k b l i h = at_drop_all (steps_from c k b) l i h

-- r and b' are what the step answers and leaves
module _ (whole : Played) (c c' : ℕ) (b b' : Building) (l : List Step) (i : ℕ) (d : Step) (r : Result Unit ReplayFault)
    (within : i < length l) (same : c' ≡ c) (inv : whole ≡ steps_from c (i + 1) b (drop i l))
    (answered : r ≡ step_answer c' (i + 1) b (get_or l i d)) (meant : b' ≡ left r (step_after b (get_or l i d)) b) where
  told_by : step_answer c (i + 1) b (get_or l i d) ≡ r
  told_by = sym (answered ∙ ap (λ n. step_answer n (i + 1) b (get_or l i d)) same)

  pub step_on : r ≡ Ok tt → whole ≡ steps_from c (i + 1 + 1) b' (drop (i + 1) l)
  step_on ok =
      inv ∙ goes_on c (i + 1) b l i d within (told_by ∙ ok)
      ∙ sym (ap (λ x. steps_from c (i + 1 + 1) x (drop (i + 1) l)) (meant ∙ ap (λ z. left z (step_after b (get_or l i d)) b) ok))

  pub still_going : Going b → r ≡ Ok tt → Going b'
  still_going h ok =
      subst (λ x. Going x) (sym (meant ∙ ap (λ z. left z (step_after b (get_or l i d)) b) ok)) (step_going b (get_or l i d) h (answer_fits c (i + 1) b (get_or l i d) (told_by ∙ ok)).0)

  pub step_off : (a y : ReplayFault) (final : Result Unit ReplayFault) → r ≡ Err a → final ≡ Err y → y ≡ a → (final ≡ whole.told) × (b'.graph ≡ whole.graph)
  step_off a y final broke gave by =
      let e : whole ≡ record { told = Err a; graph = b.graph } = inv ∙ stops c (i + 1) b l i d within a (told_by ∙ broke) in (
        gave ∙ ap (λ z. Err z) by ∙ sym (ap (λ (p : Played). p.told) e),
        ap (λ (x : Building). x.graph) (meant ∙ ap (λ z. left z (step_after b (get_or l i d)) b) broke) ∙ sym (ap (λ (p : Played). p.graph) e),
      )
