-- The loop over the marks, over plain values: what is left of the marks gives the whole.
--
--   goes_on, adds_on   after a mark that is accepted
--   stops              at a mark that is refused
--   ends, adds_none    after the last mark
use Rattle.std.proofs.Common.{◌≡◌, ℕ, ◌+◌, ◌<◌, ◌≤◌, List, length, get_or, drop, Ok, Err, Result, sym, refl, ap, ◌∙◌}
use Rattle.std.proofs.lemmas.List.{at_drop_more, at_drop_all}
use Rattle.theory.specs.Graph.{Graph, joining}
use Rattle.theory.specs.declared.mark.Mark.{Mark}
use Rattle.graph.specs.Fault.{marked as placed}
use Rattle.graph.specs.declared.fault.At.{At}
use Rattle.trees.specs.Tree.{mark_answer, refused_at, marks_judged}
use Rattle.trees.specs.Forest.{with_marks}
use Rattle.trees.specs.declared.fault.MarkFault.{MarkFault}
use Rattle.trees.specs.declared.fault.TreeFault.{TreeFault}
use Rattle.trees.specs.declared.fault.TreeFault.TheVariants as filling
use Rattle.trees.proofs.Gathers.{with_more}

-- ---- an answer with its place

placed_ok : (i : ℕ) (r : Result Unit MarkFault) → placed i r ≡ Ok tt → r ≡ Ok tt
placed_ok i (Ok u) e = refl
placed_ok i (Err f) e = absurd (let z : Err (record { place = i; fault = f }) ≡ Ok tt = e in cc)

placed_err : (i : ℕ) (r : Result Unit MarkFault) (a : At MarkFault) → placed i r ≡ Err a → (r ≡ Err a.fault) × (i ≡ a.place)
placed_err i (Ok u) a e = absurd (let z : Ok tt ≡ Err a = e in cc)
placed_err i (Err f) a e =
    let whole : At MarkFault = record { place = i; fault = f } in
    let z : Err whole ≡ Err a = e in
    let same : whole ≡ a = cc in
    (ap (λ (b : At MarkFault). Err b.fault) same, ap (λ (b : At MarkFault). b.place) same)

-- ---- one turn

module _ (m t : Graph) (l : List Mark) (i : ℕ) (d : Mark) (within : i < length l) where
  abbrev mark : Mark
  mark = get_or l i d

  abbrev rest : Result Unit TreeFault
  rest = marks_judged m (joining t (get_or l i d).v (get_or l i d).w) (i + 1) (drop (i + 1) l)

  next : marks_judged m t i (drop i l) ≡ refused_at i (mark_answer m t (get_or l i d)) rest
  unfolding marks_judged
  next = at_drop_more (marks_judged m t i) l i d within

  module _ (whole : Result Unit TreeFault) (inv : whole ≡ marks_judged m t i (drop i l))
      (r : Result Unit MarkFault) (judged : r ≡ mark_answer m t (get_or l i d)) (q : Result Unit (At MarkFault)) (at : q ≡ placed i r) where
    pub goes_on : q ≡ Ok tt → (u : Graph) → u ≡ joining t (get_or l i d).v (get_or l i d).w → whole ≡ marks_judged m u (i + 1) (drop (i + 1) l)
    goes_on ok u made =
        inv ∙ next ∙ ap (λ z. refused_at i z rest) (sym judged ∙ placed_ok i r (sym at ∙ ok))
        ∙ sym (ap (λ z. marks_judged m z (i + 1) (drop (i + 1) l)) made)

    pub stops : (a : At MarkFault) (y : TreeFault) (final : Result Unit TreeFault) → q ≡ Err a → final ≡ Err y → y ≡ filling.Mark a.place a.fault → final ≡ whole
    stops a y final broke gave by =
        let p = placed_err i r a (sym at ∙ broke) in
        gave ∙ ap (λ z. Err z) (by ∙ ap (λ j. filling.Mark j a.fault) (sym p.1))
        ∙ sym (inv ∙ next ∙ ap (λ z. refused_at i z rest) (sym judged ∙ p.0))

  pub adds_on : (whole u : Graph) → whole ≡ with_marks t (drop i l) → u ≡ joining t (get_or l i d).v (get_or l i d).w → whole ≡ with_marks u (drop (i + 1) l)
  adds_on whole u inv made =
      inv ∙ at_drop_more (with_marks t) l i d within ∙ with_more t (get_or l i d) (drop (i + 1) l)
      ∙ sym (ap (λ z. with_marks z (drop (i + 1) l)) made)

-- ---- the end

pub ends : (m t : Graph) (l : List Mark) (i : ℕ) → length l ≤ i → marks_judged m t i (drop i l) ≡ Ok tt
unfolding marks_judged
ends m t l i h = at_drop_all (marks_judged m t i) l i h

pub adds_none : (t : Graph) (l : List Mark) (i : ℕ) → length l ≤ i → with_marks t (drop i l) ≡ t
adds_none t l i h = at_drop_all (with_marks t) l i h
