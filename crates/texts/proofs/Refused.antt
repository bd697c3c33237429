-- A list that is refused has the fault that is told, and nothing is amiss before it.
--
--   apart          two letters of two layouts are not the same
--   line_told      a T line or a step line: it stands there with a letter due, or what is told of it is so
--   head_told      the H line, likewise
--   refused_text   the whole list
--   follows_end    what stands where nothing may follow
use Rattle.std.proofs.Common.{◌≡◌, ℕ, zero, suc, ◌+◌, ◌*◌, ◌<◌, ◌≤◌, Bool, true, false, cond, eqb, ltb, ◌⊎◌, List, length, set, Some, Ok, Err, Result, sym, refl, ap, subst, inl, inr, arith, below_more}
use Rattle.std.proofs.lemmas.Bool.{eqb-true, eqb-false, ltb-true, ltb-false}
use Rattle.lines.specs.Form.{LineRead, Longest}
use Rattle.lines.specs.Read.{line_at}
use Rattle.lines.specs.Text.{layout, layout_of}
use Rattle.lines.specs.declared.line.Layout.{Layout}
use Rattle.lines.specs.declared.line.Layout.TheVariants as layouts
use Rattle.lines.specs.declared.line.Fields.{Fields}
use Rattle.lines.specs.declared.line.Fields.TheVariants.{Three, LastTwo, FirstTwo, Counted, Single}
use Rattle.lines.specs.declared.line.BadByte.{BadByte}
use Rattle.lines.specs.declared.line.Line.{Line}
use Rattle.lines.proofs.Lines.{line_read}
use Rattle.theory.specs.declared.step.Step.{Step}
use Rattle.theory.specs.declared.step.Step.TheVariants.{Edge, Node}
use Rattle.theory.specs.declared.step.Triangle.{Triangle}
use Rattle.texts.specs.Fault.{next, in_form}
use Rattle.texts.specs.ListLaw.{Here, Due, DueLine, Headed, Stood, RefusedFor, RefusedText, Follows}
use Rattle.texts.specs.ListRead.{outside_limits, head_of, head_at, triangle_of, triangle_at, step_of, step_at, StepsTold, onward, steps_read, list_after, list_with, list_headed, list_read, end_of, end_at}
use Rattle.texts.specs.declared.fault.TextFault.{TextFault}
use Rattle.texts.specs.declared.fault.TextFault.TheVariants.{BadForm, Misplaced, OutOfLimits, TooFew}
use Rattle.texts.specs.declared.list.Head.{Head}

pub apart : (c d : ℕ) (x y : Layout) → layout c ≡ Some x → layout d ≡ Some y → (x ≡ y → ⊥) → c ≡ d → ⊥
apart c d x y p q never e = let s = ap layout e in never (cc)

-- a judgement of the letter c on the i-th line, at p
abbrev Judged : {X : Type 0} → ℕ → ℕ → ℕ → Result X TextFault → Type 0
Judged i p c (Ok x) = Due i c
Judged i p c (Err e) = (e ≡ Misplaced p) × (Due i c → ⊥)

when_judged : {X : Type 0} (i p c : ℕ) (b : Bool) (x : X) → (b ≡ true → Due i c) → (b ≡ false → Due i c → ⊥) → Judged i p c (cond b (Ok x) (Err (Misplaced p)))
when_judged i p c true x taken never = taken refl
when_judged i p c false x taken never = (refl, never refl)

triangle_judged : (p c : ℕ) (f : Fields) → layout c ≡ Some (layout_of f) → Judged 1 p c (triangle_of p c f)
triangle_judged p c (Three u v w) q = when_judged 1 p c (eqb c 84) _ (λ e. eqb-true c 84 e) (λ e d. eqb-false c 84 e d)
triangle_judged p c (LastTwo v w) q = (refl, apart c 84 _ layouts.Three q refl (λ s. let z : ◌≡◌ {A = ℕ} 0 1 = cc in omega arith))
triangle_judged p c (FirstTwo a b) q = (refl, apart c 84 _ layouts.Three q refl (λ s. let z : ◌≡◌ {A = ℕ} 0 1 = cc in omega arith))
triangle_judged p c (Counted t n) q = (refl, apart c 84 _ layouts.Three q refl (λ s. let z : ◌≡◌ {A = ℕ} 0 1 = cc in omega arith))
triangle_judged p c (Single o) q = (refl, apart c 84 _ layouts.Three q refl (λ s. let z : ◌≡◌ {A = ℕ} 0 1 = cc in omega arith))

-- neither an N nor an E line
no_step : (c : ℕ) (x : Layout) → layout c ≡ Some x → (x ≡ layouts.Three → ⊥) → (x ≡ layouts.LastTwo → ⊥) → ((c ≡ 78) ⊎ (c ≡ 69)) → ⊥
no_step c x q never₁ never₂ (inl e) = apart c 78 x layouts.Three q refl never₁ e
no_step c x q never₁ never₂ (inr e) = apart c 69 x layouts.LastTwo q refl never₂ e

either_not : {A B : Type 0} → (A → ⊥) → (B → ⊥) → (A ⊎ B) → ⊥
either_not f g (inl a) = f a
either_not f g (inr b) = g b

step_judged : (j p c : ℕ) (f : Fields) → layout c ≡ Some (layout_of f) → Judged (suc (suc j)) p c (step_of p c f)
step_judged j p c (Three u v w) q =
    when_judged (suc (suc j)) p c (eqb c 78) (Node u v w) (λ e. inl (eqb-true c 78 e))
    (λ e. either_not (λ d. eqb-false c 78 e d) (apart c 69 _ layouts.LastTwo q refl (λ s. let z : ◌≡◌ {A = ℕ} 0 1 = cc in omega arith)))
step_judged j p c (LastTwo v w) q =
    when_judged (suc (suc j)) p c (eqb c 69) (Edge v w) (λ e. inr (eqb-true c 69 e))
    (λ e. either_not (apart c 78 _ layouts.Three q refl (λ s. let z : ◌≡◌ {A = ℕ} 0 1 = cc in omega arith)) (λ d. eqb-false c 69 e d))
step_judged j p c (FirstTwo a b) q = (refl, no_step c _ q (λ s. let z : ◌≡◌ {A = ℕ} 0 1 = cc in omega arith) (λ s. let z : ◌≡◌ {A = ℕ} 0 1 = cc in omega arith))
step_judged j p c (Counted t n) q = (refl, no_step c _ q (λ s. let z : ◌≡◌ {A = ℕ} 0 1 = cc in omega arith) (λ s. let z : ◌≡◌ {A = ℕ} 0 1 = cc in omega arith))
step_judged j p c (Single o) q = (refl, no_step c _ q (λ s. let z : ◌≡◌ {A = ℕ} 0 1 = cc in omega arith) (λ s. let z : ◌≡◌ {A = ℕ} 0 1 = cc in omega arith))

module _ (text : List ℕ) (at room : ℕ) where
  -- what is told of the i-th line
  abbrev LineTold : {X : Type 0} → ℕ → Result X TextFault → Type 0
  LineTold i (Ok x) = DueLine text at i
  LineTold i (Err e) = RefusedFor text at room e

  module _ (i : ℕ) (stood : Stood text at room i) where
    form_off : (q : ℕ) → Longest text (at + 17 * i) q → RefusedFor text at room (BadForm q)
    form_off q n = record { line = i; stood = stood; breaks = n }

    letter_off : (l : Line) → Here text (at + 17 * i) l → (Due i l.letter → ⊥) → RefusedFor text at room (Misplaced (at + 17 * i))
    letter_off l here never = record { line = i; stood = stood; is_place = refl; found = l; here = here; not_due = never }

    judged_told : {X : Type 0} (l : Line) (r : Result X TextFault) → Here text (at + 17 * i) l → Judged i (at + 17 * i) l.letter r → LineTold i r
    judged_told l (Ok x) here j = record { line = l; here = here; due = j }
    judged_told l (Err e) here j = subst (RefusedFor text at room) (sym j.0) (letter_off l here j.1)

    line_told : {X : Type 0} (judge : ℕ → Fields → Result X TextFault) → ((c : ℕ) (f : Fields) → layout c ≡ Some (layout_of f) → Judged i (at + 17 * i) c (judge c f))
        → (r : Result Line BadByte) → LineRead text (at + 17 * i) r → LineTold i (next (in_form r) (λ l. judge l.letter l.fields))
    line_told judge so (Ok l) p = judged_told l (judge l.letter l.fields) (record { written = p.0; agrees = p.1 }) (so l.letter l.fields p.0.listed)
    line_told judge so (Err bad) p = form_off bad.place p

  -- before any line
  stood_none : Stood text at room 0
  stood_none = record { lines = λ j h. absurd (omega arith); head = λ h. absurd (omega arith) }

  first : at + 17 * 0 ≡ at
  first = omega arith

  abbrev HeadTold : Result Head TextFault → Type 0
  HeadTold (Ok h) = (m : ℕ) × Headed text at h.tables m h.steps × (outside_limits h.tables m h.steps ≡ false) × (h.steps ≤ room)
  HeadTold (Err e) = RefusedFor text at room e

  head_misplaced : (l : Line) → Here text at l → (l.letter ≡ 72 → ⊥) → RefusedFor text at room (Misplaced at)
  head_misplaced l here never = record { line = 0; stood = stood_none; is_place = sym first; found = l; here = here; not_due = never }

  -- by the letter, by the limits, and by the room
  head_by : (c n m k : ℕ) → Here text at (record { letter = c; fields = Three n m k })
      → (b : Bool) → eqb c 72 ≡ b → (o : Bool) → outside_limits n m k ≡ o → (w : Bool) → ltb room k ≡ w
      → HeadTold (cond b (cond o (Err (OutOfLimits at)) (cond w (Err (TooFew k)) (Ok (record { tables = n; steps = k })))) (Err (Misplaced at)))
  head_by c n m k here false e o f w g = head_misplaced _ here (λ d. eqb-false c 72 e d)
  head_by c n m k here true e o f w g =
      by_limits (subst (λ d. Here text at (record { letter = d; fields = Three n m k })) (eqb-true c 72 e) here) o f w g
    where
      by_limits : Headed text at n m k → (o : Bool) → outside_limits n m k ≡ o → (w : Bool) → ltb room k ≡ w
          → HeadTold (cond o (Err (OutOfLimits at)) (cond w (Err (TooFew k)) (Ok (record { tables = n; steps = k }))))
      by_limits headed true f w g = record { is_place = refl; tables = n; joins = m; steps = k; here = headed; outside = f }
      by_limits headed false f true g = record { tables = n; joins = m; here = headed; inside = f; less = ltb-true room k g }
      by_limits headed false f false g = (m, headed, f, ltb-false room k g)

  head_judged : (c : ℕ) (f : Fields) → Here text at (record { letter = c; fields = f }) → HeadTold (head_of at room c f)
  head_judged c (Three n m k) here = head_by c n m k here (eqb c 72) refl (outside_limits n m k) refl (ltb room k) refl
  head_judged c (LastTwo v w) here = head_misplaced _ here (apart c 72 _ layouts.Three here.written.listed refl (λ s. let z : ◌≡◌ {A = ℕ} 0 1 = cc in omega arith))
  head_judged c (FirstTwo a b) here = head_misplaced _ here (apart c 72 _ layouts.Three here.written.listed refl (λ s. let z : ◌≡◌ {A = ℕ} 0 1 = cc in omega arith))
  head_judged c (Counted t z) here = head_misplaced _ here (apart c 72 _ layouts.Three here.written.listed refl (λ s. let z : ◌≡◌ {A = ℕ} 0 1 = cc in omega arith))
  head_judged c (Single o) here = head_misplaced _ here (apart c 72 _ layouts.Three here.written.listed refl (λ s. let z : ◌≡◌ {A = ℕ} 0 1 = cc in omega arith))

  head_told : (r : Result Line BadByte) → LineRead text at r → HeadTold (next (in_form r) (λ l. head_of at room l.letter l.fields))
  head_told (Ok l) p = head_judged l.letter l.fields (record { written = p.0; agrees = p.1 })
  head_told (Err bad) p = form_off 0 stood_none bad.place (subst (λ a. Longest text a bad.place) (sym first) p)

  -- after an H line that is accepted
  module _ (n m k : ℕ) (here : Headed text at n m k) (inside : outside_limits n m k ≡ false) (enough : k ≤ room) where
    stood_at : (i : ℕ) → i < k + 2 → ((j : ℕ) → j < i → DueLine text at j) → Stood text at room i
    stood_at i h lines = record { lines = lines; head = λ _. record { tables = n; joins = m; steps = k; here = here; inside = inside; enough = enough; one_of = h } }

    head_line : DueLine text at 0
    head_line = record { line = record { letter = 72; fields = Three n m k }; here = subst (λ a. Headed text a n m k) (sym first) here; due = refl }

    one_more : (i : ℕ) → ((j : ℕ) → j < i → DueLine text at j) → DueLine text at i → (j : ℕ) → j < suc i → DueLine text at j
    one_more i lines d j h = below_more (DueLine text at) i lines d j (omega arith)

    line_one : (j : ℕ) → j < 1 → DueLine text at j
    line_one = one_more 0 (λ j h. absurd (omega arith)) head_line

    triangle_told : LineTold 1 (triangle_at text (at + 17))
    triangle_told = line_told 1 (stood_at 1 (omega arith) line_one) (triangle_of (at + 17)) (triangle_judged (at + 17)) (line_at text (at + 17)) (line_read text (at + 17))

    step_told : (j p : ℕ) → p ≡ at + 17 * suc (suc j) → j < k → ((i : ℕ) → i < suc (suc j) → DueLine text at i) → LineTold (suc (suc j)) (step_at text p)
    step_told j p e h lines =
        subst (λ a. LineTold (suc (suc j)) (step_at text a)) (sym e)
        (let q = at + 17 * suc (suc j) in line_told (suc (suc j)) (stood_at (suc (suc j)) (omega arith) lines) (step_of q) (step_judged j q) (line_at text q) (line_read text q))

    step_then : (j : ℕ) (l : List Step) (r : Result Step TextFault) (f : Step → StepsTold) → LineTold (suc (suc j)) r
        → ((s : Step) → DueLine text at (suc (suc j)) → RefusedText text at room (f s).told) → RefusedText text at room (onward r f l).told
    step_then j l (Ok s) f d again = again s d
    step_then j l (Err e) f d again = d

    steps_told : (count j p i : ℕ) (l : List Step) → p ≡ at + 17 * suc (suc j) → j + count ≡ k → ((i : ℕ) → i < suc (suc j) → DueLine text at i)
        → RefusedText text at room (steps_read text p count i l).told
    unfolding steps_read
    steps_told zero j p i l e h lines = tt
    steps_told (suc count) j p i l e h lines =
        step_then j l (step_at text p) (λ s. steps_read text (p + 17) count (i + 1) (set l i s)) (step_told j p e (omega arith) lines)
        (λ s d. steps_told count (suc j) (p + 17) (i + 1) (set l i s) (omega arith) (omega arith) (one_more (suc (suc j)) lines d))

  -- by what is told of the steps, of the triangle, and of the head
  passed_on : {X Y : Type 0} (r : Result X TextFault) (y : Y) → RefusedText text at room r → RefusedText text at room (next r (λ _. Ok y))
  passed_on (Ok x) y h = tt
  passed_on (Err e) y h = h

  by_triangle : (h : Head) (m : ℕ) (l : List Step) → Headed text at h.tables m h.steps → outside_limits h.tables m h.steps ≡ false → h.steps ≤ room
      → (r : Result Triangle TextFault) → LineTold 1 r
      → RefusedText text at room (list_with r (λ t. list_after h t (at + 34 + 17 * h.steps) (steps_read text (at + 34) h.steps 0 l)) l).told
  by_triangle h m l here inside enough (Ok t) d =
      let k = h.steps in
      let lines = one_more h.tables m k here inside enough 1 (line_one h.tables m k here inside enough) d in
      passed_on (steps_read text (at + 34) k 0 l).told _ (steps_told h.tables m k here inside enough k 0 (at + 34) 0 l (omega arith) (omega arith) lines)
  by_triangle h m l here inside enough (Err e) d = d

  by_head : (l : List Step) (r : Result Head TextFault) → HeadTold r
      → RefusedText text at room (list_headed r (λ h. list_with (triangle_at text (at + 17)) (λ t. list_after h t (at + 34 + 17 * h.steps) (steps_read text (at + 34) h.steps 0 l)) l) l).told
  by_head l (Ok h) p = by_triangle h p.0 l p.1 p.2 p.3 (triangle_at text (at + 17)) (triangle_told h.tables p.0 h.steps p.1 p.2 p.3)
  by_head l (Err e) p = p

pub refused_text : (text : List ℕ) (at : ℕ) (l : List Step) → RefusedText text at (length l) (list_read text at l).told
unfolding list_read
refused_text text at l = by_head text at (length l) l (head_at text at (length l)) (head_told text at (length l) (line_at text at) (line_read text at))

module _ (text : List ℕ) (at : ℕ) where
  by_line : (r : Result Line BadByte) → (at ≡ length text → ⊥) → LineRead text at r → Follows text at (end_of at r)
  by_line (Ok l) never p = (refl, l, record { written = p.0; agrees = p.1 })
  by_line (Err q) never p = (p, never)

  by_end : (b : Bool) → eqb at (length text) ≡ b → Follows text at (cond b (Ok tt) (end_of at (line_at text at)))
  by_end true e = eqb-true at (length text) e
  by_end false e = by_line (line_at text at) (eqb-false at (length text) e) (line_read text at)

  pub follows_end : Follows text at (end_at text at)
  follows_end = by_end (eqb at (length text)) refl

  pub follows_so : (r : Result Unit TextFault) → r ≡ end_at text at → Follows text at r
  follows_so r e = subst (Follows text at) (sym e) follows_end
