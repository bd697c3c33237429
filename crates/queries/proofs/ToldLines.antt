-- What is told of one line: it stands there with the letter due, or what is told of it is so.
--
--   ToldLine text p due line r    the answer r to reading a line at p with the letter `due`; `line` has the line of a value
--   pair_told, row_told           of a J or M line, and of an R line
--   head_told                     of the G line
use Rattle.std.proofs.Common.{◌≡◌, ℕ, ◌+◌, ◌-◌, ◌≤◌, Bool, true, false, cond, eqb, ltb, List, Some, Ok, Err, Result, sym, refl, subst, arith}
use Rattle.std.proofs.lemmas.Bool.{eqb-true, eqb-false, ltb-true, ltb-false}
use Rattle.lines.specs.Form.{LineRead, Longest}
use Rattle.lines.specs.Read.{line_at}
use Rattle.lines.specs.Text.{layout, layout_of}
use Rattle.lines.specs.declared.line.Layout.{Layout}
use Rattle.lines.specs.declared.line.Layout.TheVariants as layouts
use Rattle.lines.specs.declared.line.Fields.{Fields}
use Rattle.lines.specs.declared.line.Fields.TheVariants.{Three, LastTwo, FirstTwo, Counted, Single}
use Rattle.lines.specs.declared.line.BadByte.{BadByte}
use Rattle.lines.specs.declared.line.Line.{Line}
use Rattle.lines.proofs.Lines.{line_read}
use Rattle.texts.specs.Fault.{next, in_form}
use Rattle.texts.specs.ListLaw.{Here}
use Rattle.texts.specs.declared.fault.TextFault.{TextFault}
use Rattle.texts.specs.declared.fault.TextFault.TheVariants.{BadForm, Misplaced, OutOfLimits, TooFew}
use Rattle.texts.proofs.Refused.{apart}
use Rattle.queries.specs.QueryLaw.{head_line, row_line, GoodHead, HeadAmiss}
use Rattle.queries.specs.QueryRead.{outside_limits, head_of, head_at, pair_of, pair_at, row_of, row_line_at}
use Rattle.rejections.specs.declared.fault.QueryFault.TheVariants.{Text}
use Rattle.queries.specs.declared.query.Head.{Head}

abbrev pub pair_line : ℕ → ℕ × ℕ → Line
pair_line due e = record { letter = due; fields = LastTwo e.0 e.1 }

module _ (text : List ℕ) (p : ℕ) where
  abbrev pub ToldLine : {X : Type 0} → ℕ → (X → Line) → Result X TextFault → Type 0
  ToldLine due line (Ok x) = Here text p (line x)
  ToldLine due line (Err (BadForm q)) = Longest text p q
  ToldLine due line (Err (Misplaced q)) = (q ≡ p) × (l : Line) × Here text p l × (l.letter ≡ due → ⊥)
  ToldLine due line (Err (OutOfLimits q)) = ⊥
  ToldLine due line (Err (TooFew k)) = ⊥

  -- a judgement of the letter
  by_letter : {X : Type 0} (due c : ℕ) (f : Fields) (line : X → Line) (x : X) → line x ≡ record { letter = due; fields = f } → Here text p (record { letter = c; fields = f })
      → (b : Bool) → eqb c due ≡ b → ToldLine due line (cond b (Ok x) (Err (Misplaced p)))
  by_letter due c f line x is here true e =
      subst (Here text p) (sym is) (subst (λ d. Here text p (record { letter = d; fields = f })) (eqb-true c due e) here)
  by_letter due c f line x is here false e = (refl, record { letter = c; fields = f }, here, λ d. eqb-false c due e d)

  -- a line of another layout
  by_layout : {X : Type 0} (due c : ℕ) (f : Fields) (line : X → Line) (y : Layout) → layout due ≡ Some y → (layout_of f ≡ y → ⊥) → Here text p (record { letter = c; fields = f })
      → ToldLine {X = X} due line (Err (Misplaced p))
  by_layout due c f line y is never here = (refl, record { letter = c; fields = f }, here, apart c due (layout_of f) y here.written.listed is never)

  pair_judged : (due c : ℕ) (f : Fields) → layout due ≡ Some layouts.LastTwo → Here text p (record { letter = c; fields = f })
      → ToldLine due (pair_line due) (pair_of p due c f)
  pair_judged due c (LastTwo v w) is here = by_letter due c (LastTwo v w) (pair_line due) (v, w) refl here (eqb c due) refl
  pair_judged due c (Three a b d) is here = by_layout due c (Three a b d) (pair_line due) _ is (λ s. let z : ◌≡◌ {A = ℕ} 0 1 = cc in omega arith) here
  pair_judged due c (FirstTwo a b) is here = by_layout due c (FirstTwo a b) (pair_line due) _ is (λ s. let z : ◌≡◌ {A = ℕ} 0 1 = cc in omega arith) here
  pair_judged due c (Counted t n) is here = by_layout due c (Counted t n) (pair_line due) _ is (λ s. let z : ◌≡◌ {A = ℕ} 0 1 = cc in omega arith) here
  pair_judged due c (Single o) is here = by_layout due c (Single o) (pair_line due) _ is (λ s. let z : ◌≡◌ {A = ℕ} 0 1 = cc in omega arith) here

  row_judged : (c : ℕ) (f : Fields) → Here text p (record { letter = c; fields = f }) → ToldLine 82 row_line (row_of p c f)
  row_judged c (Counted t n) here = by_letter 82 c (Counted t n) row_line (t, n) refl here (eqb c 82) refl
  row_judged c (LastTwo v w) here = by_layout 82 c (LastTwo v w) row_line layouts.Counted refl (λ s. let z : ◌≡◌ {A = ℕ} 0 1 = cc in omega arith) here
  row_judged c (Three a b d) here = by_layout 82 c (Three a b d) row_line layouts.Counted refl (λ s. let z : ◌≡◌ {A = ℕ} 0 1 = cc in omega arith) here
  row_judged c (FirstTwo a b) here = by_layout 82 c (FirstTwo a b) row_line layouts.Counted refl (λ s. let z : ◌≡◌ {A = ℕ} 0 1 = cc in omega arith) here
  row_judged c (Single o) here = by_layout 82 c (Single o) row_line layouts.Counted refl (λ s. let z : ◌≡◌ {A = ℕ} 0 1 = cc in omega arith) here

  -- by the line read
  by_read : {X : Type 0} (due : ℕ) (line : X → Line) (judge : ℕ → Fields → Result X TextFault)
      → ((c : ℕ) (f : Fields) → Here text p (record { letter = c; fields = f }) → ToldLine due line (judge c f))
      → (r : Result Line BadByte) → LineRead text p r → ToldLine due line (next (in_form r) (λ l. judge l.letter l.fields))
  by_read due line judge so (Ok l) q = so l.letter l.fields (record { written = q.0; agrees = q.1 })
  by_read due line judge so (Err e) q = q

  pub pair_told : (due : ℕ) → layout due ≡ Some layouts.LastTwo → ToldLine due (pair_line due) (pair_at text p due)
  pair_told due is = by_read due (pair_line due) (pair_of p due) (λ c f here. pair_judged due c f is here) (line_at text p) (line_read text p)

  pub row_told : ToldLine 82 row_line (row_line_at text p)
  row_told = by_read 82 row_line (row_of p) row_judged (line_at text p) (line_read text p)

module _ (text : List ℕ) (at room : ℕ) where
  abbrev pub HeadTold : Result Head TextFault → Type 0
  HeadTold (Ok h) = GoodHead text at room h.tables h.joins
  HeadTold (Err e) = HeadAmiss text at room (Text e)

  enough_by : (n : ℕ) → n - 1 ≤ room → n ≤ room + 1
  enough_by n h = omega arith

  by_values : (n m : ℕ) → Here text at (head_line n m) → (o : Bool) → outside_limits n m ≡ o → (w : Bool) → ltb room (n - 1) ≡ w
      → HeadTold (cond o (Err (OutOfLimits at)) (cond w (Err (TooFew (n - 1))) (Ok (record { tables = n; joins = m }))))
  by_values n m here true f w g = (refl, n, m, here, f)
  by_values n m here false f true g = (n, m, here, f, refl, ltb-true room (n - 1) g)
  by_values n m here false f false g = record { here = here; inside = f; enough = enough_by n (ltb-false room (n - 1) g) }

  by_head : (c n m : ℕ) → Here text at (record { letter = c; fields = FirstTwo n m }) → (b : Bool) → eqb c 71 ≡ b
      → HeadTold (cond b (cond (outside_limits n m) (Err (OutOfLimits at)) (cond (ltb room (n - 1)) (Err (TooFew (n - 1))) (Ok (record { tables = n; joins = m })))) (Err (Misplaced at)))
  by_head c n m here true e =
      by_values n m (subst (λ d. Here text at (record { letter = d; fields = FirstTwo n m })) (eqb-true c 71 e) here) (outside_limits n m) refl (ltb room (n - 1)) refl
  by_head c n m here false e = (refl, record { letter = c; fields = FirstTwo n m }, here, λ d. eqb-false c 71 e d)

  not_head : (c : ℕ) (f : Fields) → (layout_of f ≡ layouts.FirstTwo → ⊥) → Here text at (record { letter = c; fields = f }) → HeadTold (Err (Misplaced at))
  not_head c f never here = (refl, record { letter = c; fields = f }, here, apart c 71 (layout_of f) layouts.FirstTwo here.written.listed refl never)

  head_judged : (c : ℕ) (f : Fields) → Here text at (record { letter = c; fields = f }) → HeadTold (head_of at room c f)
  head_judged c (FirstTwo n m) here = by_head c n m here (eqb c 71) refl
  head_judged c (Three a b d) here = not_head c (Three a b d) (λ s. let z : ◌≡◌ {A = ℕ} 0 1 = cc in omega arith) here
  head_judged c (LastTwo v w) here = not_head c (LastTwo v w) (λ s. let z : ◌≡◌ {A = ℕ} 0 1 = cc in omega arith) here
  head_judged c (Counted t n) here = not_head c (Counted t n) (λ s. let z : ◌≡◌ {A = ℕ} 0 1 = cc in omega arith) here
  head_judged c (Single o) here = not_head c (Single o) (λ s. let z : ◌≡◌ {A = ℕ} 0 1 = cc in omega arith) here

  by_line : (r : Result Line BadByte) → LineRead text at r → HeadTold (next (in_form r) (λ l. head_of at room l.letter l.fields))
  by_line (Ok l) q = head_judged l.letter l.fields (record { written = q.0; agrees = q.1 })
  by_line (Err e) q = q

  pub head_told : HeadTold (head_at text at room)
  head_told = by_line (line_at text at) (line_read text at)
