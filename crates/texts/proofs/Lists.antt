-- A list that is accepted stands in the text as it would be written.
--
--   refused, when_so, unless_so       a refusal is no answer; what follows where a judgement with one is an answer
--   step_stands, triangle_stands, head_stands   a line that is accepted as such stands there; an H line's numbers are within their limits
--   StepsStand text at k i l after    k step lines stand from `at` on, and `after` is the records l with their steps put in from the i-th on
--   steps_stand                       so it is where the steps are accepted
--   same_text                         the whole list
use Rattle.std.proofs.Common.{◌≡◌, ℕ, zero, suc, ◌+◌, ◌*◌, ◌<◌, ◌≤◌, Bool, true, false, cond, eqb, ltb, List, [], ◌∷◌, ◌++◌, length, take, drop, set, Ok, Err, Result, sym, refl, ap, ◌∙◌, subst, arith, length-set, take-append-drop}
use Rattle.std.proofs.lemmas.List.{take_at, drop_at}
use Rattle.std.proofs.lemmas.Bool.{eqb-true, ltb-false}
use Rattle.std.proofs.lemmas.Bool.Decides.{nat_tests}
use Rattle.std.specs.List.{flat_map}
use Rattle.lines.specs.Form.{Agrees}
use Rattle.lines.specs.Read.{line_at}
use Rattle.lines.specs.Text.{line_text}
use Rattle.lines.specs.declared.line.Fields.{Fields}
use Rattle.lines.specs.declared.line.Fields.TheVariants.{Three, LastTwo, FirstTwo, Counted, Single}
use Rattle.lines.specs.declared.line.BadByte.{BadByte}
use Rattle.lines.specs.declared.line.Line.{Line}
use Rattle.lines.proofs.Bytes.{line_length}
use Rattle.lines.proofs.Pieces.{agrees_both}
use Rattle.writer.specs.Laid.{line_of}
use Rattle.theory.specs.declared.step.Step.{Step}
use Rattle.theory.specs.declared.step.Step.TheVariants.{Edge, Node}
use Rattle.theory.specs.declared.step.Triangle.{Triangle}
use Rattle.texts.specs.Fault.{next, in_form}
use Rattle.texts.specs.ListLaw.{ListStands, SameText}
use Rattle.texts.specs.ListRead.{outside_limits, head_values, head_of, head_at, triangle_of, triangle_at, step_of, step_at, StepsTold, onward, steps_read, heading, list_after, list_with, list_headed, list_read}
use Rattle.texts.specs.ListText.{head_line, triangle_line, step_line, step_text, list_text, EachFits, none, more, Listable}
use Rattle.texts.specs.ListWrite.{list_write_answer}
use Rattle.texts.specs.declared.fault.TextFault.{TextFault}
use Rattle.texts.specs.declared.fault.TextFault.TheVariants.{Misplaced, OutOfLimits, TooFew}
use Rattle.texts.specs.declared.list.Head.{Head}
use Rattle.texts.proofs.Able.{writes_able}
use Rattle.writer.proofs.Lays.{put_more}
use Rattle.texts.proofs.Stands.{Stands, line_stands, agrees_part, list_text_length, list_agrees}

-- a refusal is no answer
pub refused : {X F : Type 0} {Y : Type 0} (e : F) (x : X) → ◌≡◌ {A = Result X F} (Err e) (Ok x) → Y
refused e x q = let z : ◌≡◌ {A = ℕ} 0 1 = cc in absurd (omega arith)

-- where an answer stands beside a refusal, and where a refusal stands before it
pub when_so : {X F : Type 0} (b : Bool) (r : Result X F) (e : F) (x : X) → cond b r (Err e) ≡ Ok x → (b ≡ true) × (r ≡ Ok x)
when_so true r e x q = (refl, q)
when_so false r e x q = refused e x q

pub unless_so : {X F : Type 0} (b : Bool) (r : Result X F) (e : F) (x : X) → cond b (Err e) r ≡ Ok x → (b ≡ false) × (r ≡ Ok x)
unless_so false r e x q = (refl, q)
unless_so true r e x q = refused e x q

-- a line that a judgement of its letter and fields accepts
line_so : {X : Type 0} (judge : ℕ → Fields → Result X TextFault) (r : Result Line BadByte) (x : X) → next (in_form r) (λ l. judge l.letter l.fields) ≡ Ok x
    → (l : Line) × (r ≡ Ok l) × (judge l.letter l.fields ≡ Ok x)
line_so judge (Ok l) x q = (l, refl, q)
line_so judge (Err p) x q = refused _ x q

step_so : (at c : ℕ) (f : Fields) (s : Step) → step_of at c f ≡ Ok s → line_of c f ≡ step_line s
step_so at c (Three u v w) s q =
    let p = when_so (eqb c 78) (Ok (Node u v w)) (Misplaced at) s q in
    let c-is = eqb-true c 78 p.0 in
    let s-is : Node u v w ≡ s = cc in
    ap (λ n. line_of n (Three u v w)) c-is ∙ ap step_line s-is
step_so at c (LastTwo v w) s q =
    let p = when_so (eqb c 69) (Ok (Edge v w)) (Misplaced at) s q in
    let c-is = eqb-true c 69 p.0 in
    let s-is : Edge v w ≡ s = cc in
    ap (λ n. line_of n (LastTwo v w)) c-is ∙ ap step_line s-is
step_so at c (FirstTwo a b) s q = refused _ s q
step_so at c (Counted t z) s q = refused _ s q
step_so at c (Single o) s q = refused _ s q

triangle_so : (at c : ℕ) (f : Fields) (t : Triangle) → triangle_of at c f ≡ Ok t → line_of c f ≡ triangle_line t
triangle_so at c (Three u v w) t q =
    let told : Triangle = record { a = u; b = v; c = w } in
    let p = when_so (eqb c 84) (Ok told) (Misplaced at) t q in
    let c-is = eqb-true c 84 p.0 in
    let t-is : told ≡ t = cc in
    ap (λ n. line_of n (Three u v w)) c-is ∙ ap triangle_line t-is
triangle_so at c (LastTwo v w) t q = refused _ t q
triangle_so at c (FirstTwo a b) t q = refused _ t q
triangle_so at c (Counted u z) t q = refused _ t q
triangle_so at c (Single o) t q = refused _ t q

record Limits (room : ℕ) (h : Head) : Type 0 where
  least : 3 ≤ h.tables
  most : h.tables ≤ 64
  few : h.steps + 3 ≤ 2016
  roomy : h.steps ≤ room

within : (n m k : ℕ) → outside_limits n m k ≡ false → (3 ≤ n) × (n ≤ 64) × (m ≡ k + 3) × (k + 3 ≤ 2016)
within n m k q = grind (arith, nat_tests)

head_so : (at room c : ℕ) (f : Fields) (h : Head) → head_of at room c f ≡ Ok h → (line_of c f ≡ head_line h.tables h.steps) × Limits room h
head_so at room c (Three n m k) h q =
    let told : Head = record { tables = n; steps = k } in
    let p = when_so (eqb c 72) (head_values at room n m k) (Misplaced at) h q in
    let inner = unless_so (outside_limits n m k) (cond (ltb room k) (Err (TooFew k)) (Ok told)) (OutOfLimits at) h p.1 in
    let last = unless_so (ltb room k) (Ok told) (TooFew k) h inner.1 in
    let c-is = eqb-true c 72 p.0 in
    let h-is : told ≡ h = cc in
    let lim = within n m k inner.0 in
    let enough = ltb-false room k last.0 in
    subst (λ (g : Head). (line_of c (Three n m k) ≡ head_line g.tables g.steps) × Limits room g) h-is
    (ap (λ d. line_of d (Three n m k)) c-is ∙ ap (λ j. line_of 72 (Three n j k)) lim.2, record { least = lim.0; most = lim.1; few = lim.3; roomy = enough })
head_so at room c (LastTwo v w) h q = refused _ h q
head_so at room c (FirstTwo a b) h q = refused _ h q
head_so at room c (Counted t z) h q = refused _ h q
head_so at room c (Single o) h q = refused _ h q

module _ (text : List ℕ) where
  step_stands : (at : ℕ) (s : Step) → step_at text at ≡ Ok s → Stands text at (step_line s)
  step_stands at s q =
      let p = line_so (step_of at) (line_at text at) s q in
      line_stands text at (step_line s) (p.1 ∙ ap Ok (step_so at p.0.letter p.0.fields s p.2))

  triangle_stands : (at : ℕ) (t : Triangle) → triangle_at text at ≡ Ok t → Stands text at (triangle_line t)
  triangle_stands at t q =
      let p = line_so (triangle_of at) (line_at text at) t q in
      line_stands text at (triangle_line t) (p.1 ∙ ap Ok (triangle_so at p.0.letter p.0.fields t p.2))

  head_stands : (at room : ℕ) (h : Head) → head_at text at room ≡ Ok h → Stands text at (head_line h.tables h.steps) × Limits room h
  head_stands at room h q =
      let p = line_so (head_of at room) (line_at text at) h q in
      let so = head_so at room p.0.letter p.0.fields h p.2 in
      (line_stands text at (head_line h.tables h.steps) (p.1 ∙ ap Ok so.0), so.1)

  record StepsStand (at k i : ℕ) (l after : List Step) : Type 0 where
    ss : List Step
    many : length ss ≡ k
    fit : EachFits ss
    agrees : Agrees (flat_map step_text ss) text at (17 * k)
    inside : at + 17 * k ≤ length text
    filled : after ≡ take i l ++ (ss ++ drop (i + k) l)

  -- one step line more
  step_more : (at k i : ℕ) (l after : List Step) (s : Step) → i < length l → Stands text at (step_line s) → StepsStand (at + 17) k (i + 1) (set l i s) after → StepsStand at (suc k) i l after
  step_more at k i l after s h one rest =
      let both = agrees_both (step_text s) (flat_map step_text rest.ss) text 17 (line_length (step_line s)) at (at + 17) refl (17 * k) one.agrees rest.agrees in
      record {
        ss = s ∷ rest.ss;
        many = ap suc rest.many;
        fit = more one.written.fits rest.fit;
        agrees = λ j b. both j (omega arith);
        inside = omega arith;
        filled = rest.filled ∙ put_more l i (i + 1 + k) s rest.ss h (omega arith) ∙ ap (λ n. take i l ++ s ∷ (rest.ss ++ drop n l)) (omega arith);
      }

  step_then : (at k i : ℕ) (l : List Step) (r : Result Step TextFault) (f : Step → StepsTold) → i < length l → step_at text at ≡ r
      → ((s : Step) → at + 17 ≤ length text → (f s).told ≡ Ok tt → StepsStand (at + 17) k (i + 1) (set l i s) (f s).records)
      → (onward r f l).told ≡ Ok tt → StepsStand at (suc k) i l (onward r f l).records
  step_then at k i l (Ok s) f h e again q =
      let one = step_stands at s e in
      step_more at k i l (f s).records s h one (again s one.inside q)
  step_then at k i l (Err e) f h _ again q = refused e tt q

  steps_stand : (at k i : ℕ) (l : List Step) → i + k ≤ length l → at ≤ length text → (steps_read text at k i l).told ≡ Ok tt → StepsStand at k i l (steps_read text at k i l).records
  unfolding steps_read
  steps_stand at zero i l h b q =
      record {
        ss = [];
        many = refl;
        fit = none;
        agrees = λ j c. absurd (omega arith);
        inside = omega arith;
        filled = sym (take-append-drop i l) ∙ ap (λ n. take i l ++ drop n l) (omega arith);
      }
  steps_stand at (suc k) i l h b q =
      step_then at k i l (step_at text at) (λ s. steps_read text (at + 17) k (i + 1) (set l i s)) (omega arith) refl
      (λ s c p. steps_stand (at + 17) k (i + 1) (set l i s) (simp length-set (omega arith)) c p) q

  module _ (at : ℕ) (l : List Step) where
    -- the lines put together
    list_stands : (h : Head) (t : Triangle) (after : List Step) → Stands text at (head_line h.tables h.steps) → Limits (length l) h → Stands text (at + 17) (triangle_line t)
        → StepsStand (at + 34) h.steps 0 l after → ListStands text at l after (heading h t (at + 34 + 17 * h.steps))
    list_stands h t after one limits two rest =
        let n = h.tables in
        let k = h.steps in
        let ss = rest.ss in
        let after_is : after ≡ ss ++ drop k l = rest.filled ∙ ap (λ m. ss ++ drop m l) (omega arith) in
        let front : take k after ≡ ss = ap (take k) after_is ∙ take_at ss (drop k l) k rest.many in
        let whole =
        list_agrees n t ss text at (subst (λ m. Agrees (line_text (head_line n m)) text at 17) (sym rest.many) one.agrees) two.agrees
        (subst (λ m. Agrees (flat_map step_text ss) text (at + 34) (17 * m)) (sym rest.many) rest.agrees) in
        let long = list_text_length n t ss in
        let many = rest.many in
        let able : Listable n t ss = record { least = limits.least; most = limits.most; few = omega arith; triangle_fits = two.written.fits; steps_fit = rest.fit } in
        record {
          ends = refl;
          inside = rest.inside;
          room = limits.roomy;
          stands = agrees_part (list_text n t ss) text at (34 + 17 * k) (omega arith) (omega arith) (λ j b. whole j (omega arith)) ∙ ap (list_text n t) (sym front);
          listable = subst (λ ts. Listable n t ts) (sym front) able;
          writes = λ b h.
              subst (λ ts. list_write_answer n t ts b ≡ Ok (34 + 17 * k)) (sym front)
              (writes_able n t ss b able (omega arith) ∙ ap (λ m. Ok (34 + 17 * m)) many);
          others = ap (drop k) after_is ∙ drop_at ss (drop k l) k rest.many;
        }

    -- by what is told of the steps, of the triangle, and of the head
    by_steps : (h : Head) (t : Triangle) (s : StepsTold) → (s.told ≡ Ok tt → ListStands text at l s.records (heading h t (at + 34 + 17 * h.steps))) → (r : Result Unit TextFault) → s.told ≡ r
        → SameText text at l s.records (next r (λ _. Ok (heading h t (at + 34 + 17 * h.steps))))
    by_steps h t s f (Ok u) e = f e
    by_steps h t s f (Err e) _ = tt

    by_triangle : (h : Head) → Stands text at (head_line h.tables h.steps) → Limits (length l) h → (r : Result Triangle TextFault) → triangle_at text (at + 17) ≡ r
        → let q = list_with r (λ t. list_after h t (at + 34 + 17 * h.steps) (steps_read text (at + 34) h.steps 0 l)) l in SameText text at l q.records q.told
    by_triangle h one limits (Ok t) e =
        let two = triangle_stands (at + 17) t e in
        let s = steps_read text (at + 34) h.steps 0 l in
        by_steps h t s (λ q. list_stands h t s.records one limits two (steps_stand (at + 34) h.steps 0 l (omega (arith, limits.roomy)) (omega (arith, two.inside)) q)) s.told refl
    by_triangle h one limits (Err e) _ = tt

    by_head : (r : Result Head TextFault) → head_at text at (length l) ≡ r
        → let q = list_headed r (λ h. list_with (triangle_at text (at + 17)) (λ t. list_after h t (at + 34 + 17 * h.steps) (steps_read text (at + 34) h.steps 0 l)) l) l in
        SameText text at l q.records q.told
    by_head (Ok h) e = let p = head_stands at (length l) h e in by_triangle h p.0 p.1 (triangle_at text (at + 17)) refl
    by_head (Err e) _ = tt

pub same_text : (text : List ℕ) (at : ℕ) (l : List Step) → SameText text at l (list_read text at l).records (list_read text at l).told
unfolding list_read
same_text text at l = by_head text at l (head_at text at (length l)) refl
