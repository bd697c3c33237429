-- A list that can be written reads back from its text, and what is written is the text of a list that can be.
--
--   head_back, triangle_back, step_back   the line of a head within its limits, of a triangle, of a step is accepted
--   steps_back                            the lines of steps are read into the records
--   list_back_at, list_reads_back         the text of a list reads back as that list, at any offset and from the start on
--   writable                              a list that is written can be written, and where there is room
--   writes_back                           a list that was written reads back
use Rattle.std.proofs.Common.{◌≡◌, ℕ, ◌+◌, ◌*◌, ◌≤◌, false, cond, ◌||◌, ltb, List, [], ◌∷◌, ◌++◌, length, take, drop, set, Ok, Err, Result, sym, refl, ap, ◌∙◌, subst, arith, length-set, take-append-drop}
use Rattle.std.proofs.lemmas.Bool.{le-ltb, ltb-false}
use Rattle.std.proofs.lemmas.Bool.Decides.{nat_tests}
use Rattle.std.specs.List.{flat_map}
use Rattle.lines.specs.Form.{Agrees}
use Rattle.lines.specs.Text.{line_text, Fits, Written}
use Rattle.lines.proofs.Bytes.{line_length}
use Rattle.lines.proofs.Lines.{reads_back}
use Rattle.lines.proofs.Pieces.{agrees_front, agrees_back}
use Rattle.writer.specs.Laid.{laid}
use Rattle.theory.specs.declared.step.Step.{Step}
use Rattle.theory.specs.declared.step.Step.TheVariants.{Edge, Node}
use Rattle.theory.specs.declared.step.Triangle.{Triangle}
use Rattle.texts.specs.Fault.{next, in_form}
use Rattle.texts.specs.ListLaw.{ReadsBack}
use Rattle.texts.specs.ListRead.{outside_limits, head_of, head_at, triangle_of, triangle_at, step_of, step_at, onward, steps_read, list_after, list_with, list_headed, list_read}
use Rattle.texts.specs.ListText.{head_line, triangle_line, step_line, step_text, list_text, EachFits, none, more, Listable}
use Rattle.texts.specs.ListWrite.{triangle_over, step_over, steps_over, list_length, roomy, list_write_answer, laid_if, list_written}
use Rattle.texts.specs.declared.fault.TextFault.{TextFault}
use Rattle.texts.specs.declared.fault.TextFault.TheVariants.{OutOfLimits, TooFew}
use Rattle.texts.specs.declared.list.Head.{Head}
use Rattle.texts.proofs.Laying.{laid_agrees}
use Rattle.writer.proofs.Lays.{put_more}
use Rattle.texts.proofs.Lists.{refused, unless_so}
use Rattle.texts.proofs.Stands.{list_text_length, list_front, list_mid, list_back}

module _ (text : List ℕ) where
  step_written : (s : Step) → Fits (step_line s).fields → Written (step_line s)
  step_written (Edge v w) f = record { listed = refl; fits = f }
  step_written (Node u v w) f = record { listed = refl; fits = f }

  step_judged : (at : ℕ) (s : Step) → step_of at (step_line s).letter (step_line s).fields ≡ Ok s
  step_judged at (Edge v w) = refl
  step_judged at (Node u v w) = refl

  pub step_back : (at : ℕ) (s : Step) → Fits (step_line s).fields → Agrees (step_text s) text at 17 → step_at text at ≡ Ok s
  step_back at s f a =
      ap (λ r. next (in_form r) (λ l. step_of at l.letter l.fields)) (reads_back text at (step_line s) (step_written s f) a) ∙ step_judged at s

  pub triangle_back : (at : ℕ) (t : Triangle) → Fits (triangle_line t).fields → Agrees (line_text (triangle_line t)) text at 17 → triangle_at text at ≡ Ok t
  triangle_back at t f a =
      ap (λ r. next (in_form r) (λ l. triangle_of at l.letter l.fields)) (reads_back text at (triangle_line t) (record { listed = refl; fits = f }) a)

  within_limits : (n k : ℕ) → 3 ≤ n → n ≤ 64 → k + 3 ≤ 2016 → outside_limits n (k + 3) k ≡ false
  within_limits n k a b c = grind (arith, nat_tests)

  pub head_back : (at room n k : ℕ) → 3 ≤ n → n ≤ 64 → k + 3 ≤ 2016 → k ≤ room → Agrees (line_text (head_line n k)) text at 17
      → head_at text at room ≡ Ok (record { tables = n; steps = k })
  head_back at room n k least most few enough a =
      let told : Head = record { tables = n; steps = k } in
      ap (λ r. next (in_form r) (λ l. head_of at room l.letter l.fields))
      (reads_back text at (head_line n k) (record { listed = refl; fits = (omega arith, omega arith, omega arith) }) a)
      ∙ ap (λ b. cond b (Err (OutOfLimits at)) (cond (ltb room k) (Err (TooFew k)) (Ok told))) (within_limits n k least most few)
      ∙ ap (λ b. cond b (Err (TooFew k)) (Ok told)) (le-ltb room k enough)

  pub steps_back : (l : List Step) (at i : ℕ) (records : List Step) → EachFits l → Agrees (flat_map step_text l) text at (17 * length l) → i + length l ≤ length records
      → steps_read text at (length l) i records ≡ record { told = Ok tt; records = take i records ++ (l ++ drop (i + length l) records) }
  unfolding steps_read
  steps_back [] at i records f a h =
      ap (λ l. record { told = Ok tt; records = l }) (sym (take-append-drop i records) ∙ ap (λ n. take i records ++ drop n records) (omega arith))
  steps_back (s ∷ l) at i records (more g f) a h =
      let long = line_length (step_line s) in
      let rest = flat_map step_text l in
      let one = agrees_front (step_text s) rest text 17 long at (at + 17) refl 17 (omega arith) (λ j b. a j (omega arith)) in
      let others = agrees_back (step_text s) rest text 17 long at (at + 17) refl (17 * length l) (λ j b. a j (omega arith)) in
      ap (λ r. onward r (λ s. steps_read text (at + 17) (length l) (i + 1) (set records i s)) records) (step_back at s g one)
      ∙ steps_back l (at + 17) (i + 1) (set records i s) f others (simp length-set (omega arith))
      ∙ ap (λ l. record { told = Ok tt; records = l })
      (put_more records i (i + 1 + length l) s l (omega arith) (omega arith) ∙ ap (λ n. take i records ++ s ∷ (l ++ drop n records)) (omega arith))

  pub list_back_at : (at n : ℕ) (t : Triangle) (l : List Step) → Listable n t l → Agrees (list_text n t l) text at (list_length l)
      → (records : List Step) → length l ≤ length records
      → list_read text at records
      ≡ record { told = Ok (record { tables = n; triangle = t; steps = length l; end = at + 34 + 17 * length l }); records = l ++ drop (length l) records }
  unfolding list_read
  list_back_at at n t l able a records h =
      let k = length l in
      let told : Head = record { tables = n; steps = k } in
      ap (λ r. list_headed r (λ h. list_with (triangle_at text (at + 17)) (λ t. list_after h t (at + 34 + 17 * h.steps) (steps_read text (at + 34) h.steps 0 records)) records) records)
      (head_back at (length records) n k able.least able.most able.few h (list_front n t l text at a))
      ∙ ap (λ r. list_with r (λ t. list_after told t (at + 34 + 17 * k) (steps_read text (at + 34) k 0 records)) records)
      (triangle_back (at + 17) t able.triangle_fits (list_mid n t l text at a))
      ∙ ap (λ s. list_after told t (at + 34 + 17 * k) s)
      (steps_back l (at + 34) 0 records able.steps_fit (list_back n t l text at a) (omega arith) ∙ ap (λ m. record { told = Ok tt; records = l ++ drop m records }) (omega arith))

pub list_reads_back : (n : ℕ) (t : Triangle) (l : List Step) (out : List ℕ) → Listable n t l → Agrees (list_text n t l) out 0 (list_length l)
    → (records : List Step) → length l ≤ length records
    → list_read out 0 records ≡ record { told = Ok (record { tables = n; triangle = t; steps = length l; end = list_length l }); records = l ++ drop (length l) records }
list_reads_back n t l out able a records h = list_back_at out 0 n t l able a records h

-- ---- what is written

triangle_fit : (t : Triangle) → triangle_over t ≡ false → Fits (triangle_line t).fields
triangle_fit t q = grind (arith, nat_tests)

step_fit : (s : Step) → step_over s ≡ false → Fits (step_line s).fields
step_fit (Edge v w) q = grind (arith, nat_tests)
step_fit (Node u v w) q = grind (arith, nat_tests)

steps_fit : (at : ℕ) (l : List Step) → steps_over at l ≡ Ok tt → EachFits l
unfolding steps_over
steps_fit at [] q = none
steps_fit at (s ∷ l) q =
    let p = unless_so (step_over s) (steps_over (at + 17) l) (OutOfLimits at) tt q in
    more (step_fit s p.0) (steps_fit (at + 17) l p.1)

-- the steps fit, and there is room
roomy_so : (r : Result Unit TextFault) (needed b k : ℕ) → roomy r needed b ≡ Ok k → (r ≡ Ok tt) × (k ≡ needed) × (k ≤ b)
roomy_so (Ok u) needed b k q =
    let p = unless_so (ltb b needed) (Ok needed) (TooFew needed) k q in
    let enough = ltb-false b needed p.0 in
    let same : k ≡ needed = cc in
    (refl, same, omega arith)
roomy_so (Err e) needed b k q = refused e k q

limits_so : (n k : ℕ) → (ltb n 3 || (ltb 64 n || ltb 2013 k)) ≡ false → (3 ≤ n) × (n ≤ 64) × (k + 3 ≤ 2016)
limits_so n k q = grind (arith, nat_tests)

pub writable : (n : ℕ) (t : Triangle) (l : List Step) (b k : ℕ) → list_write_answer n t l b ≡ Ok k → Listable n t l × (k ≡ list_length l) × (k ≤ b)
writable n t l b k q =
    let p₁ = unless_so (ltb n 3 || (ltb 64 n || ltb 2013 (length l))) (cond (triangle_over t) (Err (OutOfLimits 17)) (roomy (steps_over 34 l) (list_length l) b)) (OutOfLimits 0) k q in
    let p₂ = unless_so (triangle_over t) (roomy (steps_over 34 l) (list_length l) b) (OutOfLimits 17) k p₁.1 in
    let p₃ = roomy_so (steps_over 34 l) (list_length l) b k p₂.1 in
    let lim = limits_so n (length l) p₁.0 in
    (record { least = lim.0; most = lim.1; few = lim.2; triangle_fits = triangle_fit t p₂.0; steps_fit = steps_fit 34 l p₃.0 }, p₃.1, p₃.2)

module _ (n : ℕ) (t : Triangle) (l : List Step) (out : List ℕ) where
  written_back : (r : Result ℕ TextFault) → list_write_answer n t l (length out) ≡ r → ReadsBack n t l (laid_if r out (list_text n t l)) r
  written_back (Ok k) e =
      let p = writable n t l (length out) k e in
      let same = p.1 in
      let long = list_text_length n t l in
      let a = laid_agrees out 0 (list_text n t l) (omega arith) in
      subst (λ m. ReadsBack n t l (laid out 0 (list_text n t l)) (Ok m)) (sym same)
      (list_reads_back n t l (laid out 0 (list_text n t l)) p.0 (λ j h. a j (omega arith)))
  written_back (Err e) _ = tt

  pub writes_back : ReadsBack n t l (list_written n t l out) (list_write_answer n t l (length out))
  writes_back = written_back (list_write_answer n t l (length out)) refl
