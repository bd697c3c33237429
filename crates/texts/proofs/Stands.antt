-- Where a text stands in another: one line, the lines of a list's steps, and a list's whole text.
--
--   Stands text at l      the line l can be written, and its text stands from `at` on, within the text
--   line_stands           a line that is read stands there
--   agrees_part           a text that agrees throughout is the part it agrees with
--   list_text_length      the bytes of a list's text
--   list_agrees           a list's text agrees where its H line, its T line and its step lines do
--   list_front, list_mid, list_back   and only there
use Rattle.std.proofs.Common.{◌≡◌, ℕ, ◌+◌, ◌*◌, ◌≤◌, List, ◌++◌, length, take, drop, Ok, sym, refl, ap, ◌∙◌, subst, arith, length-append, length-drop}
use Rattle.std.proofs.lemmas.List.{ext_get_or, get_or-take, get_or-drop, length-take-le}
use Rattle.std.specs.List.{flat_map}
use Rattle.lines.specs.Form.{Agrees, LineRead}
use Rattle.lines.specs.Read.{line_at}
use Rattle.lines.specs.Text.{line_text, Written}
use Rattle.lines.specs.declared.line.Line.{Line}
use Rattle.lines.proofs.Bytes.{line_length, begins_within}
use Rattle.lines.proofs.Lines.{line_read}
use Rattle.lines.proofs.Pieces.{agrees_front, agrees_back, agrees_both}
use Rattle.theory.specs.declared.step.Step.{Step}
use Rattle.theory.specs.declared.step.Triangle.{Triangle}
use Rattle.texts.specs.ListText.{head_line, triangle_line, step_line, step_text, list_text}
use Rattle.texts.specs.ListWrite.{list_length}
use Rattle.texts.proofs.Writing.{joined_length}

pub record Stands (text : List ℕ) (at : ℕ) (l : Line) : Type 0 where
  pub written : Written l
  pub agrees : Agrees (line_text l) text at 17
  pub inside : at + 17 ≤ length text

pub line_stands : (text : List ℕ) (at : ℕ) (l : Line) → line_at text at ≡ Ok l → Stands text at l
line_stands text at l e =
    let r : Written l × Agrees (line_text l) text at 17 = subst (LineRead text at) e (line_read text at) in
    record { written = r.0; agrees = r.1; inside = begins_within text at 17 (omega arith) (l, r.0, r.1) (omega arith) }

pub agrees_part : (t text : List ℕ) (at k : ℕ) → length t ≡ k → at + k ≤ length text → Agrees t text at k → take k (drop at text) ≡ t
agrees_part t text at k long h a =
    let m : length (take k (drop at text)) ≡ k = length-take-le k (drop at text) (simp length-drop (omega arith)) in
    ext_get_or 0 (take k (drop at text)) t (m ∙ sym long)
    (λ i b. get_or-take k (drop at text) i 0 (omega arith) ∙ get_or-drop at text i 0 ∙ sym (a i (omega arith)))

module _ (n : ℕ) (t : Triangle) (l : List Step) where
  abbrev head : List ℕ
  head = line_text (head_line n (length l))

  abbrev triangle : List ℕ
  triangle = line_text (triangle_line t)

  abbrev steps : List ℕ
  steps = flat_map step_text l

  pub list_text_length : length (list_text n t l) ≡ list_length l
  list_text_length =
      let one = line_length (head_line n (length l)) in
      let two = line_length (triangle_line t) in
      let rest : length steps ≡ 17 * length l = joined_length step_line l in
      length-append head (triangle ++ steps) ∙ ap (λ k. length head + k) (length-append triangle steps) ∙ omega arith

  module _ (text : List ℕ) (at : ℕ) where
    -- the whole from its parts
    pub list_agrees : Agrees head text at 17 → Agrees triangle text (at + 17) 17 → Agrees steps text (at + 34) (17 * length l) → Agrees (list_text n t l) text at (list_length l)
    list_agrees a b c =
        let bc = agrees_both triangle steps text 17 (line_length (triangle_line t)) (at + 17) (at + 34) (omega arith) (17 * length l) b c in
        let abc = agrees_both head (triangle ++ steps) text 17 (line_length (head_line n (length l))) at (at + 17) refl (17 + 17 * length l) a bc in
        λ j h. abc j (omega arith)

    module _ (whole : Agrees (list_text n t l) text at (list_length l)) where
      pub list_front : Agrees head text at 17
      list_front =
          agrees_front head (triangle ++ steps) text 17 (line_length (head_line n (length l))) at (at + 17) refl 17 (omega arith) (λ j h. whole j (omega arith))

      after_head : Agrees (triangle ++ steps) text (at + 17) (17 + 17 * length l)
      after_head =
          agrees_back head (triangle ++ steps) text 17 (line_length (head_line n (length l))) at (at + 17) refl (17 + 17 * length l) (λ j h. whole j (omega arith))

      pub list_mid : Agrees triangle text (at + 17) 17
      list_mid = agrees_front triangle steps text 17 (line_length (triangle_line t)) (at + 17) (at + 34) (omega arith) 17 (omega arith) (λ j h. after_head j (omega arith))

      pub list_back : Agrees steps text (at + 34) (17 * length l)
      list_back = agrees_back triangle steps text 17 (line_length (triangle_line t)) (at + 17) (at + 34) (omega arith) (17 * length l) after_head
