-- The lines of a query that stand one after another are its text.
--
--   begun_agrees   the text of the lines so far stands from `at` on
--   begun_inside   and lies within the text
--   begun_whole    where nothing follows, it is the whole rest of the text
use Rattle.std.proofs.Common.{◌≡◌, ℕ, ◌+◌, ◌*◌, ◌≤◌, List, [], ◌∷◌, ◌++◌, length, drop, ℤ, sym, refl, ap, ◌∙◌, subst, arith, length-append, length-drop, take_all}
use Rattle.std.proofs.lemmas.List.{length_push, flat_map_more}
use Rattle.std.specs.List.{flat_map}
use Rattle.theory.specs.declared.mark.Mark.{Mark}
use Rattle.lines.specs.Form.{Agrees}
use Rattle.lines.specs.Text.{line_text}
use Rattle.lines.specs.declared.line.Line.{Line}
use Rattle.lines.proofs.Bytes.{line_length}
use Rattle.lines.proofs.Pieces.{agrees_both}
use Rattle.texts.proofs.Near.{here_inside}
use Rattle.texts.proofs.Stands.{agrees_part}
use Rattle.texts.proofs.Writing.{joined_length}
use Rattle.queries.specs.QueryLaw.{head_line, join_line, mark_line, row_line, join_text, mark_text, row_text, query_text, Begun, headed, joined_by, marked_by, counted_by, place_after}

-- one line more behind lines
agrees_more : {X : Type 0} (text : List ℕ) (line : X → Line) (xs : List X) (x : X) (p q : ℕ) → q ≡ p + 17 * length xs
    → Agrees (flat_map (λ y. line_text (line y)) xs) text p (17 * length xs) → Agrees (line_text (line x)) text q 17
    → Agrees (flat_map (λ y. line_text (line y)) (xs ++ x ∷ [])) text p (17 * length (xs ++ x ∷ []))
agrees_more {X = X} text line xs x p q is a b =
    let f = λ (y : X). line_text (line y) in
    let both = agrees_both (flat_map f xs) (f x) text (17 * length xs) (joined_length line xs) p q is 17 a b in
    let one_more = length_push xs x in
    subst (λ t. Agrees t text p (17 * length (xs ++ x ∷ []))) (flat_map_more f [] xs x) (λ j h. both j (omega arith))

module _ (text : List ℕ) (at : ℕ) where
  record Parts (n m : ℕ) (js : List (ℕ × ℕ)) (ms : List Mark) (rs : List (ℕ × ℤ)) : Type 0 where
    head : Agrees (line_text (head_line n m)) text at 17
    joins : Agrees (flat_map join_text js) text (at + 17) (17 * length js)
    marks : Agrees (flat_map mark_text ms) text (at + 17 + 17 * length js) (17 * length ms)
    counts : Agrees (flat_map row_text rs) text (at + 17 + 17 * length js + 17 * length ms) (17 * length rs)
    inside : place_after at js ms rs ≤ length text

  parts : {room n m : ℕ} {js : List (ℕ × ℕ)} {ms : List Mark} {rs : List (ℕ × ℤ)} → Begun text at room n m js ms rs → Parts n m js ms rs
  parts {n = n} {m = m} (headed g) =
      let in-text = here_inside text at (head_line n m) g.here in
      record {
        head = g.here.agrees;
        joins = λ j h. absurd (omega arith);
        marks = λ j h. absurd (omega arith);
        counts = λ j h. absurd (omega arith);
        inside = omega arith;
      }
  parts (joined_by {js} p b d here good) =
      let q = parts b in
      let in-text = here_inside text (place_after at js [] []) (join_line p) here in
      let more = length_push js p in
      record {
        head = q.head;
        joins = agrees_more text join_line js p (at + 17) (place_after at js [] []) (omega arith) q.joins here.agrees;
        marks = λ j h. absurd (omega arith);
        counts = λ j h. absurd (omega arith);
        inside = omega arith;
      }
  parts (marked_by {js} {ms} k b d here) =
      let q = parts b in
      let in-text = here_inside text (place_after at js ms []) (mark_line k) here in
      let more = length_push ms k in
      record {
        head = q.head;
        joins = q.joins;
        marks = agrees_more text mark_line ms k (at + 17 + 17 * length js) (place_after at js ms []) (omega arith) q.marks here.agrees;
        counts = λ j h. absurd (omega arith);
        inside = omega arith;
      }
  parts (counted_by {js} {ms} {rs} r b d here good) =
      let q = parts b in
      let in-text = here_inside text (place_after at js ms rs) (row_line r) here in
      let more = length_push rs r in
      record {
        head = q.head;
        joins = q.joins;
        marks = q.marks;
        counts = agrees_more text row_line rs r (at + 17 + 17 * length js + 17 * length ms) (place_after at js ms rs) refl q.counts here.agrees;
        inside = omega arith;
      }

  module _ {room n m : ℕ} {js : List (ℕ × ℕ)} {ms : List Mark} {rs : List (ℕ × ℤ)} (begun : Begun text at room n m js ms rs) where
    pub begun_inside : place_after at js ms rs ≤ length text
    begun_inside = (parts begun).inside

    begun_agrees : Agrees (query_text n m js ms rs) text at (17 + (17 * length js + (17 * length ms + 17 * length rs)))
    begun_agrees =
        let q = parts begun in
        let cd = agrees_both (flat_map mark_text ms) (flat_map row_text rs) text (17 * length ms) (joined_length mark_line ms) (at + 17 + 17 * length js) (at + 17 + 17 * length js + 17 * length ms) refl (17 * length rs) q.marks q.counts in
        let bcd = agrees_both (flat_map join_text js) (flat_map mark_text ms ++ flat_map row_text rs) text (17 * length js) (joined_length join_line js) (at + 17) (at + 17 + 17 * length js) refl (17 * length ms + 17 * length rs) q.joins cd in
        agrees_both (line_text (head_line n m)) (flat_map join_text js ++ (flat_map mark_text ms ++ flat_map row_text rs)) text 17 (line_length (head_line n m)) at (at + 17) refl
        (17 * length js + (17 * length ms + 17 * length rs)) q.head bcd

    long : length (query_text n m js ms rs) ≡ 17 + (17 * length js + (17 * length ms + 17 * length rs))
    long =
        let a = line_length (head_line n m) in
        let b = joined_length join_line js in
        let c = joined_length mark_line ms in
        let d = joined_length row_line rs in
        length-append (line_text (head_line n m)) (flat_map join_text js ++ (flat_map mark_text ms ++ flat_map row_text rs))
        ∙ ap (λ k. length (line_text (head_line n m)) + k) (length-append (flat_map join_text js) (flat_map mark_text ms ++ flat_map row_text rs)
        ∙ ap (λ k. length (flat_map join_text js) + k) (length-append (flat_map mark_text ms) (flat_map row_text rs)))
        ∙ omega arith

    pub begun_whole : place_after at js ms rs ≡ length text → drop at text ≡ query_text n m js ms rs
    begun_whole e =
        let k = 17 + (17 * length js + (17 * length ms + 17 * length rs)) in
        let rest : length (drop at text) ≤ k = simp length-drop (omega arith) in
        sym (take_all k (drop at text) rest) ∙ agrees_part (query_text n m js ms rs) text at k long (omega arith) begun_agrees
