-- Reading a line: what it amounts to, and that a line's text reads back as that line.
use Rattle.std.proofs.Common.{◌≡◌, ℕ, ◌+◌, Bool, true, false, cond, eqb, List, [], ◌∷◌, ◌++◌, Some, None, Ok, Err, Option, Result, sym, refl, ap, ◌∙◌, subst, ⊎_elim, arith}
use Rattle.std.proofs.lemmas.Bool.{cases_Bool, eqb-true, eqb-false}
use Rattle.lines.specs.declared.line.Layout.{Layout}
use Rattle.lines.specs.declared.line.Fields.{Fields}
use Rattle.lines.specs.declared.line.Fields.TheVariants.{Three}
use Rattle.lines.specs.declared.line.Line.{Line}
use Rattle.lines.specs.Text.{layout, layout_of, fields_text, line_text, Written}
use Rattle.lines.specs.declared.line.BadByte.{BadByte}
use Rattle.lines.specs.Read.{bad, then, byte, fields_at, ended, line_in, line_at}
use Rattle.lines.specs.Form.{Agrees, LineRead}
use Rattle.lines.proofs.Pieces.{Kind, Piece, Joined, here, step, stop, joined, agrees_less}
use Rattle.lines.proofs.Fields.{fields_in, fields_read}
use Rattle.lines.proofs.Bytes.{fields_length}

-- the line feed
abbrev feed : Kind Unit
feed = record { Fit = λ _. Unit {0}; text_of = λ _. 10 ∷ []; width = 1 }

-- reading it
abbrev feed_at : List ℕ → ℕ → Result Unit BadByte
feed_at text i = cond (eqb (byte text i) 10) (Ok tt) (Err (bad i))

feed_read : (text : List ℕ) (i : ℕ) → Piece feed text i (feed_at text i)
feed_read text i =
    ⊎_elim
    (λ (e : eqb (byte text i) 10 ≡ true).
    rw e (step text i (λ _. Unit {0}) (λ _. 10) (λ _. []) 0 (λ _. Unit {0}) (λ x. (λ h. tt, λ h. (tt, sym (eqb-true (byte text i) 10 e)))) (Ok tt) (here text (i + 1) (λ _. Unit {0}) (λ _. []) tt tt (λ y f. refl))))
    (λ (e : eqb (byte text i) 10 ≡ false). rw e (stop text i (λ _. Unit {0}) (λ _. 10) (λ _. []) 0 tt tt (λ y f h. eqb-false (byte text i) 10 e (sym h))))
    (cases_Bool (eqb (byte text i) 10))

-- lines that can be written
abbrev pub lines : Kind Line
lines = record { Fit = Written; text_of = line_text; width = 17 }

-- the text after the letter
abbrev after_letter : Line → List ℕ
after_letter l = fields_text l.fields ++ 10 ∷ []

-- some line can be written
some_line : Line
some_line = record { letter = 72; fields = Three 0 0 0 }

some_written : Written some_line
unfolding some_line
some_written = record { listed = refl; fits = (omega arith, omega arith, omega arith) }

-- the line of a letter and fields
abbrev lettered : ℕ → Fields → Line
lettered c f = record { letter = c; fields = f }

-- what follows a letter of the layout y
letter_joined : (c : ℕ) (y : Layout) → layout c ≡ Some y
    → Joined (fields_in y) feed (record { Fit = λ l. Written l × (l.letter ≡ c); text_of = after_letter; width = 16 }) (λ f u. lettered c f)
letter_joined c y e =
    record {
      long = fields_length;
      wide = refl;
      texts = λ f u. refl;
      fits = λ f u g h. (record { listed = e ∙ ap Some (sym g.0); fits = g.1 }, refl);
      parts = λ l g.
          let same : layout_of l.fields ≡ y =
          let s = g.0.listed in
          let t = ap layout g.1 in
          cc in
          (l.fields, tt, (same, g.0.fits), tt, λ i. record { letter = sym g.1 i; fields = l.fields });
      some = (tt, tt);
    }

module _ (text : List ℕ) (at : ℕ) where
  -- the line feed's answer, as `ended` has it
  feed_then : (b : Bool) (l : Line) (i : ℕ) → then {X = Unit {0}} (cond b (Ok tt) (Err (bad i))) (λ u. Ok l) ≡ cond b (Ok l) (Err (bad i))
  feed_then true l i = refl
  feed_then false l i = refl

  ended_is : (r : Result Fields BadByte) → then r (λ f. then (feed_at text (at + 16)) (λ u. Ok (lettered (byte text at) f))) ≡ then r (λ f. ended text (at + 16) (lettered (byte text at) f))
  ended_is (Ok f) = feed_then (eqb (byte text (at + 16)) 10) (lettered (byte text at) f) (at + 16)
  ended_is (Err p) = refl

  -- by the table of letters
  in_layout : (o : Option Layout) → layout (byte text at) ≡ o → Piece lines text at (line_in text at o)
  in_layout None e =
      stop text at Written (λ l. l.letter) after_letter 16 some_line some_written
      (λ l w h. let s = w.listed in let t = ap layout h in let z : ◌≡◌ {A = ℕ} 0 1 = cc in omega arith)
  in_layout (Some y) e =
      let rf = fields_at y text (at + 1) in
      let r = then rf (λ f. ended text (at + 16) (lettered (byte text at) f)) in
      let M : Kind Line = record { Fit = λ l. Written l × (l.letter ≡ byte text at); text_of = after_letter; width = 16 } in
      step text at Written (λ l. l.letter) after_letter 16 M.Fit (λ l. (λ h. h, λ h. h)) r
      (subst (Piece M text (at + 1)) (ended_is rf)
      (joined (letter_joined (byte text at) y e) text (at + 1) (at + 16) (omega arith) rf (feed_at text (at + 16)) (fields_read y text (at + 1)) (feed_read text (at + 16))))

  -- reading a line, as a piece
  pub line_piece : Piece lines text at (line_at text at)
  unfolding line_at
  line_piece = in_layout (layout (byte text at)) refl

  -- in the words of Form.antt
  line_reads : (r : Result Line BadByte) → Piece lines text at r → LineRead text at r
  line_reads (Ok l) p = (p.fits, p.agrees)
  line_reads (Err q) p = record { length_of = p.many; is_place = p.is_place; short = p.short; begins = p.starts; no_more = p.no_more }

  -- what reading a line amounts to
  pub line_read : LineRead text at (line_at text at)
  line_read = line_reads (line_at text at) line_piece

  -- no other answer can be given where a line stands
  only_line : (l : Line) → Written l → Agrees (line_text l) text at 17 → (r : Result Line BadByte) → Piece lines text at r → r ≡ Ok l
  only_line l w a (Ok k) p = ap Ok (sym (p.only l w a))
  only_line l w a (Err q) p = absurd (p.no_more (l, w, agrees_less (line_text l) text at (p.many + 1) 17 (omega arith) a))

  -- a line's text reads back as that line
  pub reads_back : (l : Line) → Written l → Agrees (line_text l) text at 17 → line_at text at ≡ Ok l
  reads_back l w a = only_line l w a (line_at text at) line_piece
