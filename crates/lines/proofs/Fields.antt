-- Reading the fields of a line in each layout: what it amounts to.
use Rattle.std.proofs.Common.{◌≡◌, ℕ, zero, suc, ◌+◌, ◌<◌, ◌≤◌, true, false, eqb, List, [], ◌∷◌, get_or, pos, Some, None, Ok, Err, Option, Result, sym, refl, ap, ◌∙◌, subst, ⊎_elim, arith}
use Rattle.std.proofs.lemmas.Bool.{cases_Bool, cases_lt, eqb-true, eqb-false}
use Rattle.std.proofs.lemmas.Bool.Decides.{nat_tests}
use Rattle.lines.specs.declared.line.Layout.{Layout}
use Rattle.lines.specs.declared.line.Layout.TheVariants as layouts
use Rattle.lines.specs.declared.line.Fields.{Fields}
use Rattle.lines.specs.declared.line.Fields.TheVariants.{Three, LastTwo, FirstTwo, Counted, Single}
use Rattle.lines.specs.Text.{number_text, unused_text, optional_text, fields_text, layout_of, OptionFits, Fits}
use Rattle.lines.specs.declared.line.BadByte.{BadByte}
use Rattle.lines.specs.Read.{byte, blank_from, number_at, unused_at, or_number, optional_at, fields_at}
use Rattle.lines.specs.Form.{Agrees}
use Rattle.lines.proofs.Steps.{blank_done, blank_more, blank_stop}
use Rattle.lines.proofs.Pieces.{Kind, Piece, Parts, Joined, Sized, pairs, here, step, stop, joined, joined_three, agrees_less}
use Rattle.lines.proofs.Numbers.{numbers, number_read}
use Rattle.lines.proofs.Counts.{counts, count_read}
use Rattle.lines.proofs.Bytes.{optional_length}

-- blanks, as many as k
abbrev pub blanks : ℕ → List ℕ
blanks zero = []
blanks (suc k) = 32 ∷ blanks k

-- the kind with that one text
abbrev pub blank_places : ℕ → Kind Unit
blank_places k = record { Fit = λ _. Unit {0}; text_of = λ _. blanks k; width = k }

-- reading them
pub blanks_read : (text : List ℕ) (k i : ℕ) → Piece (blank_places k) text i (blank_from text i k)
blanks_read text zero i = rw (blank_done text i) (here text i (λ _. Unit {0}) (λ _. []) tt tt (λ y f. refl))
blanks_read text (suc k) i =
    ⊎_elim
    (λ (e : eqb (byte text i) 32 ≡ true).
    rw (blank_more text i k e)
    (step text i (λ _. Unit {0}) (λ _. 32) (λ _. blanks k) k (λ _. Unit {0}) (λ x. (λ h. tt, λ h. (tt, sym (eqb-true (byte text i) 32 e)))) (blank_from text (i + 1) k) (blanks_read text k (i + 1))))
    (λ (e : eqb (byte text i) 32 ≡ false).
    rw (blank_stop text i k e) (stop text i (λ _. Unit {0}) (λ _. 32) (λ _. blanks k) k tt tt (λ y f h. eqb-false (byte text i) 32 e (sym h))))
    (cases_Bool (eqb (byte text i) 32))

-- a field without a number
abbrev pub unused : Kind Unit
unused = record { Fit = λ _. Unit {0}; text_of = λ _. unused_text; width = 5 }

-- reading it
pub unused_read : (text : List ℕ) (i : ℕ) → Piece unused text i (unused_at text i)
unused_read text i = blanks_read text 5 i

-- a number or five blanks
abbrev pub optionals : Kind (Option ℕ)
optionals = record { Fit = OptionFits; text_of = optional_text; width = 5 }

-- four blanks begin the text of 0
zero_text : (j : ℕ) → j < 4 → get_or (number_text 0) j 0 ≡ get_or unused_text j 0
zero_text zero h = refl
zero_text (suc zero) h = refl
zero_text (suc (suc zero)) h = refl
zero_text (suc (suc (suc zero))) h = refl
zero_text (suc (suc (suc (suc j)))) h = absurd (omega arith)

-- and a number's last byte is no blank
number_blanks : (text : List ℕ) (i v : ℕ) → Agrees unused_text text i 5 → Agrees (number_text v) text i 5 → ⊥
number_blanks text i v a b = let e = a 4 (omega arith) in let h = b 4 (omega arith) in grind (arith, nat_tests)

module _ (text : List ℕ) (i : ℕ) where
  -- after five blanks there is no number
  only_blanks : Agrees unused_text text i 5 → (o : Option ℕ) → Agrees (optional_text o) text i 5 → o ≡ None
  only_blanks a None b = refl
  only_blanks a (Some v) b = absurd (number_blanks text i v a b)

  -- after a number there is nothing else
  only_number : (e : BadByte) (v : ℕ) → Piece unused text i (Err e) → Piece numbers text i (Ok v) → (o : Option ℕ) → OptionFits o → Agrees (optional_text o) text i 5 → o ≡ Some v
  only_number e v p q None f a = absurd (p.no_more (tt, tt, agrees_less unused_text text i (p.many + 1) 5 (omega arith) a))
  only_number e v p q (Some w) f a = ap Some (q.only w f a)

  -- where the number stops, so do the blanks
  no_optional : (e d : BadByte) (p : Piece unused text i (Err e)) (q : Piece numbers text i (Err d)) (o : Option ℕ) → OptionFits o → Agrees (optional_text o) text i (q.many + 1) → ⊥
  no_optional e d p q None f a =
      ⊎_elim
      (λ (l : q.many < 4). q.no_more (0, omega arith, λ j h. zero_text j (omega arith) ∙ a j h))
      (λ (l : 4 ≤ q.many). p.no_more (tt, tt, agrees_less unused_text text i (p.many + 1) (q.many + 1) (omega arith) a))
      (cases_lt q.many 4)
  no_optional e d p q (Some w) f a = q.no_more (w, f, a)

  -- the answers of both
  optional_from : (ru : Result Unit BadByte) (rn : Result ℕ BadByte) → Piece unused text i ru → Piece numbers text i rn → Piece optionals text i (or_number ru rn)
  optional_from (Ok u) rn p q = record { fits = tt; agrees = p.agrees; only = λ o f a. only_blanks p.agrees o a }
  optional_from (Err e) (Ok v) p q = record { fits = q.fits; agrees = q.agrees; only = only_number e v p q }
  optional_from (Err e) (Err d) p q =
      record {
        many = q.many;
        is_place = q.is_place;
        short = q.short;
        starts = (Some q.starts.0, q.starts.1, q.starts.2);
        no_more = λ s. no_optional e d p q s.0 s.1 s.2;
      }

  -- reading it
  pub optional_read : Piece optionals text i (optional_at text i)
  optional_read = optional_from (unused_at text i) (number_at text i) (unused_read text i) (number_read text i)

-- five characters each, and some value fits
number_sized : Sized numbers
number_sized = record { long = λ v. refl; some = (0, omega arith) }

two_numbers : (p : ℕ × ℕ) × ((p.0 ≤ 99999) × (p.1 ≤ 99999))
two_numbers = ((0, 0), (omega arith, omega arith))

unused_sized : Sized unused
unused_sized = record { long = λ u. refl; some = (tt, tt) }

-- the fields of one layout
abbrev pub fields_in : Layout → Kind Fields
fields_in y = record { Fit = λ f. (layout_of f ≡ y) × Fits f; text_of = fields_text; width = 15 }

-- such fields in parts: the first field and the others
abbrev Shape : Layout → Fields → Type 0
Shape layouts.Three f = Parts numbers (pairs numbers numbers) (λ a p. Three a p.0 p.1) f
Shape layouts.LastTwo f = Parts unused (pairs numbers numbers) (λ u p. LastTwo p.0 p.1) f
Shape layouts.FirstTwo f = Parts numbers (pairs numbers unused) (λ a p. FirstTwo a p.0) f
Shape layouts.Counted f = Parts numbers counts Counted f
Shape layouts.Single f = Parts optionals (pairs unused unused) (λ o p. Single o) f

shape : (f : Fields) → Fits f → Shape (layout_of f) f
shape (Three a b c) h = (a, (b, c), h.0, (h.1, h.2), refl)
shape (LastTwo v w) h = (tt, (v, w), tt, (h.0, h.1), refl)
shape (FirstTwo a b) h = (a, (b, tt), h.0, (h.1, tt), refl)
shape (Counted t z) h = (t, z, h.0, h.1, refl)
shape (Single o) h = (o, (tt, tt), h, (tt, tt), refl)

shaped : (y : Layout) (f : Fields) → (layout_of f ≡ y) × Fits f → Shape y f
shaped y f h = subst (λ y. Shape y f) h.0 (shape f h.1)

-- reading the fields of a layout
pub fields_read : (y : Layout) (text : List ℕ) (i : ℕ) → Piece (fields_in y) text i (fields_at y text i)
unfolding fields_at
fields_read layouts.Three text i =
    joined_three Three
    (record { long = number_sized.long; wide = refl; texts = λ a p. refl; fits = λ a p g h. (refl, (g, h.0, h.1)); parts = shaped layouts.Three; some = two_numbers })
    number_sized number_sized text i (i + 5) (i + 10) refl (omega arith) _ _ _ (number_read text i) (number_read text (i + 5)) (number_read text (i + 10))
fields_read layouts.LastTwo text i =
    joined_three (λ u v w. LastTwo v w)
    (record { long = unused_sized.long; wide = refl; texts = λ a p. refl; fits = λ a p g h. (refl, (h.0, h.1)); parts = shaped layouts.LastTwo; some = two_numbers })
    number_sized number_sized text i (i + 5) (i + 10) refl (omega arith) _ _ _ (unused_read text i) (number_read text (i + 5)) (number_read text (i + 10))
fields_read layouts.FirstTwo text i =
    joined_three (λ a b u. FirstTwo a b)
    (record { long = number_sized.long; wide = refl; texts = λ a p. refl; fits = λ a p g h. (refl, (g, h.0)); parts = shaped layouts.FirstTwo; some = ((0, tt), (omega arith, tt)) })
    number_sized unused_sized text i (i + 5) (i + 10) refl (omega arith) _ _ _ (number_read text i) (number_read text (i + 5)) (unused_read text (i + 10))
fields_read layouts.Counted text i =
    let J : Joined numbers counts (fields_in layouts.Counted) Counted =
    record { long = number_sized.long; wide = refl; texts = λ a p. refl; fits = λ a p g h. (refl, (g, h)); parts = shaped layouts.Counted; some = (pos 0, omega arith) } in
    joined J text i (i + 5) refl _ _ (number_read text i) (count_read text (i + 5))
fields_read layouts.Single text i =
    joined_three (λ o u w. Single o)
    (record { long = optional_length; wide = refl; texts = λ a p. refl; fits = λ a p g h. (refl, g); parts = shaped layouts.Single; some = ((tt, tt), (tt, tt)) })
    unused_sized unused_sized text i (i + 5) (i + 10) refl (omega arith) _ _ _ (optional_read text i) (unused_read text (i + 5)) (unused_read text (i + 10))
