-- The text of a line. A line is one letter, three fields of five characters and a line feed: 17 bytes.
--
--   layout c        the table of letters: how the fields after letter c are laid out, or none where c is not listed
--   layout_read c   the same, where a letter that is not listed is refused
--   numeral k v     the last k places of v in decimal, right-justified: a blank where all digits from there up are zero, but
--                   for the last place
--   number_text v   a number in its field of five characters
--   unused_text     a field without a number
--   count_text z    a stored row count in ten characters; a minus sign stands directly before the first digit
--   fields_text f   the fifteen characters after the letter
--   line_text l     the whole line
--   Fits f          each number is small enough for its place
--   Written l       l is a line that can be written: a listed letter, fields in its layout, numbers that fit
use Rattle.std.specs.Prelude.{◌≡◌, ℕ, zero, suc, pred, ◌+◌, ◌/◌, ◌%◌, ◌^◌, ◌≤◌, Bool, false, cond, not, ◌&&◌, ◌||◌, List, [], ◌∷◌, ◌++◌, ℤ, pos, negsuc, Some, None, Option, Result, ◌==◌}
use Rattle.std.specs.Option.{ok_or}
use Rattle.lines.specs.declared.line.Layout.{Layout}
use Rattle.lines.specs.declared.line.Layout.TheVariants as layouts
use Rattle.lines.specs.declared.line.Fields.{Fields}
use Rattle.lines.specs.declared.line.Fields.TheVariants.{Three, LastTwo, FirstTwo, Counted, Single}
use Rattle.lines.specs.declared.line.Line.{Line}
use Rattle.lines.specs.declared.line.UnlistedLetter.{UnlistedLetter}

abbrev pub is_any : ℕ → List ℕ → Bool
is_any c [] = false
is_any c (x ∷ xs) = c == x || is_any c xs

-- H T N D X; E J M; G; R; P
abbrev pub layout : ℕ → Option Layout
layout c =
    cond (is_any c (72 ∷ 84 ∷ 78 ∷ 68 ∷ 88 ∷ [])) (Some layouts.Three)
    (cond (is_any c (69 ∷ 74 ∷ 77 ∷ [])) (Some layouts.LastTwo)
    (cond (c == 71) (Some layouts.FirstTwo)
    (cond (c == 82) (Some layouts.Counted)
    (cond (c == 80) (Some layouts.Single)
    None))))

abbrev pub layout_read : ℕ → Result Layout UnlistedLetter
layout_read c = ok_or (layout c) (record { 0 = c })

-- at the place of 10 ^ k
abbrev pub place_text : ℕ → ℕ → ℕ
place_text k v = cond (v / 10 ^ k == 0 && not (k == 0)) 32 (48 + v / 10 ^ k % 10)

abbrev pub numeral : ℕ → ℕ → List ℕ
numeral zero v = []
numeral (suc k) v = place_text k v ∷ numeral k v

abbrev pub number_text : ℕ → List ℕ
number_text v = numeral 5 v

abbrev pub unused_text : List ℕ
unused_text = 32 ∷ 32 ∷ 32 ∷ 32 ∷ 32 ∷ []

-- below zero: the sign stands at the last place above the digits
abbrev pub place_below : ℕ → ℕ → ℕ
place_below k v = cond (v / 10 ^ k == 0 && not (v / 10 ^ (pred k) == 0)) 45 (place_text k v)

abbrev pub numeral_below : ℕ → ℕ → List ℕ
numeral_below zero v = []
numeral_below (suc k) v = place_below k v ∷ numeral_below k v

abbrev pub count_text : ℤ → List ℕ
count_text (pos n) = numeral 10 n
count_text (negsuc n) = numeral_below 10 (suc n)

abbrev pub optional_text : Option ℕ → List ℕ
optional_text None = unused_text
optional_text (Some v) = number_text v

abbrev pub fields_text : Fields → List ℕ
fields_text (Three a b c) = number_text a ++ (number_text b ++ number_text c)
fields_text (LastTwo v w) = unused_text ++ (number_text v ++ number_text w)
fields_text (FirstTwo a b) = number_text a ++ (number_text b ++ unused_text)
fields_text (Counted t z) = number_text t ++ count_text z
fields_text (Single o) = optional_text o ++ (unused_text ++ unused_text)

abbrev pub line_text : Line → List ℕ
line_text l = l.letter ∷ (fields_text l.fields ++ 10 ∷ [])

abbrev pub layout_of : Fields → Layout
layout_of (Three a b c) = layouts.Three
layout_of (LastTwo v w) = layouts.LastTwo
layout_of (FirstTwo a b) = layouts.FirstTwo
layout_of (Counted t z) = layouts.Counted
layout_of (Single o) = layouts.Single

-- five characters hold 99,999; ten hold 9,999,999,999, or a minus sign and 999,999,999
abbrev pub CountFits : ℤ → Type 0
CountFits (pos n) = n ≤ 9999999999
CountFits (negsuc n) = suc n ≤ 999999999

abbrev pub OptionFits : Option ℕ → Type 0
OptionFits None = Unit {0}
OptionFits (Some v) = v ≤ 99999

abbrev pub Fits : Fields → Type 0
Fits (Three a b c) = (a ≤ 99999) × (b ≤ 99999) × (c ≤ 99999)
Fits (LastTwo v w) = (v ≤ 99999) × (w ≤ 99999)
Fits (FirstTwo a b) = (a ≤ 99999) × (b ≤ 99999)
Fits (Counted t z) = (t ≤ 99999) × CountFits z
Fits (Single o) = OptionFits o

pub record Written (l : Line) : Type 0 where
  pub listed : layout l.letter ≡ Some (layout_of l.fields)
  pub fits : Fits l.fields
