-- Reading a line, byte by byte: the value, or the first byte that cannot stand there, by its place. `Form` says in other
-- words what this amounts to.
--
--   bad i                        the refusal of the byte at i
--   then r f                     the value of r goes on to f, and a refusal ends the reading
--   byte text i                  the byte at i, and 0 past the text's end
--   number_from text i k v       the last k places of a number field, where the places before have the value v (0: none yet)
--   count_from text i k neg v    the same of a row count; neg: a minus sign has been read
--   blank_from text i k          k blanks
--   number_at, count_at, unused_at, optional_at, fields_at   a field, and all fields of a layout
--   line_at text at              the line that begins at `at`
use Rattle.std.specs.Prelude.{ℕ, zero, suc, pred, ◌+◌, ◌-◌, ◌*◌, Bool, true, false, cond, not, ◌&&◌, ◌||◌, List, ℤ, pos, negsuc, Some, None, Ok, Err, Option, Result, ◌==◌, nat_le, slice_index}
use Rattle.lines.specs.Text.{layout}
use Rattle.lines.specs.declared.line.Layout.{Layout}
use Rattle.lines.specs.declared.line.Layout.TheVariants as layouts
use Rattle.lines.specs.declared.line.Fields.{Fields}
use Rattle.lines.specs.declared.line.Fields.TheVariants.{Three, LastTwo, FirstTwo, Counted, Single}
use Rattle.lines.specs.declared.line.Line.{Line}
use Rattle.lines.specs.declared.line.BadByte.{BadByte}

abbrev pub bad : ℕ → BadByte
bad i = record { place = i }

abbrev pub then : {X Y : Type 0} → Result X BadByte → (X → Result Y BadByte) → Result Y BadByte
then (Ok x) f = f x
then (Err p) f = Err p

abbrev pub byte : List ℕ → ℕ → ℕ
byte text i = slice_index text i

abbrev pub is_digit : ℕ → Bool
is_digit b = nat_le 48 b && nat_le b 57

-- k more places follow this one; a zero may be the first digit only at the last place
abbrev pub digit_may : ℕ → ℕ → ℕ → Bool
digit_may k v b = is_digit b && not (v == 0 && (b == 48 && not (k == 0)))

-- a blank may stand before the first digit, and not at the last place
abbrev pub blank_may : ℕ → ℕ → ℕ → Bool
blank_may k v b = b == 32 && (v == 0 && not (k == 0))

unfoldable pub number_from : List ℕ → ℕ → ℕ → ℕ → Result ℕ BadByte
number_from text i zero v = Ok v
number_from text i (suc k) v =
    cond (digit_may k v (byte text i)) (number_from text (i + 1) k (v * 10 + (byte text i - 48)))
    (cond (blank_may k v (byte text i)) (number_from text (i + 1) k v)
    (Err (bad i)))

abbrev pub number_at : List ℕ → ℕ → Result ℕ BadByte
number_at text i = number_from text i 5 0

abbrev pub signed : Bool → ℕ → ℤ
signed false v = pos v
signed true v = negsuc (pred v)

unfoldable pub count_from : List ℕ → ℕ → ℕ → Bool → ℕ → Result ℤ BadByte
count_from text i zero neg v = Ok (signed neg v)
count_from text i (suc k) neg v =
    cond (is_digit (byte text i) && not (v == 0 && (byte text i == 48 && (neg || not (k == 0))))) (count_from text (i + 1) k neg (v * 10 + (byte text i - 48)))
    (cond (blank_may k v (byte text i) && not neg) (count_from text (i + 1) k false v)
    (cond (byte text i == 45 && (not neg && (v == 0 && not (k == 0)))) (count_from text (i + 1) k true v)
    (Err (bad i))))

abbrev pub count_at : List ℕ → ℕ → Result ℤ BadByte
count_at text i = count_from text i 10 false 0

unfoldable pub blank_from : List ℕ → ℕ → ℕ → Result Unit BadByte
blank_from text i zero = Ok tt
blank_from text i (suc k) = cond (byte text i == 32) (blank_from text (i + 1) k) (Err (bad i))

abbrev pub unused_at : List ℕ → ℕ → Result Unit BadByte
unused_at text i = blank_from text i 5

-- five blanks, or a number
abbrev pub or_number : Result Unit BadByte → Result ℕ BadByte → Result (Option ℕ) BadByte
or_number (Ok u) number = Ok None
or_number (Err p) number = then number (λ v. Ok (Some v))

abbrev pub optional_at : List ℕ → ℕ → Result (Option ℕ) BadByte
optional_at text i = or_number (unused_at text i) (number_at text i)

unfoldable pub fields_at : Layout → List ℕ → ℕ → Result Fields BadByte
fields_at layouts.Three text i =
    then (number_at text i) (λ a. then (number_at text (i + 5)) (λ b. then (number_at text (i + 10)) (λ c. Ok (Three a b c))))
fields_at layouts.LastTwo text i =
    then (unused_at text i) (λ _. then (number_at text (i + 5)) (λ v. then (number_at text (i + 10)) (λ w. Ok (LastTwo v w))))
fields_at layouts.FirstTwo text i =
    then (number_at text i) (λ a. then (number_at text (i + 5)) (λ b. then (unused_at text (i + 10)) (λ _. Ok (FirstTwo a b))))
fields_at layouts.Counted text i =
    then (number_at text i) (λ t. then (count_at text (i + 5)) (λ z. Ok (Counted t z)))
fields_at layouts.Single text i =
    then (optional_at text i) (λ o. then (unused_at text (i + 5)) (λ _. then (unused_at text (i + 10)) (λ _. Ok (Single o))))

-- the line feed after the fields
abbrev pub ended : List ℕ → ℕ → Line → Result Line BadByte
ended text i l = cond (byte text i == 10) (Ok l) (Err (bad i))

abbrev pub line_in : List ℕ → ℕ → Option Layout → Result Line BadByte
line_in text at None = Err (bad at)
line_in text at (Some y) = then (fields_at y text (at + 1)) (λ f. ended text (at + 16) (record { letter = byte text at; fields = f }))

unfoldable pub line_at : List ℕ → ℕ → Result Line BadByte
line_at text at = line_in text at (layout (byte text at))
