-- The text of a line has 17 bytes, none of them 0: so the beginning of a line lies within the text that it is read from.
use Rattle.std.proofs.Common.{◌≡◌, ℕ, zero, suc, ◌+◌, ◌-◌, ◌<◌, ◌≤◌, List, [], ◌∷◌, ◌++◌, length, get_or, pos, negsuc, Some, None, Option, refl, ⊎_elim, arith}
use Rattle.std.proofs.lemmas.Bool.{cases_lt}
use Rattle.std.proofs.lemmas.Bool.Decides.{nat_tests}
use Rattle.std.proofs.lemmas.List.{get_or_past, length-append}
use Rattle.lines.specs.declared.line.Layout.{Layout}
use Rattle.lines.specs.declared.line.Fields.{Fields}
use Rattle.lines.specs.declared.line.Fields.TheVariants.{Three, LastTwo, FirstTwo, Counted, Single}
use Rattle.lines.specs.declared.line.Line.{Line}
use Rattle.lines.specs.Text.{layout, place_text, place_below, numeral, numeral_below, number_text, unused_text, optional_text, fields_text, line_text, Written}
use Rattle.lines.specs.Form.{Begins}

-- a number or an unused field has five
pub optional_length : (o : Option ℕ) → length (optional_text o) ≡ 5
optional_length None = refl
optional_length (Some v) = refl

-- the fifteen characters after the letter
pub fields_length : (f : Fields) → length (fields_text f) ≡ 15
fields_length (Three a b c) = refl
fields_length (LastTwo v w) = refl
fields_length (FirstTwo a b) = refl
fields_length (Counted t (pos n)) = refl
fields_length (Counted t (negsuc n)) = refl
fields_length (Single None) = refl
fields_length (Single (Some v)) = refl

-- a line has 17 bytes
pub line_length : (l : Line) → length (line_text l) ≡ 17
line_length l = simp (length-append, fields_length)

-- bytes other than 0
abbrev Bytes : List ℕ → Type 0
Bytes [] = Unit {0}
Bytes (b ∷ l) = ((1 ≤ b) × (b < 256)) × Bytes l

-- each byte of such a list
bytes_at : (l : List ℕ) (j : ℕ) → Bytes l → j < length l → (1 ≤ get_or l j 0) × (get_or l j 0 < 256)
bytes_at [] j h k = absurd (omega arith)
bytes_at (b ∷ l) zero h k = h.0
bytes_at (b ∷ l) (suc j) h k = bytes_at l j h.1 (omega arith)

-- one list after another
bytes_both : (l m : List ℕ) → Bytes l → Bytes m → Bytes (l ++ m)
bytes_both [] m h k = k
bytes_both (b ∷ l) m h k = (h.0, bytes_both l m h.1 k)

-- what stands at a place
place_byte : (k v : ℕ) → (1 ≤ place_text k v) × (place_text k v < 256)
place_byte k v = grind (arith, nat_tests)

below_byte : (k v : ℕ) → (1 ≤ place_below k v) × (place_below k v < 256)
below_byte k v = grind (arith, nat_tests)

-- the fields
numeral_bytes : (k v : ℕ) → Bytes (numeral k v)
numeral_bytes zero v = tt
numeral_bytes (suc k) v = (place_byte k v, numeral_bytes k v)

below_bytes : (k v : ℕ) → Bytes (numeral_below k v)
below_bytes zero v = tt
below_bytes (suc k) v = (below_byte k v, below_bytes k v)

unused_bytes : Bytes unused_text
unused_bytes = let b : (1 ≤ 32) × (32 < 256) = omega arith in (b, (b, (b, (b, (b, tt)))))

fields_bytes : (f : Fields) → Bytes (fields_text f)
fields_bytes (Three a b c) = bytes_both (number_text a) (number_text b ++ number_text c) (numeral_bytes 5 a) (bytes_both (number_text b) (number_text c) (numeral_bytes 5 b) (numeral_bytes 5 c))
fields_bytes (LastTwo v w) = bytes_both unused_text (number_text v ++ number_text w) unused_bytes (bytes_both (number_text v) (number_text w) (numeral_bytes 5 v) (numeral_bytes 5 w))
fields_bytes (FirstTwo a b) = bytes_both (number_text a) (number_text b ++ unused_text) (numeral_bytes 5 a) (bytes_both (number_text b) unused_text (numeral_bytes 5 b) unused_bytes)
fields_bytes (Counted t (pos n)) = bytes_both (number_text t) (numeral 10 n) (numeral_bytes 5 t) (numeral_bytes 10 n)
fields_bytes (Counted t (negsuc n)) = bytes_both (number_text t) (numeral_below 10 (suc n)) (numeral_bytes 5 t) (below_bytes 10 (suc n))
fields_bytes (Single None) = bytes_both unused_text (unused_text ++ unused_text) unused_bytes (bytes_both unused_text unused_text unused_bytes unused_bytes)
fields_bytes (Single (Some v)) = bytes_both (number_text v) (unused_text ++ unused_text) (numeral_bytes 5 v) (bytes_both unused_text unused_text unused_bytes unused_bytes)

-- the listed letters
pub letter_byte : (c : ℕ) (y : Layout) → layout c ≡ Some y → (1 ≤ c) × (c < 256)
letter_byte c y e = grind (arith, nat_tests)

-- each byte of a line is at least 1 and below 256
pub line_bytes : (l : Line) → Written l → (j : ℕ) → j < 17 → (1 ≤ get_or (line_text l) j 0) × (get_or (line_text l) j 0 < 256)
line_bytes l w j h =
    let feed : (1 ≤ 10) × (10 < 256) = omega arith in
    bytes_at (line_text l) j (letter_byte l.letter _ w.listed, bytes_both (fields_text l.fields) (10 ∷ []) (fields_bytes l.fields) (feed, tt)) (rw (line_length l) h)

-- past a text's end stands the byte 0, which no line has
pub begins_within : (text : List ℕ) (at k : ℕ) → k ≤ 17 → Begins text at k → 1 ≤ k → at + k ≤ length text
begins_within text at k s b p =
    ⊎_elim
    (λ (h : length text < at + k).
    let l = b.0 in
    let e : get_or (line_text l) (k - 1) 0 ≡ get_or text (at + (k - 1)) 0 = b.2 (k - 1) (omega arith) in
    let z : get_or text (at + (k - 1)) 0 ≡ 0 = get_or_past text (at + (k - 1)) 0 (omega arith) in
    let n = line_bytes l b.1 (k - 1) (omega arith) in
    absurd (omega arith))
    (λ h. h)
    (cases_lt (length text) (at + k))
