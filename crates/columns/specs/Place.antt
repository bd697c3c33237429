-- Fields as the reader takes them, one place after another.
--
--   place_at text i k v     the byte at i as a place of a number, with k more places: the value after it, where v is the value of
--                           those before
--   mark_at text i k s      the same of a row count: s.0 says whether a minus sign has been read, and s.1 is the value
--   first_marks_at text i   what the first five places of the row count at i tell
--   marks_left text i s     the last five places of the row count at i, after what s tells of the first five
--   blank_at text i         one blank
--   Blank text i            the five bytes from i on are blanks
use Rattle.std.specs.Prelude.{◌≡◌, ℕ, ◌+◌, ◌-◌, ◌*◌, Bool, true, false, cond, not, ◌&&◌, ◌||◌, List, ℤ, Ok, Err, Result, ◌==◌}
use Rattle.lines.specs.declared.line.BadByte.{BadByte}
use Rattle.lines.specs.Read.{bad, then, byte, is_digit, digit_may, blank_may, count_from}

abbrev pub place_at : List ℕ → ℕ → ℕ → ℕ → Result ℕ BadByte
place_at text i k v =
    cond (digit_may k v (byte text i)) (Ok (v * 10 + (byte text i - 48)))
    (cond (blank_may k v (byte text i)) (Ok v)
    (Err (bad i)))

abbrev pub mark_at : List ℕ → ℕ → ℕ → Bool × ℕ → Result (Bool × ℕ) BadByte
mark_at text i k s =
    cond (is_digit (byte text i) && not (s.1 == 0 && (byte text i == 48 && (s.0 || not (k == 0)))))
    (Ok (s.0, s.1 * 10 + (byte text i - 48)))
    (cond (blank_may k s.1 (byte text i) && not s.0) (Ok (false, s.1))
    (cond (byte text i == 45 && (not s.0 && (s.1 == 0 && not (k == 0)))) (Ok (true, s.1))
    (Err (bad i))))

abbrev pub first_marks_at : List ℕ → ℕ → Result (Bool × ℕ) BadByte
first_marks_at text i =
    then (mark_at text i 9 (false, 0)) (λ a.
    then (mark_at text (i + 1) 8 a) (λ b.
    then (mark_at text (i + 2) 7 b) (λ c.
    then (mark_at text (i + 3) 6 c) (λ d.
    mark_at text (i + 4) 5 d))))

abbrev pub marks_left : List ℕ → ℕ → Bool × ℕ → Result ℤ BadByte
marks_left text i s = count_from text (i + 5) 5 s.0 s.1

abbrev pub blank_at : List ℕ → ℕ → Result Unit BadByte
blank_at text i = cond (byte text i == 32) (Ok tt) (Err (bad i))

pub record Blank (text : List ℕ) (i : ℕ) : Type 0 where
  pub first : byte text i ≡ 32
  pub second : byte text (i + 1) ≡ 32
  pub third : byte text (i + 2) ≡ 32
  pub fourth : byte text (i + 3) ≡ 32
  pub fifth : byte text (i + 4) ≡ 32
