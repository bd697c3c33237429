-- Bytes laid over a buffer, and a line from its letter and its fields.
--
--   laid xs at ys            xs with ys laid over it from `at` on
--   laid_whole xs at ys      the same of the 17 bytes of a line, or nothing where there is no room for them
--   laid_line xs at l        the line l laid so
--   line_of c f              the line of letter c with the fields f
--   columns_text l           the characters of columns of five: a number each, or an unused field
--   laid_columns xs at c l   the line of letter c with the columns l laid so
--   three_laid, last_two_laid, first_two_laid, single_laid   of three columns, the line of the fields that they are
use Rattle.std.specs.Prelude.{◌≡◌, cond, List, [], ◌∷◌, ◌++◌, ℕ, ◌+◌, Some, None, Option, leb, length, set, refl}
use Rattle.lines.specs.Text.{optional_text, line_text}
use Rattle.lines.specs.declared.line.Fields.{Fields}
use Rattle.lines.specs.declared.line.Fields.TheVariants.{Three, LastTwo, FirstTwo, Single}
use Rattle.lines.specs.declared.line.Line.{Line}

-- all other places are as they were, and nothing is laid past the end
abbrev pub laid : List ℕ → ℕ → List ℕ → List ℕ
laid xs at [] = xs
laid xs at (y ∷ ys) = laid (set xs at y) (at + 1) ys

abbrev pub laid_whole : List ℕ → ℕ → List ℕ → List ℕ
laid_whole xs at ys = cond (leb (at + 17) (length xs)) (laid xs at ys) xs

abbrev pub laid_line : List ℕ → ℕ → Line → List ℕ
laid_line xs at l = laid_whole xs at (line_text l)

abbrev pub line_of : ℕ → Fields → Line
line_of c f = record { letter = c; fields = f }

abbrev pub columns_text : List (Option ℕ) → List ℕ
columns_text [] = []
columns_text (o ∷ l) = optional_text o ++ columns_text l

abbrev pub laid_columns : List ℕ → ℕ → ℕ → List (Option ℕ) → List ℕ
laid_columns xs at c l = laid_whole xs at (c ∷ (columns_text l ++ 10 ∷ []))

module _ (xs : List ℕ) (at letter : ℕ) where
  pub three_laid : (a b c : ℕ)
      → laid_columns xs at letter (Some a ∷ Some b ∷ Some c ∷ []) ≡ laid_line xs at (line_of letter (Three a b c))
  three_laid a b c = refl

  pub last_two_laid : (v w : ℕ)
      → laid_columns xs at letter (None ∷ Some v ∷ Some w ∷ []) ≡ laid_line xs at (line_of letter (LastTwo v w))
  last_two_laid v w = refl

  pub first_two_laid : (a b : ℕ)
      → laid_columns xs at letter (Some a ∷ Some b ∷ None ∷ []) ≡ laid_line xs at (line_of letter (FirstTwo a b))
  first_two_laid a b = refl

  pub single_laid : (o : Option ℕ)
      → laid_columns xs at letter (o ∷ None ∷ None ∷ []) ≡ laid_line xs at (line_of letter (Single o))
  single_laid None = refl
  single_laid (Some v) = refl
