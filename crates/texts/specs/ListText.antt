-- The text of a build list.
--
--   head_line n k, triangle_line t, step_line s   the lines of n tables and k steps, of a triangle, of a step
--   list_text n t l                               the whole text
--   Listable n t l                                the list can be written: 3 to 64 tables, at most 2,016 joins, and no number over 99,999
use Rattle.std.specs.Prelude.{ℕ, ◌+◌, ◌≤◌, List, [], ◌∷◌, ◌++◌, length}
use Rattle.std.specs.List.{flat_map}
use Rattle.lines.specs.Text.{line_text, Fits}
use Rattle.lines.specs.declared.line.Line.{Line}
use Rattle.lines.specs.declared.line.Fields.TheVariants.{Three, LastTwo}
use Rattle.theory.specs.declared.step.Step.{Step}
use Rattle.theory.specs.declared.step.Step.TheVariants.{Edge, Node}
use Rattle.theory.specs.declared.step.Triangle.{Triangle}

-- H: tables, joins, steps; each step adds one join to the three of the triangle
abbrev pub head_line : ℕ → ℕ → Line
head_line n k = record { letter = 72; fields = Three n (k + 3) k }

-- T: the triangle
abbrev pub triangle_line : Triangle → Line
triangle_line t = record { letter = 84; fields = Three t.a t.b t.c }

-- E: unused, v, w; N: u, v, w
abbrev pub step_line : Step → Line
step_line (Edge v w) = record { letter = 69; fields = LastTwo v w }
step_line (Node u v w) = record { letter = 78; fields = Three u v w }

abbrev pub step_text : Step → List ℕ
step_text s = line_text (step_line s)

abbrev pub list_text : ℕ → Triangle → List Step → List ℕ
list_text n t l = line_text (head_line n (length l)) ++ (line_text (triangle_line t) ++ flat_map step_text l)

pub data EachFits : List Step → Type 0 where
  none : EachFits []
  more : {s : Step} {l : List Step} → Fits (step_line s).fields → EachFits l → EachFits (s ∷ l)

pub record Listable (n : ℕ) (t : Triangle) (l : List Step) : Type 0 where
  pub least : 3 ≤ n
  pub most : n ≤ 64
  pub few : length l + 3 ≤ 2016
  pub triangle_fits : Fits (triangle_line t).fields
  pub steps_fit : EachFits l
