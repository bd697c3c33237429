-- Reading a build list's text from an offset on: line by line, each judged by its form, its letter and its values in turn.
-- Earlier lines keep their effect on the records. `ListLaw` says in other words what this amounts to.
--
--   head_at text at room        the H line: 15, 16, 17, then 9 where there are fewer records than steps
--   triangle_at, step_at        a T line; an N or E line
--   steps_read text at k i l    k step lines, laid into the records l from the i-th on
--   list_read text at l         the whole list: what is told, and the records after
--   end_at text at              nothing may follow: 15 where what follows is not in form, else 16
use Rattle.std.specs.Prelude.{ℕ, zero, suc, ◌+◌, ◌-◌, ◌*◌, Bool, cond, not, ◌||◌, List, length, Ok, Err, Result, ◌==◌, nat_lt, slice_set}
use Rattle.lines.specs.Read.{line_at}
use Rattle.lines.specs.declared.line.Fields.{Fields}
use Rattle.lines.specs.declared.line.Fields.TheVariants.{Three, LastTwo, FirstTwo, Counted, Single}
use Rattle.lines.specs.declared.line.BadByte.{BadByte}
use Rattle.lines.specs.declared.line.Line.{Line}
use Rattle.theory.specs.declared.step.Step.{Step}
use Rattle.theory.specs.declared.step.Step.TheVariants.{Edge, Node}
use Rattle.theory.specs.declared.step.Triangle.{Triangle}
use Rattle.texts.specs.Fault.{next, in_form}
use Rattle.texts.specs.declared.fault.TextFault.{TextFault}
use Rattle.texts.specs.declared.fault.TextFault.TheVariants.{BadForm, Misplaced, OutOfLimits, TooFew}
use Rattle.texts.specs.declared.list.Head.{Head}
use Rattle.texts.specs.declared.list.Heading.{Heading}

-- tables outside 3 to 64, joins over 2,016, or steps not joins − 3
abbrev pub outside_limits : ℕ → ℕ → ℕ → Bool
outside_limits n m k = nat_lt n 3 || (nat_lt 64 n || (nat_lt 2016 m || (nat_lt m 3 || not (k == m - 3))))

abbrev pub head_values : ℕ → ℕ → ℕ → ℕ → ℕ → Result Head TextFault
head_values at room n m k =
    cond (outside_limits n m k) (Err (OutOfLimits at))
    (cond (nat_lt room k) (Err (TooFew k))
    (Ok (record { tables = n; steps = k })))

abbrev pub head_of : ℕ → ℕ → ℕ → Fields → Result Head TextFault
head_of at room c (Three n m k) = cond (c == 72) (head_values at room n m k) (Err (Misplaced at))
head_of at room c (LastTwo v w) = Err (Misplaced at)
head_of at room c (FirstTwo a b) = Err (Misplaced at)
head_of at room c (Counted t z) = Err (Misplaced at)
head_of at room c (Single o) = Err (Misplaced at)

abbrev pub head_at : List ℕ → ℕ → ℕ → Result Head TextFault
head_at text at room = next (in_form (line_at text at)) (λ l. head_of at room l.letter l.fields)

abbrev pub triangle_of : ℕ → ℕ → Fields → Result Triangle TextFault
triangle_of at c (Three u v w) = cond (c == 84) (Ok (record { a = u; b = v; c = w })) (Err (Misplaced at))
triangle_of at c (LastTwo v w) = Err (Misplaced at)
triangle_of at c (FirstTwo a b) = Err (Misplaced at)
triangle_of at c (Counted t z) = Err (Misplaced at)
triangle_of at c (Single o) = Err (Misplaced at)

abbrev pub triangle_at : List ℕ → ℕ → Result Triangle TextFault
triangle_at text at = next (in_form (line_at text at)) (λ l. triangle_of at l.letter l.fields)

abbrev pub step_of : ℕ → ℕ → Fields → Result Step TextFault
step_of at c (Three u v w) = cond (c == 78) (Ok (Node u v w)) (Err (Misplaced at))
step_of at c (LastTwo v w) = cond (c == 69) (Ok (Edge v w)) (Err (Misplaced at))
step_of at c (FirstTwo a b) = Err (Misplaced at)
step_of at c (Counted t z) = Err (Misplaced at)
step_of at c (Single o) = Err (Misplaced at)

abbrev pub step_at : List ℕ → ℕ → Result Step TextFault
step_at text at = next (in_form (line_at text at)) (λ l. step_of at l.letter l.fields)

pub record StepsTold : Type 0 where
  pub told : Result Unit TextFault
  pub records : List Step

abbrev pub onward : Result Step TextFault → (Step → StepsTold) → List Step → StepsTold
onward (Ok s) f l = f s
onward (Err e) f l = record { told = Err e; records = l }

unfoldable pub steps_read : List ℕ → ℕ → ℕ → ℕ → List Step → StepsTold
steps_read text at zero i l = record { told = Ok tt; records = l }
steps_read text at (suc k) i l = onward (step_at text at) (λ s. steps_read text (at + 17) k (i + 1) (slice_set l i s)) l

pub record ListTold : Type 0 where
  pub told : Result Heading TextFault
  pub records : List Step

abbrev pub heading : Head → Triangle → ℕ → Heading
heading h t at = record { tables = h.tables; triangle = t; steps = h.steps; end = at }

abbrev pub list_after : Head → Triangle → ℕ → StepsTold → ListTold
list_after h t at s = record { told = next s.told (λ _. Ok (heading h t at)); records = s.records }

abbrev pub list_with : Result Triangle TextFault → (Triangle → ListTold) → List Step → ListTold
list_with (Ok t) f l = f t
list_with (Err e) f l = record { told = Err e; records = l }

abbrev pub list_headed : Result Head TextFault → (Head → ListTold) → List Step → ListTold
list_headed (Ok h) f l = f h
list_headed (Err e) f l = record { told = Err e; records = l }

unfoldable pub list_read : List ℕ → ℕ → List Step → ListTold
list_read text at l =
    list_headed (head_at text at (length l)) (λ h.
    list_with (triangle_at text (at + 17)) (λ t.
    list_after h t (at + 34 + 17 * h.steps) (steps_read text (at + 34) h.steps 0 l)) l) l

abbrev pub end_of : ℕ → Result Line BadByte → Result Unit TextFault
end_of at (Ok l) = Err (Misplaced at)
end_of at (Err bad) = Err (BadForm bad.place)

abbrev pub end_at : List ℕ → ℕ → Result Unit TextFault
end_at text at = cond (at == length text) (Ok tt) (end_of at (line_at text at))
