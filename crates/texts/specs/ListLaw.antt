-- What reading and writing a list amount to: an accepted text is the one that would be written, a written text reads
-- back as the same list, and a refused text has the fault that is told, with nothing amiss before it.
--
--   SameText text at l l' told       where a list is told: its text stands from `at` on to the end told, it can be written, and
--                                    the records past its steps are as they were
--   ReadsBack n t l out told         where a list was written into `out`: reading it, into any records enough for it, gives it
--   Here text at l                   the line l can be written, and stands at `at`
--   Due j c                          c is a letter due at the j-th line of a list
--   DueLine text at j                the j-th line of the list that begins at `at` is in form, with a letter due there
--   Headed text at n m k             an H line with these numbers stands at `at`
--   Stood text at room i             the first i lines of a list are as they should be, and the i-th is one of its lines
--   IsBadForm, WrongLetter, HeadOutside, IsTooFew   what the refusals 15, 16, 17 and 9 of a list say
--   RefusedText text at room told    where a list is refused: the fault told is there
--   Follows text at told             what stands where nothing may follow
use Rattle.std.specs.Prelude.{◌≡◌, ℕ, zero, suc, ◌+◌, ◌*◌, ◌<◌, ◌≤◌, true, false, ◌⊎◌, List, ◌++◌, length, take, drop, Ok, Err, Result, ◌≢◌}
use Rattle.lines.specs.Form.{Agrees, Longest}
use Rattle.lines.specs.Text.{line_text, Written}
use Rattle.lines.specs.declared.line.Fields.TheVariants.{Three}
use Rattle.lines.specs.declared.line.Line.{Line}
use Rattle.theory.specs.declared.step.Step.{Step}
use Rattle.theory.specs.declared.step.Triangle.{Triangle}
use Rattle.texts.specs.ListText.{list_text, Listable}
use Rattle.texts.specs.ListRead.{outside_limits, list_read}
use Rattle.texts.specs.ListWrite.{list_write_answer}
use Rattle.texts.specs.declared.fault.TextFault.{TextFault}
use Rattle.texts.specs.declared.fault.TextFault.TheVariants.{BadForm, Misplaced, OutOfLimits, TooFew}
use Rattle.texts.specs.declared.list.Heading.{Heading}

pub record ListStands (text : List ℕ) (at : ℕ) (before after : List Step) (h : Heading) : Type 0 where
  pub ends : h.end ≡ at + 34 + 17 * h.steps
  pub inside : h.end ≤ length text
  pub room : h.steps ≤ length before
  pub stands : take (34 + 17 * h.steps) (drop at text) ≡ list_text h.tables h.triangle (take h.steps after)
  pub listable : Listable h.tables h.triangle (take h.steps after)
  -- so writing it, into any bytes enough for it, is accepted
  pub writes : (b : ℕ) → 34 + 17 * h.steps ≤ b → list_write_answer h.tables h.triangle (take h.steps after) b ≡ Ok (34 + 17 * h.steps)
  pub others : drop h.steps after ≡ drop h.steps before

abbrev pub SameText : List ℕ → ℕ → List Step → List Step → Result Heading TextFault → Type 0
SameText text at before after (Ok h) = ListStands text at before after h
SameText text at before after (Err e) = Unit {0}

abbrev pub ReadsBack : ℕ → Triangle → List Step → List ℕ → Result ℕ TextFault → Type 0
ReadsBack n t l out (Ok k) = (records : List Step) → length l ≤ length records
    → list_read out 0 records ≡ record { told = Ok (record { tables = n; triangle = t; steps = length l; end = k }); records = l ++ drop (length l) records }
ReadsBack n t l out (Err e) = Unit {0}

-- ---- refusals

pub record Here (text : List ℕ) (at : ℕ) (l : Line) : Type 0 where
  -- a listed letter, fields in its layout, numbers that fit
  pub written : Written l
  -- its bytes are those of the text
  pub agrees : Agrees (line_text l) text at 17

-- H, then T, then N or E; the letter decides the layout
abbrev pub Due : ℕ → ℕ → Type 0
Due zero c = c ≡ 72
Due (suc zero) c = c ≡ 84
Due (suc (suc j)) c = (c ≡ 78) ⊎ (c ≡ 69)

pub record DueLine (text : List ℕ) (at j : ℕ) : Type 0 where
  -- the line
  pub line : Line
  -- it stands at its place
  pub here : Here text (at + 17 * j) line
  -- with a letter due there
  pub due : Due j line.letter

abbrev pub Headed : List ℕ → ℕ → ℕ → ℕ → ℕ → Type 0
Headed text at n m k = Here text at (record { letter = 72; fields = Three n m k })

-- a head that is accepted
pub record GoodHead (text : List ℕ) (at room i : ℕ) : Type 0 where
  -- its numbers
  pub tables : ℕ
  pub joins : ℕ
  pub steps : ℕ
  -- it stands there
  pub here : Headed text at tables joins steps
  -- its numbers are within their limits
  pub inside : outside_limits tables joins steps ≡ false
  -- there are records enough for the steps
  pub enough : steps ≤ room
  -- the i-th line, from 0 on, is the T line or that of a step
  pub one_of : i < steps + 2

pub record Stood (text : List ℕ) (at room i : ℕ) : Type 0 where
  -- each line before the i-th is in form, with a letter due there
  pub lines : (j : ℕ) → j < i → DueLine text at j
  -- past the first line: the head was accepted, and the list has an i-th line
  pub head : 1 ≤ i → GoodHead text at room i

-- 15
pub record IsBadForm (text : List ℕ) (at room place : ℕ) : Type 0 where
  -- which line
  pub line : ℕ
  -- those before it are as they should be
  pub stood : Stood text at room line
  -- the place is that of its first byte that no line begun so can have
  pub breaks : Longest text (at + 17 * line) place

-- 16
pub record WrongLetter (text : List ℕ) (at room place : ℕ) : Type 0 where
  -- which line
  pub line : ℕ
  -- those before it are as they should be
  pub stood : Stood text at room line
  -- the place is where it begins
  pub is_place : place ≡ at + 17 * line
  -- what stands there is in form
  pub found : Line
  pub here : Here text place found
  -- but has no letter due there
  pub not_due : Due line found.letter → ⊥

-- 17
pub record HeadOutside (text : List ℕ) (at place : ℕ) : Type 0 where
  -- the place is that of the head
  pub is_place : place ≡ at
  -- its numbers
  pub tables : ℕ
  pub joins : ℕ
  pub steps : ℕ
  -- it stands there
  pub here : Headed text at tables joins steps
  -- some number is outside its limits
  pub outside : outside_limits tables joins steps ≡ true

-- 9
pub record IsTooFew (text : List ℕ) (at room needed : ℕ) : Type 0 where
  -- the head's other numbers
  pub tables : ℕ
  pub joins : ℕ
  -- it stands there, with as many steps as are told
  pub here : Headed text at tables joins needed
  -- its numbers are within their limits
  pub inside : outside_limits tables joins needed ≡ false
  -- there are fewer records
  pub less : room < needed

abbrev pub RefusedFor : List ℕ → ℕ → ℕ → TextFault → Type 0
RefusedFor text at room (BadForm p) = IsBadForm text at room p
RefusedFor text at room (Misplaced p) = WrongLetter text at room p
RefusedFor text at room (OutOfLimits p) = HeadOutside text at p
RefusedFor text at room (TooFew k) = IsTooFew text at room k

abbrev pub RefusedText : {X : Type 0} → List ℕ → ℕ → ℕ → Result X TextFault → Type 0
RefusedText text at room (Ok x) = Unit {0}
RefusedText text at room (Err f) = RefusedFor text at room f

-- ---- the end

-- 15: what stands there is not in form; 16: it is a line in form
abbrev pub FollowsFor : List ℕ → ℕ → TextFault → Type 0
FollowsFor text at (BadForm p) = Longest text at p × (at ≢ length text)
FollowsFor text at (Misplaced p) = (p ≡ at) × (l : Line) × Here text at l
FollowsFor text at (OutOfLimits p) = ⊥
FollowsFor text at (TooFew k) = ⊥

abbrev pub Follows : List ℕ → ℕ → Result Unit TextFault → Type 0
Follows text at (Ok u) = at ≡ length text
Follows text at (Err f) = FollowsFor text at f
