-- What a call of the program `drive` leaves, whole: of a text that is lent, with the bytes that were read into it, and of the step
-- records and mark records that are lent.
use Rattle.std.specs.Prelude.{◌≡◌, ℕ, ◌<◌, ◌≤◌, List, length, take, Some, None, Option}
use Rattle.theory.specs.declared.mark.Mark.{Mark}
use Rattle.theory.specs.declared.step.Step.{Step}
use Rattle.writer.specs.Laid.{laid}
use Rattle.programs.specs.Replay.{looked_at}
use Rattle.assembler.specs.Assemble.{query_in}
use Rattle.driver.specs.Drive.{drive_prints}
use Rattle.driver.specs.DriveLaw.{Reports}

-- text, steps and marks before, of which the first `len` bytes were read; the answer r; text, steps and marks after
pub record Driven (text : List ℕ) (len : ℕ) (steps : List Step) (marks : List Mark) (r : ℕ)
    (text' : List ℕ) (steps' : List Step) (marks' : List Mark) : Type 0 where
  -- the answer is how many bytes are printed
  pub count : r ≡ length (drive_prints text len marks)
  -- they are all in the text
  pub within : r ≤ length text'
  -- they are laid over the text's first bytes, and bytes past them keep their contents
  pub lies : text' ≡ laid text 0 (drive_prints text len marks)
  -- the step records keep their contents
  pub kept : steps' ≡ steps
  -- the query's marks fill the first records, and records past them keep their contents
  pub marked : marks' ≡ (query_in (looked_at text len) marks).marks
  -- two lines have room for the report of one table, and the report of more tables is no longer than its query, which stands in the text;
  -- so, in 34 bytes or more: the report and the pick are printed, or the line of the refusal, as the text read is
  pub law : 34 ≤ length text → Reports (looked_at text len) (take r text')

-- the same of a page of 4,096 bytes: where it is full, more may follow, and nothing is done
abbrev pub Paged : List ℕ → ℕ → List Step → List Mark → Option ℕ → List ℕ → List Step → List Mark → Type 0
Paged page len steps marks (Some r) page' steps' marks' = (len < 4096) × Driven page len steps marks r page' steps' marks'
Paged page len steps marks None page' steps' marks' = (4096 ≤ len) × (page' ≡ page) × (steps' ≡ steps) × (marks' ≡ marks)
