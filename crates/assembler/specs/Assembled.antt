-- What a call of the program `assemble` leaves, whole: of a text that is lent, with the bytes that were read into it, and of the
-- step records and mark records that are lent.
use Rattle.std.specs.Prelude.{◌≡◌, ℕ, ◌<◌, ◌≤◌, List, length, take, Some, None, Option}
use Rattle.theory.specs.declared.mark.Mark.{Mark}
use Rattle.theory.specs.declared.step.Step.{Step}
use Rattle.writer.specs.Laid.{laid}
use Rattle.programs.specs.Replay.{looked_at}
use Rattle.assembler.specs.Assemble.{query_in, assemble_told, steps_left, assemble_prints}
use Rattle.assembler.specs.AssembleLaw.{Assembles, OneKeyInBytes, ReplaysToJoins}

-- text, steps and marks before, of which the first `len` bytes were read; the answer r; text, steps and marks after
pub record Assembled (text : List ℕ) (len : ℕ) (steps : List Step) (marks : List Mark) (r : ℕ)
    (text' : List ℕ) (steps' : List Step) (marks' : List Mark) : Type 0 where
  -- the answer is how many bytes are printed
  pub count : r ≡ length (assemble_prints text len steps marks)
  -- they are all in the text
  pub within : r ≤ length text'
  -- they are laid over the text's first bytes, and bytes past them keep their contents
  pub lies : text' ≡ laid text 0 (assemble_prints text len steps marks)
  -- the list's steps fill the first records, and records past them, or all where none is given, keep their contents
  pub filled : steps' ≡ steps_left (looked_at text len) steps marks
  -- the query's marks fill the first records, and records past them keep their contents
  pub marked : marks' ≡ (query_in (looked_at text len) marks).marks
  -- where a line has room, the list is printed or the line of the refusal, as the text read is
  pub law : 17 ≤ length text → Assembles (looked_at text len) (take r text')
  -- a list that is printed is the key of its graph
  pub key : OneKeyInBytes (assemble_told (looked_at text len) steps marks) (take r text')
  -- and `replay` makes the graph of it again
  pub replays : ReplaysToJoins (assemble_told (looked_at text len) steps marks) (take r text')

-- the same of a page of 4,096 bytes: where it is full, more may follow, and nothing is done
abbrev pub Paged : List ℕ → ℕ → List Step → List Mark → Option ℕ → List ℕ → List Step → List Mark → Type 0
Paged page len steps marks (Some r) page' steps' marks' = (len < 4096) × Assembled page len steps marks r page' steps' marks'
Paged page len steps marks None page' steps' marks' = (4096 ≤ len) × (page' ≡ page) × (steps' ≡ steps) × (marks' ≡ marks)
