-- What a call of the program `replay` leaves, whole: of a text that is lent, with the bytes that were read into it, and of the
-- step records that are lent.
use Rattle.std.specs.Prelude.{◌≡◌, ℕ, ◌+◌, ◌<◌, ◌≤◌, ◌⊎◌, List, length, take, Some, None, Option}
use Rattle.writer.specs.Laid.{laid}
use Rattle.texts.specs.ListRead.{list_read}
use Rattle.theory.specs.declared.step.Step.{Step}
use Rattle.programs.specs.Replay.{looked_at, replay_prints}
use Rattle.programs.specs.ReplayLaw.{Replays}

-- enough for the largest graph, or for the graph of any list of so many bytes: its text has 34 bytes more than the list's
abbrev pub Room : ℕ → ℕ → Type 0
Room len b = (34289 ≤ b) ⊎ (len + 34 ≤ b)

-- text and steps before, of which the first `len` bytes were read; the answer r; text and steps after
pub record Done (text : List ℕ) (len : ℕ) (steps : List Step) (r : ℕ) (text' : List ℕ) (steps' : List Step) : Type 0 where
  -- the answer is how many bytes are printed
  pub count : r ≡ length (replay_prints text len steps)
  -- they are all in the text
  pub within : r ≤ length text'
  -- they are laid over the text's first bytes, and bytes past them keep their contents
  pub lies : text' ≡ laid text 0 (replay_prints text len steps)
  -- the steps read fill the first records, and records past them keep their contents
  pub filled : steps' ≡ (list_read (looked_at text len) 0 steps).records
  -- where there is room, a graph is printed exactly where the text read is that of a legal build, and then the graph built
  pub law : Room len (length text) → Replays (looked_at text len) (take r text')

-- the same of a page of 4,096 bytes: where the graph's text, 34 bytes longer than the list's, may not fit, nothing is done
abbrev pub Paged : List ℕ → ℕ → List Step → Option ℕ → List ℕ → List Step → Type 0
Paged page len steps (Some r) page' steps' = (len + 34 ≤ 4096) × Done page len steps r page' steps'
Paged page len steps None page' steps' = (4096 < len + 34) × (page' ≡ page) × (steps' ≡ steps)
