-- What the program `replay` prints, for the bytes read. `ReplayLaw` says in other words what this amounts to.
--
--   meant r               an answer with a table of bits, by its meaning
--   left p                the graph that a replay leaves, or its refusal
--   replay_told text l    the text read as a list, into the records l, and played back into a new table of bits
--   printed r             the graph's text, or the line of the refusal
--   shown b r             what is printed into b bytes: 9 for a graph that does not fit, nothing where no line fits
--   looked_at text len    of a text into which `len` bytes were read, what is looked at
--   replay_prints text len l   what is printed
use Rattle.std.specs.Prelude.{ℕ, min, cond, List, [], length, take, Ok, Err, Result, nat_lt}
use Rattle.bits.specs.Table.{graph_of}
use Rattle.bits.specs.declared.table.BitTable.{BitTable}
use Rattle.construction.specs.Replay.{Played, replayed}
use Rattle.refusals.specs.declared.fault.ReplayFault.{ReplayFault}
use Rattle.lines.specs.Text.{line_text}
use Rattle.prints.specs.GraphText.{text_of_graph, graph_length}
use Rattle.prints.specs.Refusal.{refusal_line}
use Rattle.texts.specs.ListRead.{list_read, end_at}
use Rattle.texts.specs.declared.fault.TextFault.{TextFault}
use Rattle.texts.specs.declared.fault.TextFault.TheVariants.{TooFew}
use Rattle.texts.specs.declared.list.Heading.{Heading}
use Rattle.theory.specs.Graph.{Graph, no_joins, clamped}
use Rattle.theory.specs.declared.step.Step.{Step}
use Rattle.outcomes.specs.Fault.{fault_number, fault_layer, fault_place}
use Rattle.outcomes.specs.declared.fault.ProgramFault.{ProgramFault}
use Rattle.outcomes.specs.declared.fault.ProgramFault.TheVariants.{Text, Replay}

abbrev pub meant : {F : Type 0} → Result BitTable F → Result Graph F
meant (Ok b) = Ok (graph_of b)
meant (Err f) = Err f

-- a refusal carried on, or what follows
abbrev pub text_then : {X Y : Type 0} → Result X TextFault → (X → Result Y ProgramFault) → Result Y ProgramFault
text_then (Ok x) f = f x
text_then (Err e) f = Err (Text e)

abbrev pub replay_last : {X : Type 0} → Result X ReplayFault → Result X ProgramFault
replay_last (Ok x) = Ok x
replay_last (Err e) = Err (Replay e)

-- the graph that a replay leaves, where it is accepted
abbrev pub left_by : Result Unit ReplayFault → Graph → Result Graph ReplayFault
left_by (Ok u) g = Ok g
left_by (Err e) g = Err e

abbrev pub left : Played → Result Graph ReplayFault
left p = left_by p.told p.graph

abbrev pub list_played : Heading → List Step → Played
list_played h records = replayed 2016 (no_joins (clamped h.tables)) h.triangle (take h.steps records)

-- the list, then nothing more, then the replay
unfoldable pub replay_told : List ℕ → List Step → Result Graph ProgramFault
replay_told text l =
    text_then (list_read text 0 l).told (λ h.
    text_then (end_at text h.end) (λ _.
    replay_last (left (list_played h (list_read text 0 l).records))))

abbrev pub printed : Result Graph ProgramFault → List ℕ
printed (Ok g) = text_of_graph g
printed (Err f) = line_text (refusal_line (fault_number f) (fault_layer f) (fault_place f))

-- a graph whose text does not fit into b bytes is refused by 9, with the bytes needed
abbrev pub roomed : ℕ → Result Graph ProgramFault → Result Graph ProgramFault
roomed b (Ok g) = cond (nat_lt b (graph_length g)) (Err (Text (TooFew (graph_length g)))) (Ok g)
roomed b (Err f) = Err f

-- and nothing is printed where not even a line fits
abbrev pub shown : ℕ → Result Graph ProgramFault → List ℕ
shown b r = cond (nat_lt b 17) [] (printed (roomed b r))

-- no list is so long that more than the first 36,465 bytes are to be looked at
abbrev pub looked_at : List ℕ → ℕ → List ℕ
looked_at text len = take (min (min len (length text)) 36465) text

abbrev pub replay_prints : List ℕ → ℕ → List Step → List ℕ
replay_prints text len l = shown (length text) (replay_told (looked_at text len) l)
