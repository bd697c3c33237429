-- What the program `assemble` amounts to, in bytes: for the text of a query whose graph has a legal build it prints the list
-- that taking the graph apart gives, and for everything else the line of a refusal; what it prints for two graphs is equal
-- exactly when the graphs agree; and `replay` of what it prints gives the joins.
--
--   IsQuery input n js ms rs    the input is the text of a query of n tables with the joins js, the marks ms, the row counts rs
--   LineAmiss input f           f is the refusal of the first line that is amiss
--   GivesList input out         the input is the text of a query, and the list of its graph is printed
--   RefusesQuery input out      the input is the text of no query: a line is amiss, and the line of its refusal is printed
--   RefusesBuild input out      the input is the text of a query whose graph has no legal build, and the line of 6, 7 or 8 is printed
--   Assembles input out         one of these three
--   OneKeyInBytes told out      what is printed for two queries that are accepted is equal exactly when their graphs agree
--   ReplaysToJoins told out     what is printed for a query that is accepted, given to `replay`, prints the joins of its graph
use Rattle.std.specs.Prelude.{◌≡◌, ℕ, ◌+◌, ◌≤◌, ◌⊎◌, ◌↔◌, List, length, take, ℤ, Ok, Result}
use Rattle.theory.specs.Build.{LegalBuild}
use Rattle.theory.specs.Graph.{Graph, joined, is_table, table_count}
use Rattle.theory.specs.Listing.{joins_of, ListsJoins}
use Rattle.theory.specs.declared.mark.Mark.{Mark}
use Rattle.theory.specs.declared.step.Step.{Step}
use Rattle.theory.specs.declared.step.Triangle.{Triangle}
use Rattle.disassembly.specs.Disassembly.{Disassembly}
use Rattle.refusals.specs.Build.{build_number, build_value}
use Rattle.refusals.specs.declared.build.BuildFault.{BuildFault}
use Rattle.assembly.specs.BuildLaw.{NamedBy}
use Rattle.lines.specs.Text.{line_text}
use Rattle.texts.specs.ListText.{list_text}
use Rattle.rejections.specs.Fault.{query_number, query_layer, query_place}
use Rattle.queries.specs.QueryLaw.{query_text, lines_graph, Begun, place_after, HeadAmiss, Amiss}
use Rattle.rejections.specs.declared.fault.QueryFault.{QueryFault}
use Rattle.prints.specs.GraphText.{text_of_graph}
use Rattle.prints.specs.Refusal.{refusal_line}
use Rattle.outcomes.specs.declared.fault.ProgramFault.{ProgramFault}
use Rattle.programs.specs.Done.{Room}
use Rattle.programs.specs.Replay.{looked_at, replay_prints}
use Rattle.assembler.specs.Assemble.{assemble_told, assemble_prints}

pub record IsQuery (input : List ℕ) (n : ℕ) (js : List (ℕ × ℕ)) (ms : List Mark) (rs : List (ℕ × ℤ)) : Type 0 where
  -- its lines stand there in order, each due, and each accepted
  pub begun : Begun input 0 63 n (length js) js ms rs
  -- they are the whole input
  pub whole : input ≡ query_text n (length js) js ms rs
  -- no marks, or one for each table but one
  pub marks_owed : (length ms ≡ 0) ⊎ (length ms + 1 ≡ n)
  pub few_rows : length rs ≤ 64

pub record AfterAmiss (input : List ℕ) (f : QueryFault) : Type 0 where
  -- the head's numbers, and the lines before the one refused
  pub tables : ℕ
  pub joins : ℕ
  pub js : List (ℕ × ℕ)
  pub ms : List Mark
  pub rs : List (ℕ × ℤ)
  -- each was due and is accepted
  pub begun : Begun input 0 63 tables joins js ms rs
  -- the line after them is amiss
  pub amiss : Amiss input (place_after 0 js ms rs) tables joins js (length ms) (length rs) f

abbrev pub LineAmiss : List ℕ → QueryFault → Type 0
LineAmiss input f = HeadAmiss input 0 63 f ⊎ AfterAmiss input f

pub record GivesList (input out : List ℕ) : Type 0 where
  pub js : List (ℕ × ℕ)
  pub ms : List Mark
  pub rs : List (ℕ × ℤ)
  -- the graph of exactly these joins
  pub graph : Graph
  pub graph_is : graph ≡ lines_graph (table_count graph) js
  pub query : IsQuery input (table_count graph) js ms rs
  -- taking it apart from table 0 gives this list, and no other
  pub triangle : Triangle
  pub steps : List Step
  pub apart : Disassembly (is_table graph) (joined graph) 0 triangle steps
  pub only : (t : Triangle) (l : List Step) → Disassembly (is_table graph) (joined graph) 0 t l → (t ≡ triangle) × (l ≡ steps)
  -- which is a legal build
  pub legal : LegalBuild graph triangle steps
  -- and is printed
  pub prints : out ≡ list_text (table_count graph) triangle steps

pub record RefusesQuery (input out : List ℕ) : Type 0 where
  -- it is the text of no query
  pub none : (n : ℕ) (js : List (ℕ × ℕ)) (ms : List Mark) (rs : List (ℕ × ℤ)) → IsQuery input n js ms rs → ⊥
  -- what is amiss, and where
  pub fault : QueryFault
  pub amiss : LineAmiss input fault
  pub small : query_place fault ≤ 99999
  pub prints : out ≡ line_text (refusal_line (query_number fault) (query_layer fault) (query_place fault))

pub record RefusesBuild (input out : List ℕ) : Type 0 where
  pub js : List (ℕ × ℕ)
  pub ms : List Mark
  pub rs : List (ℕ × ℤ)
  -- the graph of exactly these joins
  pub graph : Graph
  pub graph_is : graph ≡ lines_graph (table_count graph) js
  pub query : IsQuery input (table_count graph) js ms rs
  -- it has no legal build
  pub none : (t : Triangle) (l : List Step) → LegalBuild graph t l → ⊥
  -- 6, 7 or 8, with what it names
  pub fault : BuildFault
  pub which : (build_number fault ≡ 6) ⊎ ((build_number fault ≡ 7) ⊎ (build_number fault ≡ 8))
  pub named : NamedBy graph 2013 fault
  pub small : build_value fault ≤ 99999
  pub prints : out ≡ line_text (refusal_line (build_number fault) 3 (build_value fault))

abbrev pub Assembles : List ℕ → List ℕ → Type 0
Assembles input out = GivesList input out ⊎ (RefusesQuery input out ⊎ RefusesBuild input out)

abbrev pub OneKeyInBytes : Result Graph ProgramFault → List ℕ → Type 0
OneKeyInBytes told out = (m : Graph) → told ≡ Ok m
    → (text : List ℕ) (len : ℕ) (steps : List Step) (marks : List Mark) (k : Graph) → assemble_told (looked_at text len) steps marks ≡ Ok k
    → (out ≡ assemble_prints text len steps marks) ↔ ((a b : ℕ) → joined m a b ≡ joined k a b)

-- read into any text with room for the graph's
abbrev pub ReplaysToJoins : Result Graph ProgramFault → List ℕ → Type 0
ReplaysToJoins told out = (m : Graph) → told ≡ Ok m
    → (text : List ℕ) (records : List Step) → take (length out) text ≡ out → Room (length out) (length text) → 2013 ≤ length records
    → (replay_prints text (length out) records ≡ text_of_graph m) × ListsJoins m (joins_of m)
