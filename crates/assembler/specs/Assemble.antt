-- What the program `assemble` prints, for the bytes read. `AssembleLaw` says in other words what this amounts to.
--
--   query_in text marks             the text read as a query, with marks laid into these records and a catalogue in which no
--                                   count is known
--   assemble_told text steps marks  the graph of the query, where it has a list that fits into as many records as lent
--   steps_left text steps marks     the step records afterwards
--   listed r                        the list of the graph told, by its tables, its triangle and the number of its steps
--   printed r                       the text of the graph's list, or the line of the refusal
--   shown b r                       what is printed into b bytes: nothing where no line fits
--   assemble_prints text len steps marks   what is printed where the first `len` bytes of the text were read
use Rattle.std.specs.Prelude.{ℕ, cond, List, [], length, replicate, Ok, Err, Result, nat_lt}
use Rattle.theory.specs.Graph.{Graph, table_count}
use Rattle.theory.specs.declared.mark.Mark.{Mark}
use Rattle.theory.specs.declared.step.Step.{Step}
use Rattle.catalogue.specs.Rows.{unknown}
use Rattle.refusals.specs.declared.build.BuildFault.{BuildFault}
use Rattle.assembly.specs.Build.{list_of, built_of, build_answer, records_after}
use Rattle.assembly.specs.declared.build.Built.{Built}
use Rattle.lines.specs.Text.{line_text}
use Rattle.texts.specs.ListText.{list_text}
use Rattle.queries.specs.QueryRead.{QueryTold, query_read}
use Rattle.rejections.specs.declared.fault.QueryFault.{QueryFault}
use Rattle.queries.specs.declared.query.QueryHead.{QueryHead}
use Rattle.prints.specs.Refusal.{refusal_line}
use Rattle.outcomes.specs.Fault.{fault_number, fault_layer, fault_place}
use Rattle.outcomes.specs.declared.fault.ProgramFault.{ProgramFault}
use Rattle.outcomes.specs.declared.fault.ProgramFault.TheVariants.{Query, Build}
use Rattle.programs.specs.Replay.{looked_at}
use Rattle.assembler.specs.declared.assemble.Listed.{Listed}

abbrev pub query_in : List ℕ → List Mark → QueryTold
query_in text marks = query_read text 0 marks (replicate 64 unknown)

-- a refusal of the query, or what follows
abbrev pub query_then : {Y : Type 0} → Result QueryHead QueryFault → Result Y ProgramFault → Result Y ProgramFault
query_then (Ok h) next = next
query_then (Err f) next = Err (Query f)

-- the graph, where its build request is accepted
abbrev pub build_last : Result Built BuildFault → Graph → Result Graph ProgramFault
build_last (Ok b) m = Ok m
build_last (Err f) m = Err (Build f)

-- the query, then the build request
unfoldable pub assemble_told : List ℕ → List Step → List Mark → Result Graph ProgramFault
assemble_told text steps marks =
    query_then (query_in text marks).told (build_last (build_answer (query_in text marks).graph (length steps)) (query_in text marks).graph)

abbrev pub steps_by : Result QueryHead QueryFault → Graph → List Step → List Step
steps_by (Ok h) m l = records_after m l
steps_by (Err f) m l = l

unfoldable pub steps_left : List ℕ → List Step → List Mark → List Step
steps_left text steps marks = steps_by (query_in text marks).told (query_in text marks).graph steps

abbrev pub listed_of : Graph → Listed
listed_of m = record { tables = table_count m; triangle = (built_of m).triangle; steps = (built_of m).steps }

abbrev pub listed : Result Graph ProgramFault → Result Listed ProgramFault
listed (Ok m) = Ok (listed_of m)
listed (Err f) = Err f

abbrev pub printed : Result Graph ProgramFault → List ℕ
printed (Ok m) = list_text (table_count m) (list_of m).triangle (list_of m).steps
printed (Err f) = line_text (refusal_line (fault_number f) (fault_layer f) (fault_place f))

-- a list's text always fits, as it is no longer than the query's
abbrev pub shown : ℕ → Result Graph ProgramFault → List ℕ
shown b r = cond (nat_lt b 17) [] (printed r)

abbrev pub assemble_prints : List ℕ → ℕ → List Step → List Mark → List ℕ
assemble_prints text len steps marks = shown (length text) (assemble_told (looked_at text len) steps marks)
