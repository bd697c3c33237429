-- What a build request answers, and what it leaves in the records, for every graph. Conditions stand in their order of
-- checking. `BuildLaw` says in other words what this amounts to.
--
--   list_of m               the build list of a graph: searched from table 0
--   list_in table           the list of the graph that a table of bits keeps
--   build_judged m room     6 fewer than three tables, 7 the lowest table not reached, 8 the lowest articulation table, 9 fewer
--                           than as many records as there are steps, or accepted; `room` records are lent
--   build_answer m room     the refusal, or the triangle and the number of steps
--   laid_over g l           the records l with the steps of the list g laid over the first of them
--   records_after m l       the records: where the request is accepted, the steps, then the later records as they were
use Rattle.std.specs.Prelude.{ℕ, ◌-◌, cond, List, ◌++◌, length, drop, Ok, Err, Result, nat_lt}
use Rattle.theory.specs.Graph.{Graph, joined, is_table, table_count, size}
use Rattle.theory.specs.declared.step.Step.{Step}
use Rattle.bits.specs.Table.{graph_of}
use Rattle.bits.specs.declared.table.BitTable.{BitTable}
use Rattle.disassembly.specs.Reach.{lowest_unreached, lowest_separating}
use Rattle.disassembly.specs.Disassembly.{Given, given}
use Rattle.refusals.specs.declared.build.BuildFault.{BuildFault}
use Rattle.refusals.specs.declared.build.BuildFault.TheVariants.{TooSmall, Unreached, Articulation}
use Rattle.verdicts.specs.Judge.{unless_named, room_judged}
use Rattle.assembly.specs.declared.build.Built.{Built}

abbrev pub list_of : Graph → Given
list_of m = given (is_table m) (joined m) 0

abbrev pub list_in : BitTable → Given
list_in table = list_of (graph_of table)

unfoldable pub build_judged : Graph → ℕ → Result Unit BuildFault
build_judged m room =
    cond (nat_lt (table_count m) 3) (Err TooSmall)
    (unless_named (lowest_unreached (is_table m) (joined m) 0) Unreached
    (unless_named (lowest_separating (is_table m) (joined m)) Articulation
    (room_judged (size m - 3) room)))

abbrev pub built_of : Graph → Built
built_of m = record { triangle = (list_of m).triangle; steps = size m - 3 }

abbrev pub built_after : Result Unit BuildFault → Graph → Result Built BuildFault
built_after (Ok u) m = Ok (built_of m)
built_after (Err f) m = Err f

abbrev pub build_answer : Graph → ℕ → Result Built BuildFault
build_answer m room = built_after (build_judged m room) m

abbrev pub laid_over : Given → List Step → List Step
laid_over g l = g.steps ++ drop (length g.steps) l

abbrev pub records_given : Result Unit BuildFault → Given → List Step → List Step
records_given (Ok u) g l = laid_over g l
records_given (Err f) g l = l

abbrev pub records_after : Graph → List Step → List Step
records_after m l = records_given (build_judged m (length l)) (list_of m) l
