-- The rows of the table, each computed: a request's judgement and the list of the graph, a text line by line, the filling of a tree and
-- the report of it. The record of the proof that all rows hold is `Each`.
use Rattle.std.proofs.Common.{◌≡◌, ℕ, ◌≤◌, true, List, [], ◌∷◌, replicate, None, Ok, Err, refl, arith, nat_lt}
use Rattle.std.proofs.lemmas.Bool.Decides.{nat_tests}
use Rattle.std.specs.List.{All}
use Rattle.std.proofs.lemmas.List.Elements.{All-nil, All-cons}
use Rattle.theory.specs.Graph.{Graph}
use Rattle.theory.specs.declared.mark.Mark.{Mark}
use Rattle.catalogue.specs.Rows.{unknown}
use Rattle.lines.specs.Read.{line_at, fields_at, number_from, count_from, blank_from}
use Rattle.queries.specs.QueryRead.{head_at, read_on_joins, read_on_marks, read_on_rows, lines_read}
use Rattle.queries.specs.declared.query.Head.{Head}
use Rattle.assembly.specs.Build.{build_answer}
use Rattle.assembler.specs.Assemble.{build_last, printed}
use Rattle.examples.specs.declared.worked.TheConstants.{FIVE, FIVE_LIST, CHAIN, CHAIN_REFUSED}
use Rattle.examples.proofs.Printing.{assembles}
use Rattle.examples.proofs.Reporting.{reports}
use Rattle.spanning.specs.Crossing.{on_path, cross}
use Rattle.trees.specs.Tree.{marked, fill_answer, marks_judged}
use Rattle.driving.specs.Drive.{missing, lowest_missing, records_from, report_of}
use Rattle.theory.specs.declared.step.Step.TheVariants.{Edge, Node}
use Rattle.disassembly.specs.Search.{moves}
use Rattle.disassembly.specs.Reach.{reached, separates}
use Rattle.disassembly.specs.Disassembly.{given, given_at, remaining, all_notes, taken, noted, nearest_of}
use Rattle.queries.specs.QueryLaw.{lines_graph}
use Rattle.refusals.specs.declared.build.BuildFault.TheVariants.{TooSmall, Unreached, Articulation, TooFewRecords}
use Rattle.verdicts.specs.Judge.{room_judged}
use Rattle.assembly.specs.Build.{build_judged, list_of}
use Rattle.examples.specs.Worked.{Example, Holds, worked, ExamplesStand, five_joins, all_joins, ring_of_three, chain_joins, first_three, ring_joins, path_marks, crossed_star_joins, star_marks, driving, crossed}
use Rattle.examples.proofs.Requests.{lists, refuses}

five : Graph
five = lines_graph 5 five_joins

four : Graph
four = lines_graph 4 all_joins

three : Graph
three = lines_graph 3 ring_of_three

five_judged : (room : ℕ) → build_judged five room ≡ room_judged 3 room
unfolding five build_judged moves reached separates
five_judged room = refl

four_judged : (room : ℕ) → build_judged four room ≡ room_judged 3 room
unfolding four build_judged moves reached separates
four_judged room = refl

three_judged : (room : ℕ) → build_judged three room ≡ room_judged 0 room
unfolding three build_judged moves reached separates
three_judged room = refl

two_judged : (room : ℕ) → build_judged (lines_graph 2 ((0, 1) ∷ [])) room ≡ Err TooSmall
unfolding build_judged moves reached separates
two_judged room = refl

chain_of_four_judged : (room : ℕ) → build_judged (lines_graph 4 chain_joins) room ≡ Err (Unreached 3)
unfolding build_judged moves reached separates
chain_of_four_judged room = refl

chain_of_three_judged : (room : ℕ) → build_judged (lines_graph 3 chain_joins) room ≡ Err (Articulation 1)
unfolding build_judged moves reached separates
chain_of_three_judged room = refl

five_given : list_of five ≡ record { triangle = first_three; steps = Node 3 0 2 ∷ Edge 1 3 ∷ Node 4 0 3 ∷ [] }
unfolding five given given_at moves remaining all_notes taken noted nearest_of
five_given = refl

four_given : list_of four ≡ record { triangle = first_three; steps = Node 3 0 2 ∷ Edge 0 2 ∷ Edge 1 3 ∷ [] }
unfolding four given given_at moves remaining all_notes taken noted nearest_of
four_given = refl

three_given : list_of three ≡ record { triangle = first_three; steps = [] }
unfolding three given given_at moves remaining all_notes taken noted nearest_of
three_given = refl

short : (room : ℕ) → room ≤ 2 → nat_lt room 3 ≡ true
short room e = grind (arith, nat_tests)

four_short : (room : ℕ) → room ≤ 2 → build_judged four room ≡ Err (TooFewRecords 3)
four_short room e = rw (four_judged room, short room e) refl

-- ---- the texts

-- the graph as it is read: the last join stands first
five_read : Graph
five_read = lines_graph 5 ((3, 4) ∷ (2, 3) ∷ (1, 3) ∷ (1, 2) ∷ (0, 4) ∷ (0, 1) ∷ [])

five_head : Head
five_head = record { tables = 5; joins = 6 }

five_begins : head_at FIVE.now 0 63 ≡ Ok five_head
unfolding five_head line_at fields_at number_from count_from blank_from
five_begins = refl

five_told : (marks : List Mark) → (read_on_joins FIVE.now 17 five_head marks (replicate 64 unknown)).told ≡ Ok (record { tables = 5; joins = 6; marks = 0; end = 119 })
unfolding five_head read_on_joins read_on_marks read_on_rows lines_read line_at fields_at number_from count_from blank_from
five_told marks = refl

five_graph : (marks : List Mark) → (read_on_joins FIVE.now 17 five_head marks (replicate 64 unknown)).graph ≡ five_read
unfolding five_head five_read read_on_joins read_on_marks read_on_rows lines_read line_at fields_at number_from count_from blank_from
five_graph marks = refl

five_shows : printed (build_last (build_answer five_read 2013) five_read) ≡ FIVE_LIST.now
unfolding five_read build_judged moves reached separates given given_at remaining all_notes taken noted nearest_of
five_shows = refl

chain : Graph
chain = lines_graph 3 ((1, 2) ∷ (0, 1) ∷ [])

chain_head : Head
chain_head = record { tables = 3; joins = 2 }

chain_begins : head_at CHAIN.now 0 63 ≡ Ok chain_head
unfolding chain_head line_at fields_at number_from count_from blank_from
chain_begins = refl

chain_told : (marks : List Mark) → (read_on_joins CHAIN.now 17 chain_head marks (replicate 64 unknown)).told ≡ Ok (record { tables = 3; joins = 2; marks = 0; end = 51 })
unfolding chain_head read_on_joins read_on_marks read_on_rows lines_read line_at fields_at number_from count_from blank_from
chain_told marks = refl

chain_graph : (marks : List Mark) → (read_on_joins CHAIN.now 17 chain_head marks (replicate 64 unknown)).graph ≡ chain
unfolding chain_head chain read_on_joins read_on_marks read_on_rows lines_read line_at fields_at number_from count_from blank_from
chain_graph marks = refl

chain_shows : printed (build_last (build_answer chain 2013) chain) ≡ CHAIN_REFUSED.now
unfolding chain build_judged moves reached separates
chain_shows = refl

-- ---- the trees

ring_filled : fill_answer (lines_graph 4 ring_joins) path_marks ≡ Ok tt
unfolding fill_answer marks_judged reached moves
ring_filled = refl

ring_none : lowest_missing (lines_graph 4 ring_joins) (marked 4 path_marks) ≡ None
unfolding lowest_missing missing moves
ring_none = refl

ring_reported : report_of (lines_graph 4 ring_joins) (marked 4 path_marks) ≡ (driving ∷ crossed 1 ∷ crossed 1 ∷ driving ∷ [])
unfolding records_from cross on_path reached moves
ring_reported = refl

star_filled : fill_answer (lines_graph 4 crossed_star_joins) star_marks ≡ Ok tt
unfolding fill_answer marks_judged reached moves
star_filled = refl

star_none : lowest_missing (lines_graph 4 crossed_star_joins) (marked 4 star_marks) ≡ None
unfolding lowest_missing missing moves
star_none = refl

star_reported : report_of (lines_graph 4 crossed_star_joins) (marked 4 star_marks) ≡ (crossed 1 ∷ driving ∷ driving ∷ crossed 1 ∷ [])
unfolding records_from cross on_path reached moves
star_reported = refl

alone_filled : fill_answer (lines_graph 1 []) [] ≡ Ok tt
unfolding fill_answer marks_judged reached moves
alone_filled = refl

alone_none : lowest_missing (lines_graph 1 []) (marked 1 []) ≡ None
unfolding lowest_missing missing moves
alone_none = refl

alone_reported : report_of (lines_graph 1 []) (marked 1 []) ≡ (driving ∷ [])
unfolding records_from cross on_path reached moves
alone_reported = refl

-- ---- the table

data Each : List Example → Type 0 where
  none : Each []
  row : {x : Example} {l : List Example} → Holds x → Each l → Each (x ∷ l)

each_holds : {l : List Example} → Each l → All Holds l
each_holds none = All-nil Holds
each_holds (row {x} {l} h e) = All-cons Holds x l h (each_holds e)

pub examples_stand : ExamplesStand
unfolding five four three
examples_stand = each_holds {l = worked}
    (row (lists 5 five_joins _ _ five_judged refl five_given)
    (row (assembles FIVE.now FIVE_LIST.now five_head _ five_read five_begins five_told five_graph five_shows (omega arith))
    (row (lists 4 all_joins _ _ four_judged refl four_given)
    (row (refuses 4 all_joins 2 _ four_short)
    (row (lists 3 ring_of_three _ _ three_judged refl three_given)
    (row (refuses 2 ((0, 1) ∷ []) 2013 _ (λ room _. two_judged room))
    (row (refuses 4 chain_joins 2013 _ (λ room _. chain_of_four_judged room))
    (row (refuses 3 chain_joins 2013 _ (λ room _. chain_of_three_judged room))
    (row (assembles CHAIN.now CHAIN_REFUSED.now chain_head _ chain chain_begins chain_told chain_graph chain_shows (omega arith))
    (row (reports 4 ring_joins path_marks _ (omega arith) (omega arith) refl ring_filled ring_none ring_reported)
    (row (reports 4 crossed_star_joins star_marks _ (omega arith) (omega arith) refl star_filled star_none star_reported)
    (row (reports 1 [] [] _ (omega arith) (omega arith) refl alone_filled alone_none alone_reported)
    none))))))))))))
