-- The number, the layer and the place of each refusal that a program prints.
--
--   fault_number f   its number
--   fault_layer f    1 text, 2 store, 3 replay and build, 4 marks, driving and rows: a replay's refusals 1 to 5 are the store's
--   fault_place f    a text's place or amount, the offset of a query's line; a replay's step; the table that no step has put
--                    into use; the table or the amount that a build request or a driving request names, or 0; a mark's turn
use Rattle.std.specs.Prelude.{ℕ}
use Rattle.driving.specs.Fault.{drive_number, drive_layer, drive_place}
use Rattle.rejections.specs.Fault.{query_number, query_layer, query_place}
use Rattle.texts.specs.Fault.{text_number, text_value}
use Rattle.refusals.specs.Build.{build_number, build_value, build_layer}
use Rattle.refusals.specs.Fault.{replay_number, replay_layer, replay_place}
use Rattle.trees.specs.Fault.{tree_number, tree_layer, tree_place}
use Rattle.outcomes.specs.declared.fault.ProgramFault.{ProgramFault}
use Rattle.outcomes.specs.declared.fault.ProgramFault.TheVariants.{Text, Replay, Query, Build, Tree, Drive}

abbrev pub fault_number : ProgramFault → ℕ
fault_number (Text f) = text_number f
fault_number (Replay f) = replay_number f
fault_number (Query f) = query_number f
fault_number (Build f) = build_number f
fault_number (Tree f) = tree_number f
fault_number (Drive f) = drive_number f

abbrev pub fault_layer : ProgramFault → ℕ
fault_layer (Text f) = 1
fault_layer (Replay f) = replay_layer f
fault_layer (Query f) = query_layer f
fault_layer (Build f) = build_layer f
fault_layer (Tree f) = tree_layer f
fault_layer (Drive f) = drive_layer f

abbrev pub fault_place : ProgramFault → ℕ
fault_place (Text f) = text_value f
fault_place (Replay f) = replay_place f
fault_place (Query f) = query_place f
fault_place (Build f) = build_value f
fault_place (Tree f) = tree_place f
fault_place (Drive f) = drive_place f
