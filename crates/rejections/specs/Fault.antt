-- The number, the layer and the place of each refusal of a query text.
--
--   query_number f   its number: what is carried keeps its own
--   query_layer f    1 text, 2 store, 4 rows
--   query_place f    a text's place or amount; else the offset of the line
use Rattle.std.specs.Prelude.{ℕ}
use Rattle.graph.specs.Fault.{store_number}
use Rattle.catalogue.specs.Fault.{row_number}
use Rattle.texts.specs.Fault.{text_number, text_value}
use Rattle.rejections.specs.declared.fault.QueryFault.{QueryFault}
use Rattle.rejections.specs.declared.fault.QueryFault.TheVariants.{Text, Join, Row}

abbrev pub query_number : QueryFault → ℕ
query_number (Text f) = text_number f
query_number (Join p f) = store_number f
query_number (Row p f) = row_number f

abbrev pub query_layer : QueryFault → ℕ
query_layer (Text f) = 1
query_layer (Join p f) = 2
query_layer (Row p f) = 4

abbrev pub query_place : QueryFault → ℕ
query_place (Text f) = text_value f
query_place (Join p f) = p
query_place (Row p f) = p
