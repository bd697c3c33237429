-- What is kept of the discovery of tables.
--
--   undiscovered             what is kept of a table that was not discovered
--   discovery_of found x     what is kept of table x
--   parent_in found x        the table that x was discovered from
--   number_in found x        the discovery number of x
--   earlier_in found x       the set of the tables discovered before x
use Rattle.std.specs.Prelude.{ℕ, List, slice_index_or}
use Rattle.traversal.specs.declared.discovery.Discovery.{Discovery}

abbrev pub undiscovered : Discovery
undiscovered = record { parent = 0; number = 0; earlier = 0 }

abbrev pub discovery_of : List Discovery → ℕ → Discovery
discovery_of found x = slice_index_or found x undiscovered

abbrev pub parent_in : List Discovery → ℕ → ℕ
parent_in found x = (discovery_of found x).parent

abbrev pub number_in : List Discovery → ℕ → ℕ
number_in found x = (discovery_of found x).number

abbrev pub earlier_in : List Discovery → ℕ → ℕ
earlier_in found x = (discovery_of found x).earlier
