-- What a catalogue holds.
--
--   records_of c   its records, one for each of 64 tables
use Rattle.std.specs.Prelude.{List}
use Rattle.catalogue.specs.declared.catalogue.Catalogue.{Catalogue}
use Rattle.catalogue.specs.declared.catalogue.RowRecord.{RowRecord}

abbrev pub records_of : Catalogue → List RowRecord
records_of c = c.records
