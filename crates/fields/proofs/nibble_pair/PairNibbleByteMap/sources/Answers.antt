use Rattle.std.proofs.Common.{refl}
use Rattle.fields.specs.Tables.{sources_at, back_rows_transposed}
use Rattle.fields.specs.TowerJoins.{nibble_tables}
use Rattle.fields.proofs.nibble_pair.PairNibbleByteMap.sources.Goals as goal

pub returns : goal.returns
returns c = record { sources = sources_at nibble_tables; columns = refl; rows = back_rows_transposed nibble_tables }
