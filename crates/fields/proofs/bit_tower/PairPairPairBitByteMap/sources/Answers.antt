use Rattle.std.proofs.Common.{refl}
use Rattle.fields.specs.Tables.{sources_at, back_rows_transposed}
use Rattle.fields.specs.TowerJoins.{tower_tables}
use Rattle.fields.proofs.bit_tower.PairPairPairBitByteMap.sources.Goals as goal

pub returns : goal.returns
returns c = record { sources = sources_at tower_tables; columns = refl; rows = back_rows_transposed tower_tables }
