use Rattle.std.proofs.Common.{refl}
use Rattle.fields.specs.Tables.{images_at, rows_transposed}
use Rattle.fields.specs.TowerJoins.{nibble_tables}
use Rattle.fields.proofs.nibble_pair.PairNibbleByteMap.images.Goals as goal

pub returns : goal.returns
returns c = record { images = images_at nibble_tables; columns = refl; rows = rows_transposed nibble_tables }
