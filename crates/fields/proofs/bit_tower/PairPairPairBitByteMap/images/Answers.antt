use Rattle.std.proofs.Common.{refl}
use Rattle.fields.specs.Tables.{images_at, rows_transposed}
use Rattle.fields.specs.TowerJoins.{tower_tables, least_root}
use Rattle.fields.proofs.bit_tower.PairPairPairBitByteMap.images.Goals as goal

pub returns : goal.returns
returns c = record { images = images_at tower_tables; columns = refl; rows = rows_transposed tower_tables; least = least_root }
