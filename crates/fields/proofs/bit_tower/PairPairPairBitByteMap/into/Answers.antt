use Rattle.std.proofs.Common.{ap, ◌∙◌}
use Rattle.fields.specs.Matrices.{by_columns}
use Rattle.fields.specs.Towers.{make_tower, tower_columns}
use Rattle.fields.specs.Tables.{forth_by_rows}
use Rattle.fields.specs.TowerJoins.{tower_tables}
use Rattle.fields.proofs.bit_tower.PairPairPairBitByteMap.into.Goals as goal

pub returns : goal.returns
returns c = c.eight.ensures ∙ ap make_tower (c.image.ensures ∙ forth_by_rows tower_tables c.from.result c.from.type_inv ∙ ap (by_columns tower_columns) c.from.ensures)
