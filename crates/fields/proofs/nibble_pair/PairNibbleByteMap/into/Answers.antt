use Rattle.std.proofs.Common.{ap, ◌∙◌}
use Rattle.fields.specs.Matrices.{by_columns}
use Rattle.fields.specs.Towers.{make_nibbles, nibble_columns}
use Rattle.fields.specs.Tables.{forth_by_rows}
use Rattle.fields.specs.TowerJoins.{nibble_tables}
use Rattle.fields.proofs.nibble_pair.PairNibbleByteMap.into.Goals as goal

pub returns : goal.returns
returns c = c.split.ensures ∙ ap make_nibbles (c.image.ensures ∙ forth_by_rows nibble_tables c.from.result c.from.type_inv ∙ ap (by_columns nibble_columns) c.from.ensures)
