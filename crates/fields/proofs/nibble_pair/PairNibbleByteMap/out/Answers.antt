use Rattle.std.proofs.Common.{ap, ◌∙◌}
use Rattle.fields.specs.Bytes.{byte}
use Rattle.fields.specs.Matrices.{by_columns}
use Rattle.fields.specs.Towers.{nibble_back}
use Rattle.fields.specs.Tables.{back_by_rows}
use Rattle.fields.specs.TowerJoins.{nibble_tables}
use Rattle.fields.proofs.nibble_pair.PairNibbleByteMap.out.Goals as goal

pub returns : goal.returns
returns c = c.from.ensures ∙ ap byte (c.image.ensures ∙ back_by_rows nibble_tables c.bits.result c.bits.type_inv ∙ ap (by_columns nibble_back) c.bits.ensures)
