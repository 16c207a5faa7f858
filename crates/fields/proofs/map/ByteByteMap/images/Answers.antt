use Rattle.fields.specs.Tables.{powers_are_images}
use Rattle.fields.proofs.map.ByteByteMap.images.Goals as goal

pub returns : goal.returns
returns c = record { images = powers_are_images }
