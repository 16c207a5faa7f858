use Rattle.fields.specs.Tables.{powers_are_sources}
use Rattle.fields.proofs.map.ByteByteMap.sources.Goals as goal

pub returns : goal.returns
returns c = record { sources = powers_are_sources }
