use Rattle.std.proofs.Common.{sym, mod-eq_of_lt, arith}
use Rattle.fields.specs.Bytes.{byte}
use Rattle.fields.specs.WordLaws.{byte_path}
use Rattle.fields.proofs.byte.field.ByteFromU8.from.Goals as goal

pub returns : goal.returns
unfolding byte
returns c = byte_path _ _ (sym (mod-eq_of_lt (omega arith)))
