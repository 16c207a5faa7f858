use Rattle.std.proofs.Common.{◌≡◌}
use Rattle.fields.specs.Bytes.{byte}
use Rattle.fields.proofs.InPlace.{Replaced}
use Rattle.cipher.specs.Layout.{affine_map}
use Rattle.cipher.proofs.substitution.affine_all.Given as goal

abbrev pub invariant-loop-byte : goal.invariant-loop-byte
invariant-loop-byte g l = Replaced (λ a r. r ≡ affine_map g.row.FACTOR g.row.OFFSET (byte a).value) l.initial.bytes l.bytes l.byte-index
