use Rattle.std.proofs.Common.{◌≡◌, ◌-◌, ◌≤◌}
use Rattle.fields.specs.Bytes.{byte, byte_product}
use Rattle.fields.specs.Powers.{power}
use Rattle.cipher.proofs.expansion.round_constant.Given as goal

abbrev pub invariant-loop-k : goal.invariant-loop-k
invariant-loop-k l = (l._k - 1 ≤ l.j - 1) × (l.x ≡ power byte_product (byte 1) (l._k - 1) (byte 2))
