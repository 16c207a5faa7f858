use Rattle.std.proofs.Common.{◌≡◌, ℕ, ◌<◌, ◌≤◌}
use Rattle.fields.specs.Nibbles.{nibble, nibble_product}
use Rattle.fields.proofs.nibble.field.NibbleField.inverse.Given as goal

abbrev pub invariant-loop-value : goal.invariant-loop-value
invariant-loop-value l = (t : ℕ) → 1 ≤ t → t < l.value → nibble_product l.self (nibble t) ≡ nibble 1 → ⊥
