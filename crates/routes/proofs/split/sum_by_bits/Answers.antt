use Rattle.std.proofs.Common.{◌≡◌, ℕ, ◌*◌, ◌<◌, cond, eqb, ap, ◌∙◌, ap₂}
use lib.Bits.{bit_xor}
use Rattle.routes.specs.Formulas.{by_bits}
use Rattle.routes.proofs.Selections.{bit_keeps}
use Rattle.routes.proofs.split.sum_by_bits.Goals as goal

-- a constant kept where a bit is set
kept : (at bit c r : ℕ) → bit ≡ c → bit < 2 → r ≡ cond (eqb bit 1) at 0 → r ≡ c * at
kept at bit c r is low e = e ∙ bit_keeps bit at low ∙ ap (λ b. b * at) is

pub returns : goal.returns
unfolding by_bits
returns c =
    ap₂ bit_xor
    (ap₂ bit_xor
    (ap₂ bit_xor (kept c.args.at3 c.bit.result _ c.keep.result c.bit.ensures.value c.bit.ensures.bound c.keep.ensures)
    (kept c.args.at6 c.bit-2.result _ c.keep-2.result c.bit-2.ensures.value c.bit-2.ensures.bound c.keep-2.ensures))
    (kept c.args.at4 c.bit-3.result _ c.keep-3.result c.bit-3.ensures.value c.bit-3.ensures.bound c.keep-3.ensures))
    c.bit-4.ensures.value
