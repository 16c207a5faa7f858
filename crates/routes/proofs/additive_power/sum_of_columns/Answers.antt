use Rattle.std.proofs.Common.{◌*◌, get_or, sym, refl, ap, ◌∙◌, ap₂}
use lib.Bits.{bit_xor}
use Rattle.fields.specs.Matrices.{first_columns}
use Rattle.routes.proofs.Selections.{bit_keeps}
use Rattle.routes.proofs.AdditivePowers.{columns_more}
use Rattle.routes.proofs.additive_power.sum_of_columns.Goals as goal

pub loop-i-init : goal.loop-i-init
unfolding first_columns
loop-i-init c = refl

pub loop-i-preserved : goal.loop-i-preserved
loop-i-preserved c =
    ap₂ bit_xor c.loop-i.invariant
    (c.keep-sum.ensures ∙ bit_keeps c.bit.result _ c.bit.ensures.bound ∙ ap (λ b. b * get_or c.args.columns.now c.loop-i.i 0) c.bit.ensures.value)
    ∙ sym (columns_more c.loop-i.i c.args.columns.now c.args.byte)
