use Rattle.std.proofs.Common.{◌+◌, ◌-◌, ◌%◌, ap, ◌∙◌, arith}
use lib.Bits.{bit_and}
use Rattle.routes.proofs.Selections.{mask_wanted}
use Rattle.routes.proofs.select.keep.Goals as goal

pub returns : goal.returns
returns c = ap (λ n. bit_and c.args.byte ((0 + (256 - n)) % 256)) c.from.ensures ∙ mask_wanted c.args.byte c.args.wanted (omega arith)
