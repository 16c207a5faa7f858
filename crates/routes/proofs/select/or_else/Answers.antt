use Rattle.std.proofs.Common.{◌+◌, ◌/◌, ◌%◌, ap, ◌∙◌, arith}
use lib.Bits.{bit_and, bit_or}
use Rattle.routes.proofs.Selections.{or_first}
use Rattle.routes.proofs.select.or_else.Goals as goal

pub returns : goal.returns
returns c =
    ap (λ n. bit_or c.args.first (bit_and c.args.second (((n + 255) / 256 + 255) % 256))) c.from.ensures
    ∙ or_first c.args.first c.args.second (omega arith) (omega arith)
