use Rattle.std.proofs.Common.{◌*◌, ◌%◌, ap, ◌∙◌}
use lib.Bits.{bit_xor}
use Rattle.fields.proofs.Steps.{wrapped}
use Rattle.fields.proofs.modular.times_x.Goals as goal

pub returns : goal.returns
returns g c =
    ap (bit_xor (c.args.a * 2 % 256)) c.keep.ensures
    ∙ wrapped g.row.DEGREE g.row.MODULUS c.args.a c.requires.degree c.requires.positive c.requires.few c.requires.low
