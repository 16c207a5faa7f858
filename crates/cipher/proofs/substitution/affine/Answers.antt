use Rattle.fields.specs.WordLaws.{byte-value}
use Rattle.cipher.proofs.substitution.affine.Goals as goal

pub returns : goal.returns
returns g c = cc (byte-value c.args.b c.ranges.b.fits)
