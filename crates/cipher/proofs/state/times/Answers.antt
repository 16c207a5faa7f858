use Rattle.std.proofs.Common.{ap, ◌∙◌}
use Rattle.fields.specs.Bytes.{byte, byte_product}
use Rattle.fields.specs.WordLaws.{byte_laws}
use Rattle.cipher.proofs.state.times.Goals as goal

pub returns : goal.returns
returns g c = c.product.ensures ∙ ap (byte_product c.args.a) c.from.ensures ∙ byte_laws.product_comm c.args.a (byte g.row.P)
