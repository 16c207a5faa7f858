use Rattle.fields.specs.PowersLemmas.{first_power, joined_powers}
use Rattle.fields.specs.WordLaws.{byte_laws}
use Rattle.fields.proofs.byte.field.ByteField.inverse.Goals as goal

pub returns : goal.returns
returns c =
    let a = c.args.self in
    let p1 = first_power byte_laws a in
    let p2 = joined_powers byte_laws a 1 1 c.product-a2.ensures p1 p1 in
    let p3 = joined_powers byte_laws a 2 1 c.product-a3.ensures p2 p1 in
    let p6 = joined_powers byte_laws a 3 3 c.product-a6.ensures p3 p3 in
    let p12 = joined_powers byte_laws a 6 6 c.product-a12.ensures p6 p6 in
    let p15 = joined_powers byte_laws a 12 3 c.product-a15.ensures p12 p3 in
    let p30 = joined_powers byte_laws a 15 15 c.product-a30.ensures p15 p15 in
    let p60 = joined_powers byte_laws a 30 30 c.product-a60.ensures p30 p30 in
    let p120 = joined_powers byte_laws a 60 60 c.product-a120.ensures p60 p60 in
    let p240 = joined_powers byte_laws a 120 120 c.product-a240.ensures p120 p120 in
    joined_powers byte_laws a 252 2 c.product.ensures (joined_powers byte_laws a 240 12 c.product-a252.ensures p240 p12) p2
