use Rattle.fields.specs.PowersLemmas.{joined_powers}
use Rattle.fields.specs.WordLaws.{byte_laws}
use Rattle.routes.proofs.power.eighty_fourth.Goals as goal

pub returns : goal.returns
returns c =
    let a = c.args.a in
    let p20 = joined_powers byte_laws a 4 16 c.product-a20.ensures c.of-a4.ensures c.of-a16.ensures in
    joined_powers byte_laws a 20 64 c.product.ensures p20 c.of-a64.ensures
