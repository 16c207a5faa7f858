use Rattle.std.proofs.Common.{◌/◌, ap, ◌∙◌, ap₂}
use Rattle.fields.specs.PairLaws.{pair_path}
use Rattle.routes.specs.PackedTower.{make_two, two_sum, two_product, two_inverse}
use Rattle.routes.proofs.packed_tower.inverse4.Goals as goal

pub returns : goal.returns
returns c =
    let rest = c.sum2-rest.ensures.made ∙ ap₂ two_sum c.product2.ensures.made c.product2-2.ensures.made in
    let marked = c.product2-4.ensures.made ∙ ap (two_product (make_two 2)) c.product2-3.ensures.made in
    let scale = c.inverse2-scale.ensures.made ∙ ap two_inverse (c.sum2.ensures.made ∙ ap₂ two_sum marked rest) in
    let high = c.product2-5.ensures.made ∙ ap (two_product (make_two (c.args.a / 4))) scale in
    let low = c.product2-6.ensures.made ∙ ap₂ two_product c.sum2-2.ensures.made scale in
    record { made = c.join4.ensures.made ∙ pair_path high low; low = c.join4.ensures.low }
