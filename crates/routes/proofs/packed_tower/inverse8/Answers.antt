use Rattle.std.proofs.Common.{◌/◌, ap, ◌∙◌, ap₂}
use Rattle.fields.specs.PairLaws.{pair_path}
use Rattle.routes.specs.PackedTower.{make_four, four_sum, four_product, four_inverse}
use Rattle.routes.proofs.packed_tower.inverse8.Goals as goal

pub returns : goal.returns
returns c =
    let rest = c.sum4-rest.ensures.made ∙ ap₂ four_sum c.product4.ensures.made c.product4-2.ensures.made in
    let marked = c.product4-4.ensures.made ∙ ap (four_product (make_four 8)) c.product4-3.ensures.made in
    let scale = c.inverse4-scale.ensures.made ∙ ap four_inverse (c.sum4.ensures.made ∙ ap₂ four_sum marked rest) in
    let high = c.product4-5.ensures.made ∙ ap (four_product (make_four (c.args.a / 16))) scale in
    let low = c.product4-6.ensures.made ∙ ap₂ four_product c.sum4-2.ensures.made scale in
    c.join8.ensures ∙ pair_path high low
