use Rattle.std.proofs.Common.{ap, ◌∙◌, ap₂}
use Rattle.fields.specs.PairLaws.{pair_path}
use Rattle.routes.specs.PackedTower.{make_two, two_sum, two_product}
use Rattle.routes.proofs.packed_tower.product4.Goals as goal

pub returns : goal.returns
returns c =
    let highs = c.product2-highs.ensures.made in
    let mixed = c.sum2-mixed.ensures.made ∙ ap₂ two_sum c.product2.ensures.made c.product2-2.ensures.made in
    let high = c.sum2.ensures.made ∙ ap₂ two_sum highs mixed in
    let marked = c.product2-3.ensures.made ∙ ap (two_product (make_two 2)) highs in
    let low = c.sum2-2.ensures.made ∙ ap₂ two_sum marked c.product2-lows.ensures.made in
    record { made = c.join4.ensures.made ∙ pair_path high low; low = c.join4.ensures.low }
