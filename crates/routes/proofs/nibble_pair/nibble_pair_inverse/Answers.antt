use Rattle.std.proofs.Common.{sym, ap, ◌∙◌, subst, arith}
use native.Mathlib.Nat.{mod-mod}
use Rattle.fields.specs.Bytes.{byte}
use Rattle.fields.specs.Matrices.{by_columns}
use Rattle.fields.specs.Nibbles.{nibble, nibble_sum, nibble_product, nibble_inverse}
use Rattle.fields.specs.Pairs.{pair_inverse}
use Rattle.fields.specs.Towers.{make_nibbles, read_nibbles, nibble_columns, nibble_back}
use Rattle.fields.proofs.JoinFacts.{out_inverse}
use Rattle.fields.specs.PairLaws.{pair_laws, pair_path}
use Rattle.fields.specs.TowerJoins.{nibbles_join}
use Rattle.fields.specs.WordLaws.{byte-value, nibble_laws, nibble_path}
use Rattle.routes.specs.Inverting.{Inverts}
use Rattle.routes.proofs.Inversions.{inverse_inverts}
use Rattle.routes.proofs.nibble_pair.nibble_pair_inverse.Goals as goal

pub returns : goal.returns
unfolding nibble
returns c =
    let a = c.args.a in
    let r = c.sum_of_columns.result in
    let n = c.sum_of_columns-image.result in
    let image = c.sum_of_columns-image.ensures ∙ ap (by_columns nibble_columns) (sym (byte-value a (omega arith))) in
    let element = pair_path c.high.ensures (c.low.ensures ∙ nibble_path (nibble n) _ (sym (mod-mod n 16))) ∙ ap make_nibbles image in
    let inverted = c.inverse-inverse.ensures ∙ ap (pair_inverse (nibble 9) nibble_sum nibble_product nibble_inverse) element in
    let told = c.bits.ensures ∙ ap read_nibbles inverted in
    let back = ap byte (c.sum_of_columns.ensures ∙ ap (by_columns nibble_back) told) ∙ out_inverse (pair_laws nibble_laws) nibbles_join (byte a) in
    subst (Inverts a) (sym (sym (byte-value r (omega arith)) ∙ ap (λ b. b.value) back)) (inverse_inverts a (omega arith))
