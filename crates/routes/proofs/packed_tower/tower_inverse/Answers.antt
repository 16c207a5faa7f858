use Rattle.std.proofs.Common.{sym, ap, ◌∙◌, subst, arith}
use Rattle.fields.specs.Bytes.{byte}
use Rattle.fields.specs.Matrices.{by_columns}
use Rattle.fields.specs.Towers.{make_tower, read_tower, tower_columns, tower_back}
use Rattle.fields.specs.BitLaws.{bit_laws}
use Rattle.fields.proofs.JoinFacts.{out_inverse}
use Rattle.fields.specs.PairLaws.{pair_laws}
use Rattle.fields.specs.Readings.{tower_readable}
use Rattle.fields.specs.TowerJoins.{tower_joins}
use Rattle.fields.specs.WordLaws.{byte-value}
use Rattle.routes.specs.Inverting.{Inverts}
use Rattle.routes.specs.PackedTower.{tower_inverse}
use Rattle.routes.proofs.Inversions.{inverse_inverts}
use Rattle.routes.proofs.packed_tower.tower_inverse.Goals as goal

pub returns : goal.returns
returns c =
    let a = c.args.a in
    let r = c.sum_of_columns.result in
    let inverse = c.inverse8-inverse.result in
    let image = c.sum_of_columns-image.ensures ∙ ap (by_columns tower_columns) (sym (byte-value a (omega arith))) in
    let held = c.inverse8-inverse.ensures ∙ ap (λ n. tower_inverse (make_tower n)) image in
    let told = sym (tower_readable.read_made inverse (omega arith)) ∙ ap read_tower held in
    let back = ap byte (c.sum_of_columns.ensures ∙ ap (by_columns tower_back) told) ∙ out_inverse (pair_laws (pair_laws (pair_laws bit_laws))) tower_joins (byte a) in
    subst (Inverts a) (sym (sym (byte-value r (omega arith)) ∙ ap (λ b. b.value) back)) (inverse_inverts a (omega arith))
