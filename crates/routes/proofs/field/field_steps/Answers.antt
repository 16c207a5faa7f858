use Rattle.std.proofs.Common.{sym, ap, ◌∙◌, subst, arith}
use Rattle.fields.specs.Bytes.{byte}
use Rattle.fields.proofs.JoinFacts.{out_inverse}
use Rattle.routes.specs.Inverting.{Inverts}
use Rattle.routes.proofs.Inversions.{inverse_inverts}
use Rattle.routes.proofs.field.field_steps.Goals as goal

pub returns : goal.returns
returns g c =
    let m = g.F.ByteMap in
    let image = c.into-image.ensures ∙ ap m.into c.from.ensures in
    let inverted = c.inverse-image_inverse.ensures ∙ ap g.F.Field.inverse image in
    let back = c.out.ensures ∙ ap m.out inverted ∙ out_inverse g.met.F.Field.laws g.met.F.ByteMap.joined (byte c.args.a) in
    record {
      image = c.bits.ensures ∙ ap m.bits image;
      inverted = c.bits-2.ensures ∙ ap m.bits inverted;
      inverse = subst (Inverts c.args.a) (sym (c.from-2.ensures ∙ ap (λ b. b.value) back)) (inverse_inverts c.args.a (omega arith));
    }
