use Rattle.std.proofs.Common.{sym, ap, ◌∙◌}
use Rattle.fields.specs.Bytes.{byte}
use Rattle.fields.proofs.JoinFacts.{out_inverse}
use Rattle.routes.proofs.Inversions.{inverts_is}
use Rattle.views.proofs.trail.through.Goals as goal

-- An element is the image of what it is the image of, and the field's inverse comes out as the byte field's.
pub returns : goal.returns
returns g c =
    let m = g.F.ByteMap in
    let joined = g.met.F.ByteMap.joined in
    let went = c.field_steps.ensures in
    let a = c.args.a in
    let back = out_inverse g.met.F.Field.laws joined (byte a) ∙ sym (inverts_is a c.field_steps.result.inverse went.inverse) in
    record {
      image = went.image;
      inverted = went.inverted ∙ ap m.bits (sym (joined.into_out (g.F.Field.inverse (m.into (byte a)))) ∙ ap m.into back);
      inverse = went.inverse;
    }
