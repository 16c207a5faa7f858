use Rattle.std.proofs.Common.{cond, eqb, ap, ◌∙◌, ap₂, arith}
use Rattle.fields.specs.Bytes.{byte_sum, byte_product}
use Rattle.fields.specs.WordLaws.{byte_laws}
use Rattle.routes.specs.Formulas.{byte_power}
use Rattle.routes.proofs.FormulaLaws.{power_inverts}
use Rattle.routes.proofs.power.PowerFormula.steps.Goals as goal

pub returns : goal.returns
returns c =
    let s = c.eighty_fourth-s.result in
    let is-s = c.eighty_fourth-s.ensures ∙ ap (byte_power 84) c.from-element.ensures in
    let as' = c.product.ensures ∙ byte_laws.product_comm s c.from-element.result ∙ ap (λ x. byte_product x s) c.from-element.ensures in
    let is_r = c.sum-r.ensures ∙ ap (λ x. byte_sum x s) (c.product-2.ensures ∙ byte_laws.product_comm s c.product.result ∙ ap (λ x. byte_product x s) as') in
    record {
      s = is-s;
      r = is_r;
      inverse =
          power_inverts c.args.a s c.sum-r.result c.or_else.result (omega arith) is-s is_r
          (c.or_else.ensures ∙ ap₂ (λ r s. cond (eqb r 0) s r) c.from.ensures c.from-2.ensures);
    }
