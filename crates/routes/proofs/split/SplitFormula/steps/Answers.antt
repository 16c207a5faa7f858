use Rattle.std.proofs.Common.{cond, eqb, sym, ap, ◌∙◌, subst, ap₂, arith}
use Rattle.fields.specs.Bytes.{byte, byte_sum}
use Rattle.routes.specs.Formulas.{by_bits}
use Rattle.routes.specs.Inverting.{Inverts}
use Rattle.routes.proofs.FormulaLaws.{seventeenth, split_inverts}
use Rattle.routes.proofs.Inversions.{picked}
use Rattle.routes.proofs.split.SplitFormula.steps.Goals as goal

pub returns : goal.returns
unfolding picked
returns c =
    let a = c.args.a in
    let a16 = c.sixteenth_and_next.result.0 in
    let b = c.sixteenth_and_next.result.1 in
    let is_a16 = c.sixteenth_and_next.ensures.sixteenth in
    let is_b = c.sixteenth_and_next.ensures.next in
    let is-b4 = c.from-b4.ensures ∙ ap byte (c.sum_by_bits.ensures ∙ ap (by_bits 0xB0 0xE1 0x0C) c.from.ensures) in
    let is-b8 = c.from-b8.ensures ∙ ap byte (c.sum_by_bits-2.ensures ∙ ap (by_bits 0xED 0x5C 0x50) c.from-2.ensures) in
    let is-t = c.sum-t.ensures ∙ ap (λ x. byte_sum x c.from-b4.result) c.product.ensures in
    let is-u = c.from-inverse_of_b.ensures ∙ ap byte (c.or_else.ensures ∙ ap₂ (λ t s. cond (eqb t 0) s t) c.from-3.ensures c.from-4.ensures) in
    record {
      b = seventeenth a (omega arith) a16 b is_a16 is_b;
      b4 = is-b4;
      b8 = is-b8;
      t = is-t;
      inverse =
          subst (Inverts a) (sym (c.from-5.ensures ∙ ap (λ x. x.value) c.product-2.ensures))
          (split_inverts a (omega arith) a16 b is_a16 is_b c.from-b4.result c.from-b8.result c.sum-t.result
          c.from-inverse_of_b.result is-b4 is-b8 is-t is-u);
    }
