use Rattle.std.proofs.Common.{get_or, sym, ap, ◌∙◌, subst, arith}
use Rattle.fields.specs.Bytes.{byte}
use Rattle.routes.specs.Formulas.{table_index, inverse_table}
use Rattle.routes.specs.Inverting.{Inverts}
use Rattle.routes.proofs.FormulaLaws.{seventeenth, table_inverts}
use Rattle.routes.proofs.table.TableFormula.steps.Goals as goal

pub returns : goal.returns
returns c =
    let a = c.args.a in
    let a16 = c.sixteenth_and_next.result.0 in
    let b = c.sixteenth_and_next.result.1 in
    let is_a16 = c.sixteenth_and_next.ensures.sixteenth in
    let is_b = c.sixteenth_and_next.ensures.next in
    let is-index = c.index_of-index.ensures.value ∙ ap table_index c.from.ensures in
    record {
      b = seventeenth a (omega arith) a16 b is_a16 is_b;
      index = is-index;
      entry = c.entry_at-entry.ensures;
      inverse =
          subst (Inverts a) (sym (c.from-3.ensures ∙ ap (λ x. x.value) c.product.ensures))
          (table_inverts a (omega arith) a16 b is_a16 is_b c.from-2.result
          (c.from-2.ensures ∙ ap byte (c.entry_at-entry.ensures ∙ ap (λ i. get_or inverse_table i 0) is-index)));
    }
