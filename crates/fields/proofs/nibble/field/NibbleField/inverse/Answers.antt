use Rattle.std.proofs.Common.{◌<◌, sym, ◌∙◌, arith}
use Rattle.fields.specs.FieldFacts.{inverse_unique}
use Rattle.fields.specs.WordLaws.{nibble_laws, none_fits}
use Rattle.fields.proofs.nibble.field.NibbleField.inverse.Goals as goal

pub returns-then-eq : goal.returns-then-eq
returns-then-eq c =
    inverse_unique nibble_laws c.args.self c.low-trial.result
    (sym c.product.ensures ∙ nibble_laws.same_means _ _ (sym c.if-eq.ensures) ∙ c.one.ensures)

pub returns : goal.returns
returns c =
    c.zero.ensures ∙ none_fits c.args.self (λ t low high. let below : t < c.loop-value.value = omega arith in c.loop-value.invariant t low below)
