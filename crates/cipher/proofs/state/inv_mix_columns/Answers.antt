use Rattle.std.proofs.Common.{◌≡◌, [], get_or, rules, sym, ap, ◌∙◌}
use Rattle.cipher.specs.Fips197.{word, word_bytes, inv_mix_column, inv_mix_columns}
use Rattle.cipher.specs.Layout.{by_matrix}
use Rattle.cipher.proofs.Columns.{x09, x0b, x0d, x0e, inv_mix_is}
use Rattle.cipher.proofs.Layouts.{state_of_mapped}
use Rattle.cipher.proofs.state.inv_mix_columns.Goals as goal

pub returns : goal.returns
unfolding inv_mix_columns
returns c =
    state_of_mapped inv_mix_column _ _ (λ i h.
    let called = c.map.ensures.items.at i [] [] h in
    let made : get_or c.map.result i [] ≡ word_bytes (by_matrix x0e x0b x0d x09 (word (get_or c.args.s i []))) = search rules in
    made ∙ ap word_bytes (sym (inv_mix_is _)))
