use Rattle.std.proofs.Common.{[], rules}
use Rattle.cipher.specs.Fips197.{mix_column, mix_columns}
use Rattle.cipher.proofs.Layouts.{state_of_mapped}
use Rattle.cipher.proofs.state.mix_columns.Goals as goal

pub returns : goal.returns
unfolding mix_columns
returns c = state_of_mapped mix_column _ _ (λ i h. let k = c.map.ensures.items.at i [] [] h in search rules)
