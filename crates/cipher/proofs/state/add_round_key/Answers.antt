use Rattle.cipher.specs.Fips197.{add_round_key}
use Rattle.cipher.specs.Layout.{columns_state}
use Rattle.cipher.proofs.Layouts.{columns_of}
use Rattle.cipher.proofs.state.add_round_key.Goals as goal

pub returns : goal.returns
unfolding columns_state add_round_key
returns c = columns_of _ _ _ _ _ _ _ _ c.add.ensures c.add-2.ensures c.add-3.ensures c.add-4.ensures
