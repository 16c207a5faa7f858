use Rattle.std.proofs.Common.{ap}
use Rattle.cipher.specs.Fips197.{state_of, shift_rows, inv_shift_rows}
use Rattle.cipher.specs.Layout.{columns_state}
use Rattle.cipher.proofs.state.inv_shift_rows.Goals as goal

pub returns : goal.returns
unfolding columns_state shift_rows inv_shift_rows
returns c = ap (λ t. state_of t.c0 t.c3 t.c2 t.c1) c.shift_rows.ensures
