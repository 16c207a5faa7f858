use Rattle.std.proofs.Common.{◌≡◌, ◌+◌, ◌*◌, ◌%◌, ◌^◌, sym, refl, subst, w8, Fits}
use Rattle.fields.specs.Matrices.{first_rows}
use Rattle.fields.specs.Rows.{rows_turn, rows_fit}
use Rattle.fields.proofs.matrix.image.Goals as goal

turn : (c : goal.After-parity) → c.loop-i.image + c.parity.result * 2 ^ c.loop-i.i % 256 ≡ first_rows (c.loop-i.i + 1) c.args.rows.now c.args.byte
turn c = rows_turn c.loop-i.i c.args.rows.now c.args.byte _ _ c.loop-i-test.true c.loop-i.invariant c.parity.ensures

pub loop-i-init : goal.loop-i-init
unfolding first_rows
loop-i-init c = refl

pub overflow_add-image : goal.overflow_add-image
overflow_add-image c = subst (λ n. Fits w8 n) (sym (turn c)) (record { fits = rows_fit c.loop-i.i c.args.rows.now c.args.byte c.loop-i-test.true })

pub loop-i-preserved : goal.loop-i-preserved
loop-i-preserved c = turn c
