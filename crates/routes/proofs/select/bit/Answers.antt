use Rattle.std.proofs.Common.{◌/◌, ◌^◌, ◌<◌, sym, subst}
use lib.Bits.{and_mask}
use Rattle.fields.specs.Polynomials.{coefficient}
use Rattle.fields.specs.Additive.{coefficient_lt}
use Rattle.routes.proofs.select.bit.Goals as goal

pub returns : goal.returns
unfolding coefficient
returns c =
    let is = and_mask (c.args.byte / 2 ^ c.args.place) 1 in
    record { value = is; bound = subst (λ n. n < 2) (sym is) (coefficient_lt c.args.place c.args.byte) }
