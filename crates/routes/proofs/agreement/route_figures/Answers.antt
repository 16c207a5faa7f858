use Rattle.std.proofs.Common.{◌+◌, refl, ap}
use Rattle.fields.specs.Polynomials.{coefficient}
use Rattle.routes.specs.Formulas.{table_index}
use Rattle.routes.proofs.agreement.route_figures.Goals as goal

pub returns : goal.returns
unfolding table_index coefficient
returns c =
    let f = c.«field_figures».ensures.hold in
    record { count = ap (λ n. n + 1) c.«field_figures».ensures.count; hold = (f.0, (f.1.0, (f.1.1.0, (f.1.1.1.0, (f.1.1.1.1.0, (refl, tt)))))) }
