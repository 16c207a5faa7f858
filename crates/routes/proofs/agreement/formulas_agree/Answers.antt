use Rattle.std.proofs.Common.{◌≡◌, ℕ, ◌<◌, true, Bool, eqb, rules, ◌∙◌}
use Rattle.std.proofs.lemmas.Iterator.{YieldsList-from_slice}
use Rattle.std.proofs.lemmas.Iterator.Search.{all_from_yields_List}
use Rattle.routes.specs.Inverting.{Inverts}
use Rattle.routes.proofs.Inversions.{determined}
use Rattle.routes.proofs.agreement.formulas_agree.Goals as goal
use Rattle.std.proofs.lemmas.Bool.{eq-eqb}

-- two bytes that invert the same byte compare equal
equal : (a r r' : ℕ) (b : Bool) → r < 256 → r' < 256 → Inverts a r → Inverts a r' → b ≡ eqb r r' → b ≡ true
equal a r r' b h h' i i' e = e ∙ eq-eqb r r' (determined a r r' h h' i i')

pub returns : goal.returns
returns c = record {
  agree = all_from_yields_List (λ _. true) _ _ c.all.result c.all.ensures.ran (YieldsList-from_slice _ c.iter.ensures.rest) (λ x b q k. search (rules, equal, c.inverse-inverse.ensures, c.inverse-inverse.type_inv));
  determined = determined;
}
