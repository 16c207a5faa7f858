-- A route chosen by name: what it holds. Assumes nothing.
use Rattle.std.specs.Prelude.{ℕ, List}
use Rattle.routes.specs.Names.{name_text}
use Rattle.routes.specs.declared.any_formula.AnyFormula.{AnyFormula}
use Rattle.routes.specs.declared.any_formula.AnyFormula.TheVariants.{ByPower, BySplit, ByTable, ByPair, ByTower}
use Rattle.routes.specs.declared.metered.Metered.{Metered}
use Rattle.routes.specs.declared.name.RouteName.TheVariants.{Power, Split, Table, NibblePair, BitTower}

-- A formula's name goes with its type.
abbrev pub formula_name : AnyFormula → List ℕ
formula_name (ByPower f) = name_text Power
formula_name (BySplit f) = name_text Split
formula_name (ByTable f) = name_text Table
formula_name (ByPair f) = name_text NibblePair
formula_name (ByTower f) = name_text BitTower

abbrev pub AnyRoute : Type 0
AnyRoute = Metered AnyFormula

abbrev pub any_tally : AnyRoute → ℕ
any_tally r = r.tally

abbrev pub any_name : AnyRoute → List ℕ
any_name r = formula_name r.formula
