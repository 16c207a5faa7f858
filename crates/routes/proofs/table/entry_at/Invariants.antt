use Rattle.std.proofs.Common.{◌≡◌, cond, ltb, get_or}
use Rattle.routes.specs.Formulas.{inverse_table}
use Rattle.routes.proofs.table.entry_at.Given as goal

abbrev pub invariant-loop-i : goal.invariant-loop-i
invariant-loop-i l = l.found ≡ cond (ltb l.index l.i) (get_or inverse_table l.index 0) 0
