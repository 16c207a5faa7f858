-- Worked figures of the routes. Assumes nothing.
use Rattle.std.specs.Prelude.{List, [], ◌∷◌, codes, slice_index}
use Rattle.fields.specs.Figures.{Figure}
use Rattle.routes.specs.Formulas.{table_index, inverse_table}

abbrev pub route_figures : List Figure
route_figures =
    record { label = codes "the place of B0 in the table of inverses, and the entry there"; given = table_index 0xB0 ∷ slice_index inverse_table (table_index 0xB0) ∷ []; published = 2 ∷ 0x0C ∷ [] }
    ∷ []
