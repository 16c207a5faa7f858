-- Lists of figures, one after the other.
use Rattle.std.proofs.Common.{List, [], ◌∷◌, ◌++◌}
use Rattle.fields.specs.Figures.{Figure, ComeOut}

pub come_out_both : (xs ys : List Figure) → ComeOut xs → ComeOut ys → ComeOut (xs ++ ys)
come_out_both [] ys p q = q
come_out_both (x ∷ xs) ys p q = (p.0, come_out_both xs ys p.1 q)
