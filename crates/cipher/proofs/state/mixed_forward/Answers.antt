use Rattle.std.proofs.Common.{ap, ◌∙◌, arith}
use Rattle.cipher.specs.Fips197.{mix_column, word_bytes}
use Rattle.cipher.proofs.ColumnMaps.{mixed_bytes, column_of}
use Rattle.cipher.proofs.state.mixed_forward.Goals as goal

pub returns : goal.returns
returns c =
    let v = c.from_le_bytes-v.result in
    c.to_le_bytes.ensures ∙ mixed_bytes v (omega arith)
    ∙ ap (λ w. word_bytes (mix_column w)) (column_of c.args.w c.plain.result v c.plain.ensures c.from_le_bytes-v.ensures)
