use Rattle.std.proofs.Common.{ap, ◌∙◌}
use Rattle.cipher.specs.Fips197.{each_byte, each_column, state}
use Rattle.cipher.proofs.Layouts.{state_mapped}
use Rattle.cipher.proofs.Undoing.{state_of_bytes}
use Rattle.cipher.proofs.state.sub_bytes.Goals as goal

pub returns-clause-value : goal.returns-clause-value
returns-clause-value g c =
    c.from_bytes.ensures ∙ state_mapped g.S.Substitution.at c.to_bytes-bytes.result _ c.substitute.ensures.boxed
    ∙ ap (each_column (each_byte g.S.Substitution.at)) (ap state c.to_bytes-bytes.ensures ∙ state_of_bytes _)
