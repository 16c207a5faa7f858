use Rattle.std.proofs.Common.{ℕ, Fits, w8, get_or, rules, sym, ap, ◌∙◌}
use Rattle.fields.specs.WordLaws.{byte-value}
use Rattle.cipher.specs.Fips197.{word, word_at, word_bytes}
use Rattle.cipher.proofs.Lists.{four}
use Rattle.cipher.proofs.state.plain.Goals as goal

pub returns : goal.returns
unfolding word_at word_bytes
returns c =
    let known : (i : ℕ) → Fits w8 (get_or c.as_slice-bytes.result.now i 0) = search rules in
    four (sym (byte-value _ (known 0).fits)) (sym (byte-value _ (known 1).fits)) (sym (byte-value _ (known 2).fits)) (sym (byte-value _ (known 3).fits))
    ∙ ap (λ w. word_bytes (word w)) c.as_slice-bytes.ensures
