use Rattle.std.proofs.Common.{Some, None, refl, inl, inr, arith}
use Rattle.std.proofs.lemmas.Str.Pattern.{split_parts}
use Rattle.console.proofs.word.first_word.Goals as goal

pub returns-in-Some : goal.returns-in-Some
returns-in-Some c =
    let parts = split_parts 32 c.trim-text.result.now (Some (c.in-Some.word, c.in-Some.rest)) c.in-Some.ensures.cases (omega arith) in
    record { trimmed = c.trim-text.result.now; trims = c.trim-text.ensures.value; solid = parts.1; parts = inr (c.in-Some.rest.now, parts.0, c.trim.ensures.value) }

pub returns-in-None : goal.returns-in-None
returns-in-None c =
    let parts = split_parts 32 c.trim-text.result.now None c.in-None.ensures.cases (omega arith) in
    record { trimmed = c.trim-text.result.now; trims = c.trim-text.ensures.value; solid = parts; parts = inl (refl, refl) }
