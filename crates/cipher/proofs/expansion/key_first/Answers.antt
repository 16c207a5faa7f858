use Rattle.std.proofs.Common.{◌≡◌, ◌/◌, ◌++◌, ℕ, List, length, take, drop, sym, ap, ◌∙◌, arith}
use Rattle.std.proofs.Math.Seq.{take-append_seam}
use Rattle.std.specs.Simd.{first_chunks}
use Rattle.cipher.specs.Keys.{zero_arrays}
use Rattle.cipher.specs.Layout.{in_a_row}
use Rattle.cipher.proofs.Expansions.{chunks_words, chunks_key, sized}
use Rattle.cipher.proofs.expansion.key_first.Goals as goal

front_taken : (n : ℕ) (copied front chunks rest : List (List ℕ)) → copied ≡ front → front ≡ chunks → length front ≡ n → take n (copied ++ rest) ≡ chunks
front_taken n copied front chunks rest p q l = ap (λ m. take m (copied ++ rest)) (sym (ap length p ∙ l)) ∙ take-append_seam copied rest ∙ p ∙ q

pub returns-clause-value : goal.returns-clause-value
returns-clause-value c =
    let key = c.args.key.now in
    let n = length key / 4 in
    let chunks = c.as_chunks.ensures in
    front_taken n c.copy_from_slice.new.self c.as_chunks.result.0.now (first_chunks 4 n key) (drop (length c.as_chunks.result.0.now) (zero_arrays 60))
    c.copy_from_slice.ensures.after chunks.front chunks.front_len
    ∙ chunks_words key (λ k. (c.type_inv.key k).fits) n (omega (arith, (sized (length key) c.requires).quarters))

pub returns-clause-bytes : goal.returns-clause-bytes
returns-clause-bytes c =
    let key = c.args.key.now in
    let n = length key / 4 in
    let chunks = c.as_chunks.ensures in
    ap in_a_row (front_taken n c.copy_from_slice.new.self c.as_chunks.result.0.now (first_chunks 4 n key) (drop (length c.as_chunks.result.0.now) (zero_arrays 60))
    c.copy_from_slice.ensures.after chunks.front chunks.front_len)
    ∙ chunks_key key n (sized (length key) c.requires).quarters
