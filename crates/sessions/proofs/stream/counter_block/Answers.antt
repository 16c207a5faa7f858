use Rattle.std.proofs.Common.{◌≡◌, ℕ, List, [], ◌∷◌, ◌++◌, length, drop, ap, ◌∙◌, ap₂, take_at, drop_at}
use borrow.Rule.Slice.PartMut.{put_mid}
use Rattle.std.proofs.lemmas.List.{append-nil}
use Rattle.sessions.specs.Counters.{counter_block, four_bytes}
use Rattle.sessions.proofs.stream.counter_block.Goals as goal

abbrev zeros : List ℕ
zeros = 0 ∷ 0 ∷ 0 ∷ 0 ∷ []

-- Twelve bytes and four are written one after the other.
written : (xs ys : List ℕ) → length xs ≡ 12 → put_mid 12 4 (xs ++ zeros) ys ≡ xs ++ ys
written xs ys e =
    ap₂ (λ front back. front ++ (ys ++ drop 4 back)) (take_at xs zeros 12 e) (drop_at xs zeros 12 e) ∙ ap (λ zs. xs ++ zs) (append-nil ys)

pub returns : goal.returns
unfolding counter_block four_bytes
returns c =
    let number = c.copy_from_slice-2.ensures.after ∙ c.to_be_bytes.ensures in
    ap₂ (λ xs ys. put_mid 12 4 (xs ++ zeros) ys) c.copy_from_slice.ensures.after number ∙ written c.args.prefix.now _ c.told-prefix
