-- Covering step by step: bytes by their places, one block, and pieces that are written in place. Assumes nothing.
use Rattle.std.proofs.Common.{◌≡◌, ℕ, zero, suc, ◌+◌, ◌-◌, ◌*◌, ◌<◌, ◌≤◌, min, true, List, [], ◌∷◌, ◌++◌, length, get_or, take, drop, is_ok, Some, None, Ok, Err, Option, Result, sym, refl, ap, ◌∙◌, ⊎_elim, not-suc-le-zero, mul-suc, add-one, arith, length-drop, length-take-le, take_all, drop-drop, take_at, ext_get_or, drop_at, below_more}
use lib.Bits.{bit_xor}
use borrow.Rule.Slice.PartMut.{put_mid}
use Rattle.std.proofs.lemmas.List.{nil_from_length, take-append-drop, append-nil}
use Rattle.std.proofs.lemmas.Slice.{drop-put_mid}
use Rattle.std.proofs.lemmas.Result.{MatchResult-at_ok}
use Rattle.std.proofs.lemmas.Bool.{cases_lt}
use Rattle.std.proofs.lemmas.Bool.Decides.{nat_tests}
use Rattle.cipher.specs.Engines.{engine_key, block_verdict, Turned, TurnedBy}
use Rattle.cipher.specs.Fips197.{aes}
use Rattle.cipher.specs.declared.engine.Engine.{Engine}
use Rattle.routes.specs.Refusals.{numbers}
use Rattle.routes.specs.Routes.{cap}
use Rattle.routes.specs.declared.refusal.Refusal.{Refusal}
use Rattle.cipher.specs.Keys.{key_length, key_rounds}
use Rattle.sessions.specs.Counters.{counter_block, piece, plus}
use Rattle.sessions.specs.Covering.{Ready, Spent, Added, key_of}
use Rattle.sessions.specs.Histories.{encrypted}
use Rattle.sessions.specs.Reading.{key_or_none}
use Rattle.sessions.proofs.Pieces.{length-plus, piece_of_front}

-- ---- bytes by their places

pub get_or-plus : (xs ys : List ℕ) (k : ℕ) → k < length xs → k < length ys → get_or (plus xs ys) k 0 ≡ bit_xor (get_or xs k 0) (get_or ys k 0)
unfolding plus
get_or-plus [] ys k h l = absurd (not-suc-le-zero h)
get_or-plus (x ∷ xs) [] k h l = absurd (not-suc-le-zero l)
get_or-plus (x ∷ xs) (y ∷ ys) zero h l = refl
get_or-plus (x ∷ xs) (y ∷ ys) (suc k) h l = get_or-plus xs ys k (omega arith) (omega arith)

-- A list is the sum of two if its bytes are.
pub plus_by_places : (xs ys zs : List ℕ) → length zs ≡ length xs → length xs ≤ length ys → ((k : ℕ) → k < length xs → get_or zs k 0 ≡ bit_xor (get_or xs k 0) (get_or ys k 0)) → zs ≡ plus xs ys
plus_by_places xs ys zs e l same =
    ext_get_or 0 zs (plus xs ys) (omega (arith, length-plus xs ys)) (λ k h. same k (omega arith) ∙ sym (get_or-plus xs ys k (omega arith) (omega arith)))

-- ---- one block

-- An engine that is ready takes a block.
ready_verdict : (o : Option (List ℕ)) (n t : ℕ) → key_length (length (key_or_none o)) ≡ true → t + key_rounds (length (key_or_none o)) * 1 ≤ cap → n ≡ 16 → block_verdict o n t ≡ None
ready_verdict None n t keyed paid e = let no_way : ⊥ = grind arith in absurd no_way
ready_verdict (Some key) n t keyed paid e = grind (arith, nat_tests)

module _ {R : Type 0} (tally : R → ℕ) (before after : Engine R) (block block' : List ℕ) where
  pub ready_is_ok : {X : Type 0} (r : Result X Refusal) → Ready tally before 1 → length block ≡ 16 → Turned tally before after aes block block' r → is_ok r ≡ true
  ready_is_ok (Ok x) ready e turned = refl
  ready_is_ok (Err d) ready e turned =
      let taken : block_verdict (engine_key before) (length block) (tally before.route) ≡ None = ready_verdict (engine_key before) (length block) _ ready.keyed ready.paid e in
      let refused : Some (numbers d) ≡ None = sym turned.0 ∙ taken in
      let no_way : ⊥ = grind arith in
      absurd no_way

  turned_by : (o : Option (List ℕ)) → TurnedBy tally before after aes o block block' → (block' ≡ encrypted (key_or_none o) block) × (key_of after ≡ key_or_none o) × (tally after.route ≡ tally before.route + key_rounds (length (key_or_none o)))
  unfolding encrypted
  turned_by None h = absurd h
  turned_by (Some key) h = (h.0, ap key_or_none h.1, h.2)

  -- What a block that was taken leaves.
  pub turned_block : {X : Type 0} {r : Result X Refusal} {x : X} → r ≡ Ok x → Turned tally before after aes block block' r → (block' ≡ encrypted (key_of before) block) × Spent tally before after 1
  turned_block {x = x} is turned =
      let t = turned_by (engine_key before) (MatchResult-at_ok _ _ x is turned).1 in
      (t.0, record { same_key = t.1; counts = omega (arith, t.2) })

-- ---- pieces that are written in place

module _ (xs ys : List ℕ) (p end : ℕ) (starts : 16 * p ≤ length xs) (ends : end ≡ min (length xs) (16 * p + 16)) where
  -- The part of a run that is handed on is a piece of it.
  pub part_is_piece : take (end - 16 * p) (drop (16 * p) xs) ≡ piece xs p
  unfolding piece
  part_is_piece = ⊎_elim at_end inside (cases_lt (length xs) (16 * p + 16))
    where
      inside : 16 * p + 16 ≤ length xs → take (end - 16 * p) (drop (16 * p) xs) ≡ take 16 (drop (16 * p) xs)
      inside h = let e : end - 16 * p ≡ 16 = omega arith in ap (λ n. take n (drop (16 * p) xs)) e

      at_end : length xs < 16 * p + 16 → take (end - 16 * p) (drop (16 * p) xs) ≡ take 16 (drop (16 * p) xs)
      at_end h =
          take_all (end - 16 * p) (drop (16 * p) xs) (simp length-drop (omega arith)) ∙ sym (take_all 16 (drop (16 * p) xs) (simp length-drop (omega arith)))

  module _ (fits : length ys ≡ end - 16 * p) where
    abbrev written : List ℕ
    written = put_mid (16 * p) (end - 16 * p) xs ys

    abbrev post : List ℕ
    post = drop (end - 16 * p) (drop (16 * p) xs)

    -- The pieces before it stay.
    pub piece_before : (q : ℕ) → q < p → piece written q ≡ piece xs q
    piece_before q h =
        let e : 16 * q + 16 ≤ length (take (16 * p) xs) = omega (arith, length-take-le (16 * p) xs starts) in
        piece_of_front (take (16 * p) xs) _ q e ∙ sym (piece_of_front (take (16 * p) xs) (drop (16 * p) xs) q e) ∙ ap (λ zs. piece zs q) (take-append-drop (16 * p) xs)

    -- It is what was written.
    pub piece_written : piece written p ≡ ys
    unfolding piece
    piece_written = ap (take 16) (drop_at (take (16 * p) xs) (ys ++ post) (16 * p) (length-take-le (16 * p) xs starts)) ∙ ⊎_elim at_end inside (cases_lt (length xs) (16 * p + 16))
      where
        inside : 16 * p + 16 ≤ length xs → take 16 (ys ++ post) ≡ ys
        inside h = take_at ys post 16 (omega arith)

        at_end : length xs < 16 * p + 16 → take 16 (ys ++ post) ≡ ys
        at_end h =
            let none_left : post ≡ [] = nil_from_length post (simp length-drop (omega arith)) in
            ap (λ zs. take 16 (ys ++ zs)) none_left ∙ ap (take 16) (append-nil ys) ∙ take_all 16 ys (omega arith)

    -- What comes after it stays.
    pub rest_after : drop (16 * (p + 1)) written ≡ drop (16 * (p + 1)) xs
    rest_after = drop-put_mid (16 * p) (end - 16 * p) xs ys (16 * (p + 1)) (omega arith) starts fits

    -- So one more piece has been covered.
    pub added_more : (run key prefix : List ℕ) (first : ℕ) → Added key prefix first p run xs → drop (16 * p) xs ≡ drop (16 * p) run → ys ≡ plus (take (end - 16 * p) (drop (16 * p) xs)) (encrypted key (counter_block prefix (first + p))) → Added key prefix first (p + 1) run written
    unfolding piece
    added_more run key prefix first before rest here =
        below_more _ _ (λ q h. piece_before q h ∙ before q h) (piece_written ∙ here ∙ ap (λ b. plus b (encrypted key (counter_block prefix (first + p)))) (part_is_piece ∙ ap (take 16) rest))

-- The rest from a piece on is the rest from the piece before, without its first sixteen bytes.
pub rest_from : (xs ys : List ℕ) (p : ℕ) → drop (16 * p) xs ≡ drop (16 * p) ys → drop (16 * (p + 1)) xs ≡ drop (16 * (p + 1)) ys
rest_from xs ys p e =
    let n : 16 * (p + 1) ≡ 16 * p + 16 = omega arith in
    ap (λ m. drop m xs) n ∙ sym (drop-drop 16 (16 * p) xs) ∙ ap (drop 16) e ∙ drop-drop 16 (16 * p) ys ∙ ap (λ m. drop m ys) (sym n)

-- ---- the engine over several blocks

module _ {R : Type 0} (tally : R → ℕ) where
  module _ {e e' : Engine R} {p : ℕ} (spent : Spent tally e e' p) where
    abbrev rounds : ℕ
    rounds = key_rounds (length (key_of e))

    same_rounds : key_rounds (length (key_of e')) ≡ rounds
    same_rounds = ap (λ key. key_rounds (length key)) spent.same_key

    pub spent_more : {e'' : Engine R} → Spent tally e' e'' 1 → Spent tally e e'' (p + 1)
    spent_more one =
        record {
          same_key = one.same_key ∙ spent.same_key;
          counts = rw add-one (omega (arith, one.counts, spent.counts, same_rounds, mul-suc rounds p));
        }
