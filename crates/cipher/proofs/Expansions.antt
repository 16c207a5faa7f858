-- Key expansion in arrays of four bytes: one word after another, and what they cost. Assumes nothing.
use Rattle.std.proofs.Common.{◌≡◌, ℕ, zero, suc, ◌+◌, ◌-◌, ◌*◌, ◌/◌, ◌%◌, ◌<◌, ◌≤◌, Bool, true, false, cond, ◌&&◌, ◌||◌, eqb, ltb, List, [], ◌∷◌, ◌++◌, length, get_or, take, drop, set, sym, refl, ap, ◌∙◌, subst, ap₂, inl, inr, le_refl, not-suc-le-zero, add-zero, add-suc, add-one, arith, lit≤, take-add}
use Rattle.std.proofs.Math.Seq.{take-length}
use Rattle.std.specs.Simd.{first_chunks}
use Rattle.std.proofs.lemmas.List.{length-map, length_push, length-take-le, length-drop, length-replicate, get_or-take, get_or-map, take_more_set, drop_more, drop-drop, drop-set-lt, drop-replicate, map_push}
use Rattle.std.proofs.lemmas.Bool.{eqb-true, or_cases}
use Rattle.fields.specs.Bytes.{byte}
use Rattle.fields.specs.WordLaws.{byte-value, byte_of-value}
use Rattle.cipher.specs.Fips197.{Word, word, word_at, word_bytes, word_sum, zero_word, words, rot_word, sub_word, rcon, scheduled, next_word, key_expansion, key_schedule, round_key, state_of}
use Rattle.cipher.specs.Keys.{key_length, key_cost, word_cost, words_cost, schedule_length, zero_arrays}
use Rattle.cipher.specs.Layout.{columns_state, held_words, word_lists, in_a_row}
use Rattle.cipher.proofs.Columns.{word_path}
use Rattle.cipher.proofs.Lists.{four}

-- ---- words and arrays

pub word_again : (w : Word) → word (word_bytes w) ≡ w
unfolding word_at word_bytes
word_again w = word_path _ w (byte_of-value w.b0) (byte_of-value w.b1) (byte_of-value w.b2) (byte_of-value w.b3)

pub held_again : (ws : List Word) → held_words (word_lists ws) ≡ ws
held_again [] = refl
held_again (w ∷ ws) = ap₂ (λ v vs. v ∷ vs) (word_again w) (held_again ws)

-- Arrays of which the first n hold words.
module _ (arrays : List (List ℕ)) (n : ℕ) (ws : List Word) (held : take n arrays ≡ word_lists ws) where
  pub held_length : n ≤ length arrays → length ws ≡ n
  held_length l = sym (length-map ws word_bytes) ∙ ap length (sym held) ∙ length-take-le n arrays l

  pub held_at : (k : ℕ) → k < n → length ws ≡ n → get_or arrays k [] ≡ word_bytes (get_or ws k zero_word)
  held_at k h e =
      sym (get_or-take n arrays k [] h) ∙ ap (λ front. get_or front k []) held ∙ get_or-map word_bytes ws k zero_word [] (omega arith)

  held_word : (k : ℕ) → k < n → length ws ≡ n → word (get_or arrays k []) ≡ get_or ws k zero_word
  held_word k h e = ap word (held_at k h e) ∙ word_again (get_or ws k zero_word)

  pub held_round_key : n ≤ length arrays → (r : ℕ) → 4 * r + 3 < n → columns_state (get_or arrays (4 * r) [] ∷ get_or arrays (4 * r + 1) [] ∷ get_or arrays (4 * r + 2) [] ∷ get_or arrays (4 * r + 3) [] ∷ []) ≡ round_key ws r
  unfolding columns_state round_key
  held_round_key l r h =
      let long = held_length l in
      λ i. state_of (held_word (4 * r) (omega arith) long i) (held_word (4 * r + 1) (omega arith) long i) (held_word (4 * r + 2) (omega arith) long i) (held_word (4 * r + 3) h long i)

-- Of the sixty arrays, those from place i on are not in use.
abbrev pub UnusedPast : ℕ → List (List ℕ) → Type 0
UnusedPast i arrays = drop i arrays ≡ zero_arrays (60 - i)

pub unused_room : (i : ℕ) (arrays : List (List ℕ)) → UnusedPast i arrays → i < 60 → i < length arrays
unused_room i arrays z h = let e = sym (length-drop i arrays) ∙ ap length z ∙ length-replicate (60 - i) _ in omega arith

pub unused_more : (i : ℕ) (arrays : List (List ℕ)) (a : List ℕ) → UnusedPast i arrays → UnusedPast (i + 1) (set arrays i a)
unused_more i arrays a z =
    drop-set-lt (i + 1) arrays i a (omega arith) ∙ sym (drop-drop 1 i arrays) ∙ ap (drop 1) z ∙ drop-replicate 1 (60 - i) _
    ∙ ap zero_arrays (let e : 60 - i - 1 ≡ 60 - (i + 1) = omega arith in e)

-- ---- the key's words

module _ {A : Type 0} (d : A) where
  -- The four elements from place k on.
  abbrev four_at : List A → ℕ → List A
  four_at xs k = get_or xs k d ∷ get_or xs (k + 1) d ∷ get_or xs (k + 2) d ∷ get_or xs (k + 3) d ∷ []

  one_more : (xs : List A) (k n : ℕ) → k < length xs → k + 1 ≡ n → drop k xs ≡ get_or xs k d ∷ drop n xs
  one_more xs k n h e = drop_more xs k d h ∙ ap (λ m. get_or xs k d ∷ drop m xs) e

  pub take_four : (xs : List A) (k : ℕ) → k + 3 < length xs → take 4 (drop k xs) ≡ four_at xs k
  take_four xs k h =
      let p0 = one_more xs k (k + 1) (omega arith) refl in
      let p1 = one_more xs (k + 1) (k + 2) (omega arith) (omega arith) in
      let p2 = one_more xs (k + 2) (k + 3) (omega arith) (omega arith) in
      let p3 = one_more xs (k + 3) (k + 4) h (omega arith) in
      let rest : drop k xs ≡ get_or xs k d ∷ get_or xs (k + 1) d ∷ get_or xs (k + 2) d ∷ get_or xs (k + 3) d ∷ drop (k + 4) xs = cc in
      ap (take 4) rest

-- Chunk k of four elements each.
pub chunk_at : {A : Type 0} (d : List A) (n k : ℕ) (xs : List A) → k < n → get_or (first_chunks 4 n xs) k d ≡ take 4 (drop (4 * k) xs)
chunk_at d zero k xs h = absurd (not-suc-le-zero h)
chunk_at d (suc n) zero xs h = refl
chunk_at d (suc n) (suc k) xs h =
    chunk_at d n k (drop 4 xs) (omega arith) ∙ ap (take 4) (drop-drop (4 * k) 4 xs ∙ ap (λ m. drop m xs) (let e : 4 + 4 * k ≡ 4 * suc k = omega arith in e))

chunks_more : (k : ℕ) (xs : List ℕ) → first_chunks 4 (suc k) xs ≡ first_chunks 4 k xs ++ (take 4 (drop (4 * k) xs) ∷ [])
chunks_more zero xs = refl
chunks_more (suc k) xs =
    ap (λ cs. take 4 xs ∷ cs) (chunks_more k (drop 4 xs))
    ∙ ap (λ c. take 4 xs ∷ first_chunks 4 k (drop 4 xs) ++ (take 4 c ∷ [])) (drop-drop (4 * k) 4 xs ∙ ap (λ n. drop n xs) (let e : 4 + 4 * k ≡ 4 * suc k = omega arith in e))

-- The chunks of a key hold its words.
pub chunks_words : (key : List ℕ) → ((k : ℕ) → get_or key k 0 < 256) → (n : ℕ) → 4 * n ≤ length key → first_chunks 4 n key ≡ word_lists (words n key)
unfolding words word_at word_bytes
chunks_words key fits zero h = refl
chunks_words key fits (suc n) h =
    let value : (k : ℕ) → get_or key k 0 ≡ (byte (get_or key k 0)).value = λ k. sym (byte-value _ (fits k)) in
    chunks_more n key
    ∙ ap₂ (λ cs c. cs ++ (c ∷ [])) (chunks_words key fits n (omega arith)) (take_four 0 key (4 * n) (omega arith) ∙ four (value _) (value _) (value _) (value _))
    ∙ sym (map_push word_bytes (words n key) (word_at key (4 * n)))

chunks_in_a_row : (n : ℕ) (xs : List ℕ) → in_a_row (first_chunks 4 n xs) ≡ take (4 * n) xs
unfolding in_a_row
chunks_in_a_row zero xs = refl
chunks_in_a_row (suc n) xs =
    ap (λ ys. take 4 xs ++ ys) (chunks_in_a_row n (drop 4 xs)) ∙ sym (take-add 4 (4 * n) xs) ∙ ap (λ m. take m xs) (let e : 4 + 4 * n ≡ 4 * suc n = omega arith in e)

-- The chunks of a key in a row are the key.
pub chunks_key : (key : List ℕ) (n : ℕ) → 4 * n ≡ length key → in_a_row (first_chunks 4 n key) ≡ key
chunks_key key n e = chunks_in_a_row n key ∙ ap (λ m. take m key) e ∙ take-length key

-- ---- what becomes of the word before word i, and what that costs

module _ (nk i : ℕ) (temp : Word) where
  -- By whether i is a multiple of nk, and else whether it is in the middle between two under a long key.
  abbrev pub ways : Bool → Bool → Word
  ways multiple middle =
      elim multiple [
        | true ↦ word_sum (sub_word (rot_word temp)) (rcon (i / nk))
        | false ↦ elim middle [ true ↦ sub_word temp | false ↦ temp ]
      ]

  pub settled : (multiple middle : Bool) → eqb (i % nk) 0 ≡ multiple → (ltb 6 nk && eqb (i % nk) 4) ≡ middle → (scheduled nk i temp ≡ ways multiple middle) × (word_cost nk i ≡ cond (multiple || middle) 1 0)
  unfolding scheduled
  settled multiple middle p q = (ap₂ ways p q, ap₂ (λ a b. cond (a || b) 1 0) p q)

-- ---- one word more

pub expansion_more : (nk i : ℕ) (arrays : List (List ℕ)) (key : List Word) (temp r : List ℕ) → 0 < nk → nk ≤ i → i < length arrays → take i arrays ≡ word_lists (key_expansion nk key (i - nk)) → word temp ≡ scheduled nk i (word (get_or arrays (i - 1) [])) → r ≡ word_bytes (word_sum (word (get_or arrays (i - nk) [])) (word temp)) → take (i + 1) (set arrays i r) ≡ word_lists (key_expansion nk key (i + 1 - nk))
unfolding key_expansion next_word
expansion_more nk i arrays key temp r p h l inv d e =
    let ws = key_expansion nk key (i - nk) in
    let long = held_length arrays i ws inv (omega arith) in
    let made : r ≡ word_bytes (next_word nk ws) =
    e ∙ ap word_bytes (ap₂ word_sum (held_word arrays i ws inv (i - nk) (omega arith) long) (d ∙ ap (scheduled nk i) (held_word arrays i ws inv (i - 1) (omega arith) long)))
    ∙ ap (λ n. word_bytes (word_sum (get_or ws (n - nk) zero_word) (scheduled nk n (get_or ws (n - 1) zero_word)))) (sym long) in
    take_more_set arrays i r l ∙ ap₂ (λ front a. front ++ (a ∷ [])) inv made ∙ sym (map_push word_bytes ws (next_word nk ws))
    ∙ ap (λ n. word_lists (key_expansion nk key n)) (let m : suc (i - nk) ≡ i + 1 - nk = omega arith in m)

-- ---- sizes and costs

words-length : (n : ℕ) (key : List ℕ) → length (words n key) ≡ n
unfolding words
words-length zero key = refl
words-length (suc n) key = length_push (words n key) _ ∙ ap (λ m. m + 1) (words-length n key) ∙ add-one n

expansion_length : (nk : ℕ) (key : List Word) (n : ℕ) → length (key_expansion nk key n) ≡ length key + n
unfolding key_expansion
expansion_length nk key zero = sym (add-zero (length key))
expansion_length nk key (suc n) = length_push (key_expansion nk key n) _ ∙ omega (arith, expansion_length nk key n)

pub schedule_full : (nk : ℕ) (key : List ℕ) → length (key_schedule nk key) ≡ schedule_length nk
unfolding key_schedule
schedule_full nk key = expansion_length nk (words nk key) (schedule_length nk - nk) ∙ omega (arith, words-length nk key)

by_size : (P : ℕ → Type 0) → P 16 → P 24 → P 32 → (n : ℕ) → key_length n ≡ true → P n
by_size P p q r n t =
    elim (or_cases (eqb n 16) _ t) [
      | inl e ↦ subst P (sym (eqb-true n 16 e)) p
      | inr u ↦ elim (or_cases (eqb n 24) _ u) [ inl e ↦ subst P (sym (eqb-true n 24 e)) q | inr e ↦ subst P (sym (eqb-true n 32 e)) r ]
    ]

-- What the size of a key settles.
pub record Sized (n : ℕ) : Type 0 where
  pub quarters : 4 * (n / 4) ≡ n
  pub least : 4 ≤ n / 4
  pub most : schedule_length (n / 4) ≤ 60
  pub cost : words_cost (n / 4) (schedule_length (n / 4) - n / 4) ≡ key_cost n

pub sized : (n : ℕ) → key_length n ≡ true → Sized n
unfolding words_cost
sized =
    by_size Sized (record { quarters = refl; least = lit≤ tt; most = lit≤ tt; cost = refl }) (record { quarters = refl; least = lit≤ tt; most = lit≤ tt; cost = refl })
    (record { quarters = refl; least = lit≤ tt; most = lit≤ tt; cost = refl })

cost_grows : (nk m k : ℕ) → words_cost nk m ≤ words_cost nk (m + k)
unfolding words_cost
cost_grows nk m zero = rw add-zero (le_refl (words_cost nk m))
cost_grows nk m (suc k) = rw add-suc (omega (arith, cost_grows nk m k))

-- Word i costs what it costs, and with it there is room up to word n.
pub cost_more : (nk i : ℕ) → nk ≤ i → words_cost nk (i + 1 - nk) ≡ words_cost nk (i - nk) + word_cost nk i
unfolding words_cost
cost_more nk i h =
    ap (words_cost nk) (let e : i + 1 - nk ≡ suc (i - nk) = omega arith in e)
    ∙ ap (λ m. words_cost nk (i - nk) + word_cost nk m) (let e : nk + (i - nk) ≡ i = omega arith in e)

pub cost_room : (nk i n : ℕ) → nk ≤ i → i < n → words_cost nk (i - nk) + word_cost nk i ≤ words_cost nk (n - nk)
cost_room nk i n h l =
    let e : i + 1 - nk + (n - (i + 1)) ≡ n - nk = omega arith in
    omega (arith, cost_more nk i h, subst (λ m. words_cost nk (i + 1 - nk) ≤ words_cost nk m) e (cost_grows nk (i + 1 - nk) (n - (i + 1))))
