-- Pieces of a run, sums of bytes, and counter mode by its pieces, over any cipher whose blocks have sixteen bytes. Assumes nothing.
use Rattle.std.proofs.Common.{◌≡◌, ℕ, zero, suc, ◌+◌, ◌-◌, ◌*◌, ◌/◌, ◌<◌, ◌≤◌, min, ltb, List, [], ◌∷◌, ◌++◌, length, take, drop, sym, refl, ap, ◌∙◌, ap₂, ⊎_elim, not-suc-le-zero, mul-suc, arith, length-append, length-drop, length-take, take_all, take-add, drop_at}
use native.Mathlib.Nat.{suc-min-suc, zero-min, min-zero}
use lib.Bits.{bit_xor, xor_assoc, xor_self, xor_zero_r}
use lib.Seq.{take-append-le, drop-append-le}
use Rattle.std.proofs.lemmas.Bool.{cases_lt, cond_both}
use Rattle.sessions.specs.Counters.{blocks, piece, plus, text_block, concatenation, ctr_block, ctr}

-- ---- sums of bytes

xor_twice : (x y : ℕ) → bit_xor (bit_xor x y) y ≡ x
xor_twice x y = xor_assoc x y y ∙ ap (bit_xor x) (xor_self y) ∙ xor_zero_r x

pub plus_twice : (xs ys : List ℕ) → plus (plus xs ys) ys ≡ take (length ys) xs
unfolding plus
plus_twice [] [] = refl
plus_twice [] (y ∷ ys) = refl
plus_twice (x ∷ xs) [] = refl
plus_twice (x ∷ xs) (y ∷ ys) = λ i. xor_twice x y i ∷ plus_twice xs ys i

pub length-plus : (xs ys : List ℕ) → length (plus xs ys) ≡ min (length xs) (length ys)
unfolding plus
length-plus [] ys = sym (zero-min (length ys))
length-plus (x ∷ xs) [] = sym (min-zero (suc (length xs)))
length-plus (x ∷ xs) (y ∷ ys) = ap suc (length-plus xs ys) ∙ sym (suc-min-suc (length xs) (length ys))

-- What is added can be cut to the length of what it is added to.
pub plus_cut : (xs ys : List ℕ) → plus xs (take (length xs) ys) ≡ plus xs ys
unfolding plus
plus_cut [] ys = refl
plus_cut (x ∷ xs) [] = refl
plus_cut (x ∷ xs) (y ∷ ys) = ap (λ zs. bit_xor x y ∷ zs) (plus_cut xs ys)

-- ---- pieces

pub length-piece : (xs : List ℕ) (p : ℕ) → length (piece xs p) ≡ min 16 (length xs - 16 * p)
unfolding piece
length-piece xs p = length-take 16 (drop (16 * p) xs) ∙ ap (min 16) (length-drop (16 * p) xs)

-- Block j of a text, counted from 1, is piece j-1.
text_block_is : (xs : List ℕ) (p : ℕ) → text_block xs (suc p) ≡ piece xs p
text_block_is xs p = let e : suc p - 1 ≡ p = omega arith in rw e

-- A run is its pieces, one after the other.
front_of_pieces : (xs : List ℕ) (n : ℕ) → take (16 * n) xs ≡ concatenation n (text_block xs)
unfolding concatenation piece
front_of_pieces xs zero = refl
front_of_pieces xs (suc n) =
    ap (λ k. take k xs) (mul-suc 16 n) ∙ take-add (16 * n) 16 xs ∙ ap₂ (λ a b. a ++ b) (front_of_pieces xs n) (sym (text_block_is xs n))

whole_of_pieces : (xs : List ℕ) → xs ≡ concatenation (blocks (length xs)) (text_block xs)
whole_of_pieces xs = sym (take_all (16 * blocks (length xs)) xs (omega arith)) ∙ front_of_pieces xs (blocks (length xs))

-- ---- blocks one after the other

same_blocks : (x y : ℕ → List ℕ) (n : ℕ) → ((p : ℕ) → p < n → x (suc p) ≡ y (suc p)) → concatenation n x ≡ concatenation n y
unfolding concatenation
same_blocks x y zero same = refl
same_blocks x y (suc n) same = ap₂ (λ a b. a ++ b) (same_blocks x y n (λ p h. same p (omega arith))) (same n (omega arith))

same_lengths : (x y : ℕ → List ℕ) (n : ℕ) → ((p : ℕ) → p < n → length (x (suc p)) ≡ length (y (suc p))) → length (concatenation n x) ≡ length (concatenation n y)
unfolding concatenation
same_lengths x y zero same = refl
same_lengths x y (suc n) same =
    let front = same_lengths x y n (λ p h. same p (omega arith)) in
    let here = same n (omega arith) in
    omega (arith, length-append (concatenation n x) (x (suc n)), length-append (concatenation n y) (y (suc n)))

length_of_full : (x : ℕ → List ℕ) (n : ℕ) → ((p : ℕ) → p < n → length (x (suc p)) ≡ 16) → length (concatenation n x) ≡ 16 * n
unfolding concatenation
length_of_full x zero full = refl
length_of_full x (suc n) full =
    let front = length_of_full x n (λ p h. full p (omega arith)) in
    let here = full n (omega arith) in
    omega (arith, length-append (concatenation n x) (x (suc n)))

pub piece_of_front : (xs ys : List ℕ) (p : ℕ) → 16 * p + 16 ≤ length xs → piece (xs ++ ys) p ≡ piece xs p
unfolding piece
piece_of_front xs ys p h =
    ap (take 16) (drop-append-le (16 * p) xs ys (omega arith)) ∙ take-append-le 16 (drop (16 * p) xs) ys (simp length-drop (omega arith))

piece_of_rest : (xs ys : List ℕ) (p : ℕ) → length xs ≡ 16 * p → length ys ≤ 16 → piece (xs ++ ys) p ≡ ys
unfolding piece
piece_of_rest xs ys p e h = ap (take 16) (drop_at xs ys (16 * p) e) ∙ take_all 16 ys h

-- Where all blocks are full but the last, the pieces of the whole are the blocks.
piece_of_blocks : (x : ℕ → List ℕ) (n : ℕ) → ((p : ℕ) → suc p < n → length (x (suc p)) ≡ 16) → ((p : ℕ) → p < n → length (x (suc p)) ≤ 16) → (p : ℕ) → p < n → piece (concatenation n x) p ≡ x (suc p)
unfolding concatenation
piece_of_blocks x zero full small p h = absurd (not-suc-le-zero h)
piece_of_blocks x (suc m) full small p h = ⊎_elim (inside (piece_of_blocks x m (λ q l. full q (omega arith)) (λ q l. small q (omega arith)) p)) at_end (cases_lt p m)
  where
    all_full : (q : ℕ) → q < m → length (x (suc q)) ≡ 16
    all_full q l = full q (omega arith)

    front_length : length (concatenation m x) ≡ 16 * m
    front_length = length_of_full x m all_full

    inside : (p < m → piece (concatenation m x) p ≡ x (suc p)) → p < m → piece (concatenation (suc m) x) p ≡ x (suc p)
    inside before l = piece_of_front (concatenation m x) (x (suc m)) p (omega (arith, front_length)) ∙ before l

    at_end : m ≤ p → piece (concatenation (suc m) x) p ≡ x (suc p)
    at_end l =
        let e : m ≡ p = omega arith in
        piece_of_rest (concatenation m x) (x (suc m)) p (omega (arith, front_length)) (small m (omega arith)) ∙ ap (λ q. x (suc q)) e

-- ---- counter mode

module _ (ciph : List ℕ → List ℕ) (t : ℕ → List ℕ) where
  ctr_block_is : (text : List ℕ) (p : ℕ) → ctr_block ciph t text (suc p) ≡ plus (piece text p) (ciph (t (suc p)))
  unfolding ctr_block
  ctr_block_is text p =
      cond_both (ltb (suc p) (blocks (length text))) (plus b o) (plus b (take (8 * length b / 8) o)) (λ c. c ≡ plus (piece text p) o) (λ _. whole) (λ _. cut)
    where
      b : List ℕ
      b = text_block text (suc p)

      o : List ℕ
      o = ciph (t (suc p))

      whole : plus b o ≡ plus (piece text p) o
      whole = ap (λ a. plus a o) (text_block_is text p)

      cut : plus b (take (8 * length b / 8) o) ≡ plus (piece text p) o
      cut = let e : 8 * length b / 8 ≡ length b = omega arith in ap (λ n. plus b (take n o)) e ∙ plus_cut b o ∙ whole

  -- A run as long as a text, whose pieces are the text's with the output blocks added, is the text in counter mode.
  pub ctr_by_pieces : (text run : List ℕ) → length run ≡ length text → ((p : ℕ) → p < blocks (length text) → piece run p ≡ plus (piece text p) (ciph (t (suc p)))) → run ≡ ctr ciph t text
  unfolding ctr
  ctr_by_pieces text run e added =
      whole_of_pieces run ∙ ap (λ n. concatenation (blocks n) (text_block run)) e ∙ same_blocks (text_block run) (ctr_block ciph t text) (blocks (length text)) (λ p h. text_block_is run p ∙ added p h ∙ sym (ctr_block_is text p))

module _ (ciph : List ℕ → List ℕ) (t : ℕ → List ℕ) (sixteen : (block : List ℕ) → length (ciph block) ≡ 16) where
  length_ctr_block : (text : List ℕ) (p : ℕ) → length (ctr_block ciph t text (suc p)) ≡ length (piece text p)
  length_ctr_block text p =
      ap length (ctr_block_is ciph t text p) ∙ length-plus (piece text p) (ciph (t (suc p))) ∙ omega (arith, length-piece text p, sixteen (t (suc p)))

  pub piece_of_ctr : (text : List ℕ) (p : ℕ) → p < blocks (length text) → piece (ctr ciph t text) p ≡ plus (piece text p) (ciph (t (suc p)))
  unfolding ctr
  piece_of_ctr text p h =
      piece_of_blocks (ctr_block ciph t text) (blocks (length text)) full small p h ∙ ctr_block_is ciph t text p
    where
      full : (q : ℕ) → suc q < blocks (length text) → length (ctr_block ciph t text (suc q)) ≡ 16
      full q l = omega (arith, length_ctr_block text q, length-piece text q)

      small : (q : ℕ) → q < blocks (length text) → length (ctr_block ciph t text (suc q)) ≤ 16
      small q l = omega (arith, length_ctr_block text q, length-piece text q)

  pub length_ctr : (text : List ℕ) → length (ctr ciph t text) ≡ length text
  unfolding ctr
  length_ctr text =
      same_lengths (ctr_block ciph t text) (text_block text) (blocks (length text)) (λ p h. length_ctr_block text p ∙ ap length (sym (text_block_is text p))) ∙ ap length (sym (whole_of_pieces text))

  -- Counter mode twice is nothing.
  pub ctr_twice : (text : List ℕ) → ctr ciph t (ctr ciph t text) ≡ text
  ctr_twice text = sym (ctr_by_pieces ciph t (ctr ciph t text) text (sym (length_ctr text)) again)
    where
      again : (p : ℕ) → p < blocks (length (ctr ciph t text)) → piece text p ≡ plus (piece (ctr ciph t text) p) (ciph (t (suc p)))
      again p h =
          let o = ciph (t (suc p)) in
          let once = piece_of_ctr text p (rw length_ctr at h) in
          let short : length (piece text p) ≤ length o = omega (arith, length-piece text p, sixteen (t (suc p))) in
          sym (ap (λ b. plus b o) once ∙ plus_twice (piece text p) o ∙ take_all (length o) (piece text p) short)
