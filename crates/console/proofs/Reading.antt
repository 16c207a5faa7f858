-- Numbers and bytes as they are read from text.
use Rattle.std.proofs.Common.{◌≡◌, ◌≢◌, ℕ, suc, zero, ◌+◌, ◌*◌, ◌%◌, ◌<◌, true, List, [], ◌∷◌, ◌++◌, length, get_or, Some, None, Option, sym, refl, ap, ◌∙◌, subst, arith, rules}
use Rattle.std.proofs.lemmas.List.{append_assoc, append-nil}
use Rattle.std.proofs.lemmas.Str.Parse.{IsNumeralModel, numerals_by_fold}
use Rattle.std.specs.Str.{all_ascii_digits}
use Rattle.console.specs.Words.{read_on, spelt, before, joined, digit_of, Spells}

pub own : IsNumeralModel (λ ds. all_ascii_digits ds ≡ true) (read_on 0)
own = numerals_by_fold _ (search rules) read_on (search rules)

-- Bytes before what a text spells, where it does.
abbrev pub after_all : List ℕ → Option (List ℕ) → Option (List ℕ)
after_all bs None = None
after_all bs (Some cs) = Some (bs ++ cs)

push_before : (all : List ℕ) (b : ℕ) (o : Option (List ℕ)) → after_all all (before (Some b) o) ≡ after_all (all ++ (b ∷ [])) o
push_before all b None = refl
push_before all b (Some bs) = ap Some (sym (append_assoc all (b ∷ []) bs))

-- Two digits and what follows: one byte more, or none where they are no byte.
module _ (all rest : List ℕ) where
  pub spelt_more : (x : List ℕ) (b : ℕ) → length x ≡ 2 → Some b ≡ joined (digit_of (get_or x 0 0)) (digit_of (get_or x 1 0)) → after_all all (spelt (x ++ rest)) ≡ after_all (all ++ (b ∷ [])) (spelt rest)
  unfolding spelt
  spelt_more [] b s e = let f : ⊥ = omega (arith, s) in absurd f
  spelt_more (h ∷ []) b s e = let f : ⊥ = omega (arith, s) in absurd f
  spelt_more (h ∷ l ∷ []) b s e = ap (λ o. after_all all (before o (spelt rest))) (sym e) ∙ push_before all b (spelt rest)
  spelt_more (h ∷ l ∷ c ∷ x) b s e = let f : ⊥ = omega (arith, s) in absurd f

  pub spelt_none : (x : List ℕ) → length x ≡ 2 → None ≡ joined (digit_of (get_or x 0 0)) (digit_of (get_or x 1 0)) → None ≡ after_all all (spelt (x ++ rest))
  unfolding spelt
  spelt_none [] s e = let f : ⊥ = omega (arith, s) in absurd f
  spelt_none (h ∷ []) s e = let f : ⊥ = omega (arith, s) in absurd f
  spelt_none (h ∷ l ∷ []) s e = ap (λ o. after_all all (before o (spelt rest))) e
  spelt_none (h ∷ l ∷ c ∷ x) s e = let f : ⊥ = omega (arith, s) in absurd f

before_none : (o : Option ℕ) → None ≡ before o None
before_none None = refl
before_none (Some b) = refl

-- One digit left over.
pub spelt_odd : (text : List ℕ) → length text % 2 ≢ 0 → None ≡ spelt text
unfolding spelt
spelt_odd [] h = absurd (h refl)
spelt_odd (c ∷ []) h = refl
spelt_odd (c ∷ d ∷ text) h =
    let odd : length text % 2 ≢ 0 = omega (arith, h) in
    before_none (joined (digit_of c) (digit_of d)) ∙ ap (before (joined (digit_of c) (digit_of d))) (spelt_odd text odd)

-- Nothing left over.
pub spelt_all : (all rest : List ℕ) → length rest ≡ 0 → Some all ≡ after_all all (spelt rest)
unfolding spelt
spelt_all all [] h = ap Some (sym (append-nil all))
spelt_all all (c ∷ rest) h = let f : ⊥ = omega (arith, h) in absurd f

-- ---- what a text spells, byte for byte

module _ (h l b : ℕ) (text bs : List ℕ) (here : joined (digit_of h) (digit_of l) ≡ Some b) (there : Spells text bs) where
  spells_at : (i : ℕ) → i < suc (length bs) → joined (digit_of (get_or (h ∷ l ∷ text) (2 * i) 0)) (digit_of (get_or (h ∷ l ∷ text) (2 * i + 1) 0)) ≡ Some (get_or (b ∷ bs) i 0)
  spells_at zero lt = here
  spells_at (suc i) lt =
      let high : 2 * suc i ≡ suc (suc (2 * i)) = omega arith in
      let low : 2 * suc i + 1 ≡ suc (suc (2 * i + 1)) = omega arith in
      (λ k. joined (digit_of (get_or (h ∷ l ∷ text) (high k) 0)) (digit_of (get_or (h ∷ l ∷ text) (low k) 0))) ∙ there.0.1 i (omega (arith, lt))

  spells_more : Spells (h ∷ l ∷ text) (b ∷ bs)
  spells_more = ((refl, spells_at), omega (arith, there.1))

before_some : (o : Option ℕ) (p : Option (List ℕ)) (bytes : List ℕ) → before o p ≡ Some bytes → (b : ℕ) × (bs : List ℕ) × (o ≡ Some b) × (p ≡ Some bs) × (b ∷ bs ≡ bytes)
before_some None p bytes e = let f : ⊥ = cc in absurd f
before_some (Some b) None bytes e = let f : ⊥ = cc in absurd f
before_some (Some b) (Some bs) bytes e = let is : b ∷ bs ≡ bytes = cc in (b, bs, refl, refl, is)

spells_nothing : Spells [] []
spells_nothing = ((refl, λ i lt. let f : ⊥ = omega (arith, lt) in absurd f), refl)

pub spelt_spells : (text bytes : List ℕ) → spelt text ≡ Some bytes → Spells text bytes
unfolding spelt
spelt_spells [] bytes e = let is : [] ≡ bytes = cc in subst (Spells []) is spells_nothing
spelt_spells (h ∷ []) bytes e = let f : ⊥ = cc in absurd f
spelt_spells (h ∷ l ∷ text) bytes e =
    let parts = before_some (joined (digit_of h) (digit_of l)) (spelt text) bytes e in
    subst (Spells (h ∷ l ∷ text)) parts.4 (spells_more h l parts.0 text parts.1 parts.2 (spelt_spells text parts.1 parts.3))
