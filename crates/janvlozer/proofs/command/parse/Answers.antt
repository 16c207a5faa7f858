use Rattle.std.proofs.Common.{◌≡◌, List, [], ◌∷◌, length, get_or, string_bytes, Result, String, subst, subst₂, arith}
use mathlib.Core.Path.{subst₃}
use Rattle.std.specs.declared.alloc.Global.{Global}
use Rattle.routes.specs.declared.name.RouteName.TheVariants.{Table}
use Rattle.janvlozer.specs.Commands.{After, Turns, TurnsOn, Asked}
use Rattle.janvlozer.specs.declared.command.Command.{Command}
use Rattle.janvlozer.specs.declared.command.Misuse.{Misuse}
use Rattle.janvlozer.proofs.command.parse.Goals as goal

module _ (r : Result Command Misuse) where
  -- Two words, each read at its place.
  two_words : (ws : List (String Global)) (x y : String Global) → length ws ≡ 2 → x ≡ get_or ws 0 x → y ≡ get_or ws 1 y → After (string_bytes x) (string_bytes y) r → Asked ws r
  two_words [] x y l p q h = let f : ⊥ = omega arith in absurd f
  two_words (a ∷ []) x y l p q h = let f : ⊥ = omega arith in absurd f
  two_words (a ∷ b ∷ []) x y l p q h = subst₂ (λ u v. After (string_bytes u) (string_bytes v) r) p q h
  two_words (a ∷ b ∷ c ∷ ws) x y l p q h = let f : ⊥ = omega arith in absurd f

  -- Three words, the first read at its place.
  three_words : (ws : List (String Global)) (x : String Global) → length ws ≡ 3 → x ≡ get_or ws 0 x → Turns (string_bytes x) Table r → Asked ws r
  three_words [] x l p h = let f : ⊥ = omega arith in absurd f
  three_words (a ∷ []) x l p h = let f : ⊥ = omega arith in absurd f
  three_words (a ∷ b ∷ []) x l p h = let f : ⊥ = omega arith in absurd f
  three_words (a ∷ b ∷ c ∷ []) x l p h = subst (λ u. Turns (string_bytes u) Table r) p h
  three_words (a ∷ b ∷ c ∷ d ∷ ws) x l p h = let f : ⊥ = omega arith in absurd f

  -- Five words, three of them read at their places.
  five_words : (ws : List (String Global)) (x y z : String Global) → length ws ≡ 5 → x ≡ get_or ws 0 x → y ≡ get_or ws 3 y → z ≡ get_or ws 4 z → TurnsOn (string_bytes x) (string_bytes y) (string_bytes z) r → Asked ws r
  five_words [] x y z l p q s h = let f : ⊥ = omega arith in absurd f
  five_words (a ∷ []) x y z l p q s h = let f : ⊥ = omega arith in absurd f
  five_words (a ∷ b ∷ []) x y z l p q s h = let f : ⊥ = omega arith in absurd f
  five_words (a ∷ b ∷ c ∷ []) x y z l p q s h = let f : ⊥ = omega arith in absurd f
  five_words (a ∷ b ∷ c ∷ d ∷ []) x y z l p q s h = let f : ⊥ = omega arith in absurd f
  five_words (a ∷ b ∷ c ∷ d ∷ e ∷ []) x y z l p q s h = subst₃ (λ u v w. TurnsOn (string_bytes u) (string_bytes v) (string_bytes w) r) p q s h
  five_words (a ∷ b ∷ c ∷ d ∷ e ∷ f ∷ ws) x y z l p q s h = let no_such : ⊥ = omega arith in absurd no_such

pub returns-in-len2 : goal.returns-in-len2
returns-in-len2 c =
    two_words c.with_byte.result _ c.word-item-then-words-lt3.result c.text-item.result (omega (arith, c.in-len2.len_at_least, c.in-len2.len_below)) c.word-item-then-words-lt3.is c.text-item.is
    (subst₂ (λ word text. After word text c.with_byte.result) c.as_str-in-len2.ensures.value c.as_str-in-len2-2.ensures.value c.with_byte.ensures)

pub returns-in-len3 : goal.returns-in-len3
returns-in-len3 c =
    three_words c.turn.result _ c.word-item-then-words-lt4.result (omega (arith, c.in-len3.len_at_least, c.in-len3.len_below)) c.word-item-then-words-lt4.is
    (subst (λ word. Turns word Table c.turn.result) c.as_str-in-len3.ensures.value c.turn.ensures)

pub returns-in-len5 : goal.returns-in-len5
returns-in-len5 c =
    five_words c.turn_on.result _ c.word-item-then-words-lt6.result c.flag-item.result c.name-item.result (omega (arith, c.in-len5.len_at_least, c.in-len5.len_below)) c.word-item-then-words-lt6.is c.flag-item.is c.name-item.is
    (subst₃ (λ word flag name. TurnsOn word flag name c.turn_on.result) c.as_str-in-len5.ensures.value c.as_str-in-len5-2.ensures.value c.as_str-in-len5-3.ensures.value c.turn_on.ensures)
