-- Masks and bits. Assumes nothing.
use Rattle.std.proofs.Common.{◌≡◌, ℕ, zero, suc, ◌+◌, ◌-◌, ◌*◌, ◌/◌, ◌%◌, ◌<◌, Bool, true, false, cond, eqb, ltb, sym, ap, ◌∙◌, ap₂, ⊎_elim, mod-eq_of_lt, one-mul, zero-mul, arith}
use lib.Bits.{bit_and, bit_or, bit_xor, and_zero_r, and_mask, or_zero_r, xor_zero_r}
use lib.Dec.{eqb-suc-zero}
use mir.Val.{bool_byte}
use Rattle.fields.specs.Additive.{two_ways}
use Rattle.std.proofs.lemmas.Bool.{cases_order, lt-ltb, le-ltb, eq-eqb, ne_eqb}

-- A byte masked by 0 - 1 or by 0 - 0.
pub mask_wanted : (byte : ℕ) (wanted : Bool) → byte < 256 → bit_and byte ((0 + (256 - bool_byte wanted)) % 256) ≡ cond wanted byte 0
mask_wanted byte true h = and_mask byte 8 ∙ mod-eq_of_lt h
mask_wanted byte false h = and_zero_r byte

-- The first of two, or the second where the first is 0: the carry of first + 255 masks the second.
pub or_first : (a b : ℕ) → a < 256 → b < 256 → bit_or a (bit_and b (((a + 255) / 256 + (256 - 1)) % 256)) ≡ cond (eqb a 0) b a
or_first zero b h l = and_mask b 8 ∙ mod-eq_of_lt l
or_first (suc a) b h l =
    ap (λ m. bit_or (suc a) (bit_and b m)) (let carried : ((suc a + 255) / 256 + (256 - 1)) % 256 ≡ 0 = omega arith in carried)
    ∙ ap (bit_or (suc a)) (and_zero_r b) ∙ or_zero_r (suc a) ∙ sym (ap (λ t. cond t b (suc a)) (eqb-suc-zero a))

-- A bit times a byte.
pub bit_keeps : (c n : ℕ) → c < 2 → cond (eqb c 1) n 0 ≡ c * n
bit_keeps c n h = two_ways (λ x. cond (eqb x 1) n 0 ≡ x * n) (sym (zero-mul n)) (sym (one-mul n)) c h

-- One turn of a walk over a table: t is found once the walk has passed its place x.
pub walked : (i x t e f k : ℕ) → f ≡ cond (ltb x i) t 0 → (i ≡ x → e ≡ t) → k ≡ cond (eqb i x) e 0 → bit_xor f k ≡ cond (ltb x (i + 1)) t 0
walked i x t e f k before here kept =
    ⊎_elim
    (λ (same : i ≡ x).
    ap₂ bit_xor (before ∙ ap (λ b. cond b t 0) (le-ltb x i (omega arith))) (kept ∙ ap (λ b. cond b e 0) (eq-eqb i x same) ∙ here same)
    ∙ sym (ap (λ b. cond b t 0) (lt-ltb x (i + 1) (omega arith))))
    (⊎_elim
    (λ (before_x : i < x).
    ap₂ bit_xor (before ∙ ap (λ b. cond b t 0) (le-ltb x i (omega arith))) (kept ∙ ap (λ b. cond b e 0) (ne_eqb i x (λ e. omega arith)))
    ∙ sym (ap (λ b. cond b t 0) (le-ltb x (i + 1) (omega arith))))
    (λ (after_x : x < i).
    ap₂ bit_xor (before ∙ ap (λ b. cond b t 0) (lt-ltb x i after_x)) (kept ∙ ap (λ b. cond b e 0) (ne_eqb i x (λ e. omega arith)))
    ∙ xor_zero_r t ∙ sym (ap (λ b. cond b t 0) (lt-ltb x (i + 1) (omega arith)))))
    (cases_order i x)
