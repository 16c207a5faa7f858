-- A loop that replaces the numbers of a list one after another, each by one that a relation joins it to. Assumes nothing.
use Rattle.std.proofs.Common.{◌≡◌, ℕ, ◌+◌, ◌<◌, ◌≤◌, ◌≢◌, List, length, get_or, set, sym, ◌∙◌, subst, subst₂, arith, get_or-set_other, get_or-set_same, below_more}

-- The first k numbers are replaced, and the others are as they were.
abbrev pub Replaced : (ℕ → ℕ → Type 0) → List ℕ → List ℕ → ℕ → Type 0
Replaced P before now k = ((i : ℕ) → i < k → P (get_or before i 0) (get_or now i 0)) × ((i : ℕ) → k ≤ i → get_or now i 0 ≡ get_or before i 0)

pub replaced_more : (P : ℕ → ℕ → Type 0) (before now : List ℕ) (k r : ℕ) → Replaced P before now k → k < length now → P (get_or now k 0) r → Replaced P before (set now k r) (k + 1)
replaced_more P before now k r inv h p = (
  below_more _ k
      (λ i l. let ne : i ≢ k = omega arith in subst (P (get_or before i 0)) (sym (get_or-set_other now k i r 0 ne)) (inv.0 i l))
      (subst₂ P (inv.1 k (omega arith)) (sym (get_or-set_same now k r 0 h)) p),
  λ i l. let ne : i ≢ k = omega arith in get_or-set_other now k i r 0 ne ∙ inv.1 i (omega arith),
)
