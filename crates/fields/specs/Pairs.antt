-- The pairs over a field F: hX + l, where X·X = X + m and m is the marker of F. Assumes nothing.
use Rattle.std.specs.Prelude.{Bool, ◌&&◌}
use Rattle.fields.specs.declared.pair.Pair.{Pair}

module _ {F : Type 0} where
  -- hX + l
  abbrev pub pair : F → F → Pair F
  pair h l = record { high = h; low = l }

  -- 0X + 0
  abbrev pub pair_zero : (zero : F) → Pair F
  pair_zero zero = pair zero zero

  -- 0X + 1
  abbrev pub pair_one : (zero one : F) → Pair F
  pair_one zero one = pair zero one

  -- mX + 0
  abbrev pub pair_marker : (zero marker : F) → Pair F
  pair_marker zero marker = pair marker zero

  -- (aX + b) + (cX + d) = (a + c)X + (b + d)
  abbrev pub pair_sum : (sum : F → F → F) → Pair F → Pair F → Pair F
  pair_sum sum p q = pair (sum p.high q.high) (sum p.low q.low)

  -- (aX + b)(cX + d) = (ac + (ad + bc))X + (mac + bd)
  abbrev pub pair_product : (marker : F) (sum product : F → F → F) → Pair F → Pair F → Pair F
  pair_product marker sum product p q =
      pair
      (sum (product p.high q.high) (sum (product p.high q.low) (product p.low q.high)))
      (sum (product marker (product p.high q.high)) (product p.low q.low))

  -- Δ(hX + l) = mhh + (hl + ll), the product of hX + l and its conjugate hX + (h + l)
  abbrev pub pair_norm : (marker : F) (sum product : F → F → F) → Pair F → F
  pair_norm marker sum product p =
      sum (product marker (product p.high p.high)) (sum (product p.high p.low) (product p.low p.low))

  -- 1/(hX + l) = (h/Δ)X + (h + l)/Δ, where Δ = Δ(hX + l)
  abbrev pub pair_inverse : (marker : F) (sum product : F → F → F) (inverse : F → F) → Pair F → Pair F
  pair_inverse marker sum product inverse p =
      let scale = inverse (pair_norm marker sum product p) in
      pair (product p.high scale) (product (sum p.high p.low) scale)

  -- both halves agree
  abbrev pub pair_same : (same : F → F → Bool) → Pair F → Pair F → Bool
  pair_same same p q = same p.high q.high && same p.low q.low
