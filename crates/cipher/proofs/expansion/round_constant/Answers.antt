use Rattle.std.proofs.Common.{◌≡◌, ℕ, suc, ◌+◌, ◌-◌, [], ◌∷◌, ap, ◌∙◌, ap₂, arith}
use Rattle.fields.specs.Bytes.{byte, byte_product}
use Rattle.fields.specs.Powers.{power}
use Rattle.fields.specs.declared.byte.Byte.{Byte}
use Rattle.cipher.specs.Fips197.{word_bytes, rcon}
use Rattle.cipher.proofs.expansion.round_constant.Goals as goal

x_to : ℕ → Byte
x_to n = power byte_product (byte 1) n (byte 2)

pub loop-k-init : goal.loop-k-init
unfolding power
loop-k-init c = (omega arith, c.from-x.ensures)

pub loop-k-preserved : goal.loop-k-preserved
unfolding power x_to
loop-k-preserved c =
    let e : suc (c.loop-k._k - 1) ≡ c.loop-k._k + 1 - 1 = omega arith in (
      omega arith,
      c.product-x.ensures ∙ ap₂ byte_product c.from.ensures c.loop-k.invariant.1 ∙ ap x_to e,
    )

pub returns : goal.returns
unfolding word_bytes rcon byte x_to
returns c =
    let e : c.loop-k._k - 1 ≡ c.args.j - 1 = omega arith in
    ap (λ n. n ∷ 0 ∷ 0 ∷ 0 ∷ []) (c.from-2.ensures ∙ ap (λ b. b.value) (c.loop-k.invariant.1 ∙ ap x_to e))
