use Rattle.std.proofs.Common.{◌≡◌, ◌*◌, ◌/◌, ◌^◌, ◌<◌, sym, refl, ap, ◌∙◌, subst, ap₂, arith}
use lib.Bits.{bit_xor, and_mask}
use Rattle.fields.specs.Polynomials.{coefficient, times_x}
use Rattle.fields.specs.Division.{shifted, summed, shifted_lt, summed_lt, summed_more, shifted_more, product_is_summed}
use Rattle.fields.proofs.modular.multiply.Goals as goal

pub loop-i-init : goal.loop-i-init
unfolding shifted summed
loop-i-init g c = (refl, refl)

pub times_x-shifted-requires : goal.times_x-shifted-requires
times_x-shifted-requires g c = record {
  degree = c.requires.degree;
  positive = c.requires.positive;
  few = c.requires.few;
  low = subst (λ n. n < 2 ^ g.row.DEGREE) (sym c.loop-i.invariant.1) (shifted_lt g.row.DEGREE g.row.MODULUS c.requires.degree c.loop-i.i c.args.a c.requires.low);
}

pub loop-i-preserved : goal.loop-i-preserved
unfolding coefficient
loop-i-preserved g c =
    let k = g.row.DEGREE in
    let p = g.row.MODULUS in
    let i = c.loop-i.i in (
      ap₂ bit_xor c.loop-i.invariant.0
          (c.keep-product.ensures ∙ ap₂ ◌*◌ (and_mask (c.args.b / 2 ^ i) 1) c.loop-i.invariant.1)
          ∙ sym (summed_more k p i c.args.a c.args.b),
      c.times_x-shifted.ensures ∙ ap (times_x k p) c.loop-i.invariant.1 ∙ sym (shifted_more k p i c.args.a),
    )

pub returns : goal.returns
returns g c =
    let k = g.row.DEGREE in
    let p = g.row.MODULUS in
    let a = c.args.a in
    let b = c.args.b in
    let all : c.loop-i.i ≡ k = omega arith in
    let is = c.loop-i.invariant.0 ∙ ap (λ i. summed k p i a b) all in
    record { value = is ∙ sym (product_is_summed k p a b c.requires.low); bound = subst (λ n. n < 2 ^ k) (sym is) (summed_lt k p c.requires.degree k a b c.requires.low) }
