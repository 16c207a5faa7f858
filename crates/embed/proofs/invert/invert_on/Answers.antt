use Rattle.std.proofs.Common.{◌≡◌, ℕ, ◌+◌, ◌<◌, length, None, sym, ap, ◌∙◌, subst, arith}
use Rattle.std.proofs.lemmas.Bool.Decides.{nat_tests}
use Rattle.routes.specs.Inverting.{AllInvert}
use Rattle.routes.specs.Routes.{cap}
use Rattle.embed.specs.Inversions.{invert_verdict, BytesBy}
use Rattle.embed.proofs.invert.invert_on.Goals as goal

taken : (n start : ℕ) → start < cap → n ≡ 16 → invert_verdict n start ≡ None
taken n start below sixteen = grind (arith, nat_tests)

pub returns : goal.returns
returns g c =
    let bytes = c.args.bytes.now in
    let made = c.in_ok-route.ensures.made in
    let whole = c.in-Some.ensures.cases in
    let below : c.args.start < cap = omega (arith, made.0) in
    let none = taken (length bytes) c.args.start below whole.long in
    let inverted = subst (λ block. AllInvert block c.invert.new.bytes) whole.same (c.invert.ensures.asked.inverts (omega (arith, made.1))) in
    record {
      told = (none, c.tally.ensures ∙ c.invert.ensures.asked.counts (omega (arith, made.1)) ∙ ap (λ n. n + 1) made.1);
      left = subst (λ v. BytesBy v bytes c.invert.new.bytes) (sym none) inverted;
    }
