use Rattle.std.proofs.Common.{length, vec_items, sym, ap, ◌∙◌, arith, length-append}
use Rattle.std.specs.Slice.Iter.{chunks_exact_rest}
use Rattle.console.specs.Words.{spelt}
use Rattle.console.proofs.Reading.{spelt_more, spelt_none, spelt_odd, spelt_all, spelt_spells, after_all}
use Rattle.console.proofs.hex.bytes.Goals as goal

pub returns-then-characters-ne0-clause-spelt : goal.returns-then-characters-ne0-clause-spelt
returns-then-characters-ne0-clause-spelt c = spelt_odd c.args.text.now (omega (arith, c.if-characters-ne0.true))

pub returns-in_default-clause-spelt : goal.returns-in_default-clause-spelt
returns-in_default-clause-spelt c =
    let step = c.in-Some.ensures.steps.1 in
    spelt_none (vec_items c.loop-digits.all) (chunks_exact_rest c.next.new.self) c.in-Some.digits.now (step.1 ∙ c.loop-digits.invariant.sized) (sym c.in_default.is ∙ c.pair.ensures)
    ∙ sym (c.loop-digits.invariant.so_far ∙ ap (λ rest. after_all (vec_items c.loop-digits.all) (spelt rest)) step.0)

pub loop-digits-preserved : goal.loop-digits-preserved
loop-digits-preserved c =
    let step = c.in-Some.ensures.steps.1 in
    let sizes = ap length step.0 ∙ length-append c.in-Some.digits.now (chunks_exact_rest c.next.new.self) in
    record {
      sized = c.in-Some.ensures.steps.0 ∙ c.loop-digits.invariant.sized;
      placed = omega (arith, sizes, step.1, c.loop-digits.invariant.sized, c.loop-digits.invariant.placed, c.in_ok-push.ensures.len);
      so_far =
          c.loop-digits.invariant.so_far
          ∙ ap (λ rest. after_all (vec_items c.loop-digits.all) (spelt rest)) step.0
          ∙ spelt_more (vec_items c.loop-digits.all) (chunks_exact_rest c.next.new.self) c.in-Some.digits.now c.in-Some-pair.byte (step.1 ∙ c.loop-digits.invariant.sized) (sym c.in-Some-pair.is ∙ c.pair.ensures)
          ∙ ap (λ all. after_all all (spelt (chunks_exact_rest c.next.new.self))) (sym c.in_ok-push.ensures.items);
    }

pub returns-clause-spelt : goal.returns-clause-spelt
returns-clause-spelt c =
    let short = c.in-None.ensures.steps.1.0 in
    spelt_all (vec_items c.loop-digits.all) (chunks_exact_rest c.loop-digits.digits-iterator) (omega (arith, short, c.loop-digits.invariant.sized, c.loop-digits.invariant.placed, c.if-characters-ne0.false))
    ∙ sym c.loop-digits.invariant.so_far

pub returns-clause-spells : goal.returns-clause-spells
returns-clause-spells c = spelt_spells c.args.text.now (vec_items c.loop-digits.all) (sym (returns-clause-spelt c))
