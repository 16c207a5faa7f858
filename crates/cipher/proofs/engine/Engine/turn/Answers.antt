use Rattle.std.proofs.Common.{length, refl, ap, ◌∙◌, arith}
use Rattle.cipher.proofs.Turning.{held_verdict, verdict_late, verdict_taken, turns, turned_by}
use Rattle.cipher.specs.Fips197.{state, state_bytes}
use Rattle.cipher.specs.Layout.{aes_by}
use Rattle.cipher.specs.Schedules.{schedule_words, schedule_rounds}
use Rattle.cipher.proofs.engine.Engine.turn.Goals as goal

pub returns-then-rounds-left : goal.returns-then-rounds-left
returns-then-rounds-left g c =
    let s = c.in-Some.schedule in
    let whole = c.in-Some-whole.ensures.cases in (
      held_verdict c.args.self.now.schedule s _ _ _ c.in-Some.is c.tally-left.ensures (verdict_late s (length c.args.block.now) c.tally-left.result (omega arith) (omega arith)),
      refl,
      whole.same,
    )

pub returns : goal.returns
returns g c =
    let s = c.in-Some.schedule in
    let whole = c.in-Some-whole.ensures.cases in
    let turned = g.D.Direction.turned in (
      held_verdict c.args.self.now.schedule s _ _ _ c.in-Some.is c.tally-left.ensures (verdict_taken s (length c.args.block.now) c.tally-left.result (omega arith) (omega (arith, g.met.R.Route.capped c.args.self.now.route)) (omega arith)),
      turned_by g.R.Route.tally (aes_by turned) c.args.self.now _ s c.args.block.now _ c.in-Some.is refl
          (c.turn_block.ensures.value ∙ ap (λ xs. state_bytes (turned (state xs) (schedule_rounds s) (schedule_words s))) whole.same ∙ turns s turned c.args.block.now)
          c.turn_block.ensures.asked.counted,
    )
