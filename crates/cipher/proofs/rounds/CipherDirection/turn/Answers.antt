use Rattle.std.proofs.Common.{◌≡◌, ◌-◌, sym, refl, ap, ap₂, ◌∙◌, arith}
use Rattle.cipher.specs.Fips197.{add_round_key, mix_columns, shift_rows, sub_bytes, rounds, cipher}
use Rattle.cipher.specs.Layout.{columns_state}
use Rattle.cipher.specs.Schedules.{schedule_words, schedule_rounds}
use Rattle.cipher.proofs.RoundSteps.{round_step, inner_key, inner-length, last_key}
use Rattle.cipher.proofs.rounds.CipherDirection.turn.Goals as goal

pub loop-key-init : goal.loop-key-init
unfolding rounds
loop-key-init g c = record { through = refl; asked = record { counted = omega arith; named = refl } }

pub loop-key-preserved : goal.loop-key-preserved
unfolding sub_bytes
loop-key-preserved g c =
    let w = schedule_words c.args.schedule.now in
    let nr = schedule_rounds c.args.schedule.now in
    let keys = c.round_keys.ensures in
    let k = c.loop-key.key-index in
    let e = inner-length c.round_keys.result.now nr w keys.count keys.keys in
    let key = inner_key c.round_keys.result.now nr w keys.count keys.keys k (omega (arith, c.loop-key-test.true)) in
    let inv = c.loop-key.invariant in
    let is = c.one_round-next.ensures in
    record {
      through = is.value ∙ ap₂ (λ s x. add_round_key (mix_columns (shift_rows (sub_bytes s))) x) inv.through key ∙ sym (round_step k w _);
      asked = record { counted = omega (arith, is.asked.counted, inv.asked.counted); named = is.asked.named ∙ inv.asked.named };
    }

pub returns-clause-value : goal.returns-clause-value
unfolding cipher sub_bytes
returns-clause-value g c =
    let w = schedule_words c.args.schedule.now in
    let nr = schedule_rounds c.args.schedule.now in
    let keys = c.round_keys.ensures in
    let e = inner-length c.round_keys.result.now nr w keys.count keys.keys in
    let done : c.loop-key.key-index ≡ nr - 1 = omega arith in
    let begun = c.add_round_key-t.ensures ∙ ap (add_round_key (columns_state c.args.s)) (keys.keys 0 (omega arith)) in
    let through = c.loop-key.invariant.through ∙ ap₂ (λ n t. rounds n w t) done begun in
    let last = last_key c.round_keys.result.now nr w keys.count keys.keys in
    c.add_round_key.ensures
    ∙ ap₂ add_round_key (c.shift_rows.ensures ∙ ap shift_rows (c.sub_bytes.ensures.value ∙ ap sub_bytes through)) last
