use Rattle.std.proofs.Common.{[], length, get_or, sym, ap, ap₂, ◌∙◌, arith}
use Rattle.cipher.specs.Fips197.{add_round_key, inv_mix_columns, inv_shift_rows, inv_sub_bytes, inv_rounds, inv_cipher}
use Rattle.cipher.specs.Layout.{columns_state}
use Rattle.cipher.specs.Schedules.{schedule_words, schedule_rounds}
use Rattle.cipher.proofs.RoundSteps.{inv_round_step, inner_key, inner-length, last_key, popped-length, popped_front, popped-last, popped_room}
use Rattle.cipher.proofs.rounds.InvCipherDirection.turn.Goals as goal

pub loop-key-preserved : goal.loop-key-preserved
unfolding inv_sub_bytes
loop-key-preserved g c =
    let w = schedule_words c.args.schedule.now in
    let nr = schedule_rounds c.args.schedule.now in
    let keys = c.round_keys.result.now in
    let keyed = c.round_keys.ensures in
    let inv = c.loop-key.invariant in
    let all = c.into_iter-key-iterator.result.iter.rest.now in
    let old = c.loop-key.key-iterator.iter.rest.now in
    let new = c.next.new.self.iter.rest.now in
    let n = length new in
    let taken = c.in-Some.ensures.steps in
    let t = columns_state c.loop-key.t in
    let is = c.one_round_back-next.ensures in
    let less = popped-length [] all old new _ inv.front taken in
    let whole = ap (λ s. s.iter.rest.now) c.into_iter-key-iterator.ensures.into_iter_gives ∙ ap (λ s. s.rest.now) c.rev-key-items.ensures.source ∙ c.iter.ensures.rest in
    let long = ap length whole ∙ inner-length keys nr w keyed.count keyed.keys in
    let key =
    ap columns_state (popped-last [] all old new _ inv.front taken ∙ ap (λ xs. get_or xs n []) whole)
    ∙ inner_key keys nr w keyed.count keyed.keys n (omega (arith, popped_room [] all old new _ inv.front taken, long)) in
    record {
      front = popped_front [] all old new _ inv.front taken;
      through =
          ap (inv_rounds n w) (is.value ∙ ap (λ k. inv_mix_columns (add_round_key (inv_sub_bytes (inv_shift_rows t)) k)) key)
          ∙ sym (inv_round_step n w t) ∙ ap (λ m. inv_rounds m w t) (sym less) ∙ inv.through;
      counted = omega (arith, is.asked.counted, inv.counted, less);
      named = is.asked.named ∙ inv.named;
    }

pub returns-clause-value : goal.returns-clause-value
unfolding inv_cipher inv_rounds inv_sub_bytes
returns-clause-value g c =
    let w = schedule_words c.args.schedule.now in
    let nr = schedule_rounds c.args.schedule.now in
    let keys = c.round_keys.result.now in
    let keyed = c.round_keys.ensures in
    let t = columns_state c.loop-key.t in
    let whole = ap (λ s. s.iter.rest.now) c.into_iter-key-iterator.ensures.into_iter_gives ∙ ap (λ s. s.rest.now) c.rev-key-items.ensures.source ∙ c.iter.ensures.rest in
    let long = ap length whole ∙ inner-length keys nr w keyed.count keyed.keys in
    let begun = c.add_round_key-t.ensures ∙ ap (add_round_key (columns_state c.args.s)) (last_key keys nr w keyed.count keyed.keys) in
    let through = ap (λ m. inv_rounds m w t) (sym c.in-None.ensures.steps.0) ∙ c.loop-key.invariant.through ∙ ap₂ (λ m u. inv_rounds m w u) long begun in
    c.add_round_key.ensures
    ∙ ap₂ add_round_key (c.sub_bytes.ensures.value ∙ ap inv_sub_bytes (c.inv_shift_rows.ensures ∙ ap inv_shift_rows through)) (keyed.keys 0 (omega arith))
