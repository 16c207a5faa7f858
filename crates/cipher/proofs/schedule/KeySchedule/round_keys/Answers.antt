use Rattle.std.proofs.Common.{[], get_or, ap, ◌∙◌, refl}
use Rattle.cipher.specs.Layout.{columns_state}
use Rattle.cipher.proofs.Schedules.{chunk_round_key}
use Rattle.cipher.proofs.schedule.KeySchedule.round_keys.Goals as goal

pub returns-clause-keys : goal.returns-clause-keys
returns-clause-keys c = λ r h.
    ap (λ ks. columns_state (get_or ks r [])) c.as_chunks.ensures.front ∙ chunk_round_key c.args.self.now c.in_use.result.now c.in_use.ensures _ r refl h
