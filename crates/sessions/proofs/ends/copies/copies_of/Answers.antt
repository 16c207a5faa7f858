use Rattle.std.proofs.Common.{vec_items, ap, ◌∙◌, arith}
use Rattle.sessions.specs.Exchanges.{call_in}
use Rattle.sessions.proofs.Exchanges.{copied_more}
use Rattle.sessions.proofs.ends.copies.copies_of.Goals as goal

pub loop-one-preserved : goal.loop-one-preserved
loop-one-preserved c =
    copied_more c.args.answered.now (vec_items c.loop-one.copies) (vec_items c.push.new.self) _ c.one-item.result c.loop-one.one-index (omega arith) c.in_ok-push.ensures.items c.loop-one.invariant (c.in_ok-call.ensures ∙ ap (λ a. call_in a.call) c.one-item.is)
