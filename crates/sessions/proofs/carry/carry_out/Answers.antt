use Rattle.std.proofs.Common.{refl, arith}
use Rattle.std.proofs.lemmas.List.{with_items_is}
use Rattle.sessions.specs.Reading.{held_by}
use Rattle.sessions.specs.declared.call.Answered.{Answered}
use Rattle.sessions.proofs.Exchanges.{carried_none, carried_next, rest_next, carried_all}
use Rattle.sessions.proofs.carry.carry_out.Goals as goal

pub loop-one-init : goal.loop-one-init
loop-one-init g c = (carried_none (held_by g.R.Route.tally c.args.engine.now c.args.session.now), refl)

pub loop-one-preserved : goal.loop-one-preserved
loop-one-preserved g c =
    let before = c.deref_mut-one-items.result.now in
    let now' = c.loop-one.one-items in
    let i = c.loop-one.one-index in
    let noted : Answered = record { call = c.carry_out_one-one.new.call; answer = c.carry_out_one-one.result } in (
      carried_next before now' i (omega arith) c.loop-one.auto.one-items c.loop-one.invariant.1 c.one-item.result noted c.loop-one.invariant.0 c.carry_out_one-one.ensures,
      rest_next before now' i (omega arith) c.loop-one.auto.one-items c.loop-one.invariant.1 noted,
    )

pub returns : goal.returns
returns g c =
    let items = c.loop-one.one-items in
    let known = c.deref_mut-one-items.ensures in
    carried_all c.deref_mut-one-items.result.now items _ _ c.loop-one.one-index (omega arith) (omega arith) known.value (with_items_is c.args.answered.now items (omega arith)) c.loop-one.invariant.0
