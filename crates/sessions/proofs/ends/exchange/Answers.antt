use Rattle.std.proofs.Common.{map, vec_items, ap, ◌∙◌, subst}
use Rattle.sessions.specs.Exchanges.{call_in, calls_left, agreed, EndRan}
use Rattle.sessions.proofs.SetUps.{copied_ran, both_ran}
use Rattle.sessions.proofs.ends.exchange.Goals as goal

pub returns-clause-ends : goal.returns-clause-ends
returns-clause-ends g c =
    let u = agreed c.args.agreement in
    let t = c.in_ok-transmitter.transmitter in
    let gw = c.in_ok-gateway.gateway in
    let calls = vec_items c.args.calls in
    let sent = calls_left (vec_items c.in_ok-sent.sent) in
    let near = g.A.Route.tally c.in_ok-near.near in
    let at_near = subst (λ cs. EndRan (u near) cs t) c.in_ok-passed.ensures c.in_ok-transmitter.ensures in
    let at-t = subst (λ n. EndRan (u n) calls t) c.in_ok-near.ensures.made.1 at_near in
    let at_g = subst (λ n. EndRan (u n) sent gw) c.in_ok-far.ensures.made.1 c.in_ok-gateway.ensures in
    let copied = c.in_ok-sent.ensures ∙ ap (λ xs. map call_in (calls_left xs)) c.deref.ensures.value in
    both_ran (u c.args.agreement.start) calls t gw at-t (copied_ran (u c.args.agreement.start) sent (calls_left (vec_items t.answered)) gw copied at_g)
