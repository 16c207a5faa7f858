use Rattle.sessions.specs.Exchanges.{agreed}
use Rattle.sessions.proofs.SetUps.{verdict_none, run_carried}
use Rattle.sessions.proofs.ends.end.run_through.Goals as goal

pub returns : goal.returns
returns g c =
    let u = agreed c.args.agreement (g.R.Route.tally c.args.engine.now.route) in
    let keyed = c.in_ok-set_key.ensures in
    let opened = c.in_ok-session.ensures in (
      verdict_none u (g.met.R.Route.capped c.args.engine.now.route) keyed.0 opened.0,
      run_carried g.R.Route.tally u c.set_key.new.self c.carry_out.new.engine c.in_ok-session.session c.carry_out.new.session c.close.result keyed.1 keyed.2 opened.1 opened.2 c.close.ensures c.carry_out.ensures,
    )
