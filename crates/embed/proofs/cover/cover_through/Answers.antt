use Rattle.sessions.specs.Exchanges.{agreed}
use Rattle.sessions.proofs.SetUps.{verdict_none}
use Rattle.embed.proofs.Covering.{covered_by}
use Rattle.embed.proofs.cover.cover_through.Goals as goal

pub returns : goal.returns
returns g c =
    let tally = g.R.Route.tally in
    let u = agreed c.args.agreement (tally c.args.engine.now.route) in
    let keyed = c.in_ok-set_key.ensures in
    let opened = c.in_ok-session.ensures in
    let yes_taken = verdict_none u (g.met.R.Route.capped c.args.engine.now.route) keyed.0 opened.0 in
    covered_by tally u c.set_key.new.self c.cover-given.new.engine c.in_ok-session.session c.cover-given.new.self _ _ _ yes_taken keyed.1 keyed.2 opened.1 opened.2 c.cover-given.ensures.promised
