use Rattle.std.proofs.Common.{ap, ◌∙◌}
use Rattle.sessions.specs.Counters.{plus}
use Rattle.sessions.specs.Covering.{key_of}
use Rattle.sessions.specs.Histories.{encrypted}
use Rattle.sessions.proofs.Covering.{turned_block}
use Rattle.sessions.proofs.stream.cover_piece.Goals as goal

pub returns-clause-added : goal.returns-clause-added
returns-clause-added g c =
    let t = turned_block g.R.Route.tally c.args.engine.now c.encrypt.new.self c.counter_block.result c.encrypt.new.block c.unwrap.ensures c.encrypt.ensures in
    c.add.ensures ∙ ap (plus c.args.part.now) (t.0 ∙ ap (encrypted (key_of c.args.engine.now)) c.counter_block.ensures)
