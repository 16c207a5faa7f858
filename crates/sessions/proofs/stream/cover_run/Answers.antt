use Rattle.std.proofs.Common.{◌≡◌, ◌+◌, ◌-◌, ◌*◌, ◌≤◌, length, take, drop, ap, ◌∙◌, arith, length-drop, length-take}
use Rattle.sessions.specs.Counters.{counter_block, plus}
use Rattle.sessions.specs.Covering.{key_of}
use Rattle.sessions.specs.Histories.{encrypted}
use Rattle.sessions.proofs.Covering.{added_more, rest_after, rest_from, spent_more}
use Rattle.sessions.proofs.stream.cover_run.Goals as goal

pub loop-p-preserved : goal.loop-p-preserved
loop-p-preserved g c =
    let xs = c.loop-p.run in
    let p = c.loop-p.p in
    let end = c.min-end.result in
    let ys = c.cover_piece.new.part in
    let starts : 16 * p ≤ length xs = omega arith in
    let fits : length ys ≡ end - 16 * p = omega (arith, simp (length-take, length-drop) at c.cover_piece.auto.part) in
    let here = c.cover_piece.ensures.added ∙ ap (λ key. plus (take (end - 16 * p) (drop (16 * p) xs)) (encrypted key (counter_block c.args.prefix.now (c.args.first + p)))) c.loop-p.invariant.0.same_key in (
      spent_more g.R.Route.tally c.loop-p.invariant.0 c.cover_piece.ensures.spent,
      added_more xs ys p end starts c.min-end.ensures fits c.args.run.now (key_of c.args.engine.now) c.args.prefix.now c.args.first c.loop-p.invariant.1 c.loop-p.invariant.2 here,
      rest_after xs ys p end starts c.min-end.ensures fits ∙ rest_from xs c.args.run.now p c.loop-p.invariant.2,
    )
