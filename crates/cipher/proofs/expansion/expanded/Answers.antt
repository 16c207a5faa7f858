use Rattle.std.proofs.Common.{◌≡◌, ◌-◌, ◌/◌, length, take, sym, refl, ap, ◌∙◌, subst, add-zero, arith}
use Rattle.std.proofs.lemmas.List.{take-set-le}
use Rattle.cipher.specs.Asking.{AskedTimes}
use Rattle.cipher.specs.Fips197.{words, key_expansion, key_schedule}
use Rattle.cipher.specs.Keys.{schedule_length, words_cost}
use Rattle.cipher.specs.Layout.{word_lists, in_a_row}
use Rattle.cipher.proofs.Expansions.{UnusedPast, unused_room, unused_more, sized, expansion_more, cost_more, cost_room}
use Rattle.cipher.proofs.expansion.expanded.Goals as goal

pub loop-i-init : goal.loop-i-init
unfolding key_expansion words_cost
loop-i-init g c =
    let nk = length c.args.key.now / 4 in
    let first = c.key_first-words.ensures in
    let z : nk - nk ≡ 0 = omega arith in
    record { scheduled = rw z first.value; key = first.bytes; asked = record { counted = rw z (sym (add-zero _)); named = refl }; rest = first.rest }

pub prepared-temp-requires-clause-room : goal.prepared-temp-requires-clause-room
prepared-temp-requires-clause-room g c =
    let nk = length c.args.key.now / 4 in
    let s = sized (length c.args.key.now) c.requires.size in
    omega (arith, c.loop-i.invariant.asked, cost_room nk c.loop-i.i (schedule_length nk) (omega arith) (omega arith))

pub loop-i-preserved : goal.loop-i-preserved
loop-i-preserved g c =
    let key = c.args.key.now in
    let nk = length key / 4 in
    let i = c.loop-i.i in
    let s = sized (length key) c.requires.size in
    let inv = c.loop-i.invariant in
    let temp = c.prepared-temp.ensures in
    record {
      scheduled =
          expansion_more nk i c.loop-i.words (words nk key) c.prepared-temp.result c.add.result (omega arith) (omega arith)
          (unused_room i c.loop-i.words inv.rest (omega arith)) inv.scheduled temp.value c.add.ensures;
      key = ap in_a_row (take-set-le nk c.loop-i.words i c.add.result (omega arith)) ∙ inv.key;
      asked = record { counted = omega (arith, temp.asked.counted, inv.asked.counted, cost_more nk i (omega arith)); named = temp.asked.named ∙ inv.asked.named };
      rest = unused_more i c.loop-i.words c.add.result inv.rest;
    }

pub returns : goal.returns
unfolding key_schedule
returns g c =
    let key = c.args.key.now in
    let nk = length key / 4 in
    let s = sized (length key) c.requires.size in
    let inv = c.loop-i.invariant in
    let end : c.loop-i.i ≡ schedule_length nk = omega arith in
    record {
      value = subst (λ n. take n c.loop-i.words ≡ word_lists (key_expansion nk (words nk key) (n - nk))) end inv.scheduled;
      bytes = inv.key;
      rest = subst (λ n. UnusedPast n c.loop-i.words) end inv.rest;
      asked = subst (AskedTimes g.R.Route.tally g.R.Route.name c.args.route.now c.loop-i.route) (ap (λ n. words_cost nk (n - nk)) end ∙ s.cost) inv.asked;
    }
