use Rattle.std.proofs.Common.{◌≡◌, ◌-◌, take}
use Rattle.cipher.specs.Asking.{AskedTimes}
use Rattle.cipher.specs.Fips197.{words, key_expansion}
use Rattle.cipher.specs.Keys.{words_cost}
use Rattle.cipher.specs.Layout.{word_lists, in_a_row}
use Rattle.cipher.proofs.Expansions.{UnusedPast}
use Rattle.cipher.proofs.expansion.expanded.Given as goal

abbrev pub invariant-loop-i : goal.invariant-loop-i
invariant-loop-i g l = record {
  scheduled : take l.i l.words ≡ word_lists (key_expansion l.nk (words l.nk l.key) (l.i - l.nk));
  key : in_a_row (take l.nk l.words) ≡ l.key;
  asked : AskedTimes g.R.Route.tally g.R.Route.name l.initial.route l.route (words_cost l.nk (l.i - l.nk));
  rest : UnusedPast l.i l.words;
}
