use Rattle.std.proofs.Common.{◌≡◌, ◌+◌, ◌*◌, length, vec_items, vec_len}
use Rattle.std.specs.Slice.Iter.{chunks_exact_rest, chunks_exact_size}
use Rattle.console.specs.Words.{spelt}
use Rattle.console.proofs.Reading.{after_all}
use Rattle.console.proofs.hex.bytes.Given as goal

abbrev pub invariant-loop-digits : goal.invariant-loop-digits
invariant-loop-digits l = record {
  sized : chunks_exact_size l.digits-iterator ≡ 2;
  placed : 2 * vec_len l.all + length (chunks_exact_rest l.digits-iterator) ≡ length l.text;
  so_far : spelt l.text ≡ after_all (vec_items l.all) (spelt (chunks_exact_rest l.digits-iterator));
}
