-- Each step of the inverse cipher undoes its step of the cipher, and so the two ciphers undo each other. Assumes nothing.
use Rattle.std.proofs.Common.{◌≡◌, ℕ, zero, suc, ◌+◌, ◌%◌, ◌<◌, List, [], ◌∷◌, length, get_or, drop, sym, refl, ap, ◌∙◌, mod-eq_of_lt, arith, drop_of_length-le, drop-cons}
use Rattle.fields.specs.Bytes.{byte, byte_sum}
use Rattle.fields.specs.declared.byte.Byte.{Byte}
use Rattle.fields.specs.WordLaws.{byte_laws, byte_of-value}
use Rattle.cipher.specs.Fips197.{Word, State, word_of, state_of, word_sum, each_byte, each_column, s_box, inv_s_box, sub_bytes, inv_sub_bytes, shift_rows, inv_shift_rows, mix_columns, inv_mix_columns, mix_column, inv_mix_column, add_round_key, round_key, rounds, inv_rounds, cipher, inv_cipher, word_at, word_bytes, state, state_bytes, round_count, key_schedule, aes, aes_inverse}
use Rattle.cipher.specs.Undo.{Inverses, SubBytesUndo, ShiftRowsUndo, MixColumnsUndo, AddRoundKeyUndoes, CiphersUndo, Block, Deciphers, Enciphers, UndoLaws}
use Rattle.cipher.proofs.Boxes.{boxes_undo}
use Rattle.cipher.proofs.Columns.{word_path, mix_column-undone}

-- ---- the steps

state_path : (s t : State) → s.c0 ≡ t.c0 → s.c1 ≡ t.c1 → s.c2 ≡ t.c2 → s.c3 ≡ t.c3 → s ≡ t
state_path s t e0 e1 e2 e3 = λ i. state_of (e0 i) (e1 i) (e2 i) (e3 i)

bytes_undo : (f g : Byte → Byte) → Inverses f g → Inverses (each_byte f) (each_byte g)
bytes_undo f g u = record {
  back = λ w. word_path _ w (u.back w.b0) (u.back w.b1) (u.back w.b2) (u.back w.b3);
  forth = λ w. word_path _ w (u.forth w.b0) (u.forth w.b1) (u.forth w.b2) (u.forth w.b3);
}

columns_undo : (f g : Word → Word) → Inverses f g → Inverses (each_column f) (each_column g)
columns_undo f g u = record {
  back = λ s. state_path _ s (u.back s.c0) (u.back s.c1) (u.back s.c2) (u.back s.c3);
  forth = λ s. state_path _ s (u.forth s.c0) (u.forth s.c1) (u.forth s.c2) (u.forth s.c3);
}

sub_bytes_undo : SubBytesUndo
unfolding sub_bytes inv_sub_bytes
sub_bytes_undo = columns_undo _ _ (bytes_undo s_box inv_s_box boxes_undo)

shift_rows_undo : ShiftRowsUndo
unfolding shift_rows inv_shift_rows
shift_rows_undo = record { back = λ s. refl; forth = λ s. refl }

mix_columns_undo : MixColumnsUndo
unfolding mix_columns inv_mix_columns
mix_columns_undo = columns_undo mix_column inv_mix_column mix_column-undone

sum-undone : (a k : Byte) → byte_sum (byte_sum a k) k ≡ a
sum-undone a k = byte_laws.sum_assoc a k k ∙ ap (byte_sum a) (byte_laws.sum_self k) ∙ byte_laws.sum_zero a

word_sum-undone : (v k : Word) → word_sum (word_sum v k) k ≡ v
unfolding word_sum
word_sum-undone v k = word_path _ v (sum-undone v.b0 k.b0) (sum-undone v.b1 k.b1) (sum-undone v.b2 k.b2) (sum-undone v.b3 k.b3)

add_round_key_undoes : AddRoundKeyUndoes
unfolding add_round_key
add_round_key_undoes k s =
    state_path _ s (word_sum-undone s.c0 k.c0) (word_sum-undone s.c1 k.c1) (word_sum-undone s.c2 k.c2) (word_sum-undone s.c3 k.c3)

-- ---- the ciphers

unsub : (s : State) → inv_sub_bytes (sub_bytes s) ≡ s
unsub = sub_bytes_undo.back

unshift : (s : State) → inv_shift_rows (shift_rows s) ≡ s
unshift = shift_rows_undo.back

unmix : (s : State) → inv_mix_columns (mix_columns s) ≡ s
unmix = mix_columns_undo.back

unadd : (s k : State) → add_round_key (add_round_key s k) k ≡ s
unadd s k = add_round_key_undoes k s

resub : (s : State) → sub_bytes (inv_sub_bytes s) ≡ s
resub = sub_bytes_undo.forth

reshift : (s : State) → shift_rows (inv_shift_rows s) ≡ s
reshift = shift_rows_undo.forth

remix : (s : State) → mix_columns (inv_mix_columns s) ≡ s
remix = mix_columns_undo.forth

ruleset steps = (unsub, unshift, unmix, unadd, resub, reshift, remix)

-- One round and the round backwards, at both of the places at which they meet.
round_back : (k s : State) → inv_mix_columns (add_round_key (inv_sub_bytes (inv_shift_rows (shift_rows (sub_bytes (add_round_key (mix_columns s) k))))) k) ≡ s
round_back k s = simp steps

round_forth : (k s : State) → add_round_key (mix_columns (shift_rows (sub_bytes (inv_sub_bytes (inv_shift_rows (inv_mix_columns (add_round_key s k))))))) k ≡ s
round_forth k s = simp steps

rounds_back : (n : ℕ) (w : List Word) (s : State) → inv_rounds n w (shift_rows (sub_bytes (rounds n w s))) ≡ shift_rows (sub_bytes s)
unfolding rounds inv_rounds
rounds_back zero w s = refl
rounds_back (suc n) w s = ap (inv_rounds n w) (round_back (round_key w (suc n)) _) ∙ rounds_back n w s

rounds_forth : (n : ℕ) (w : List Word) (s : State) → rounds n w (inv_sub_bytes (inv_shift_rows (inv_rounds n w s))) ≡ inv_sub_bytes (inv_shift_rows s)
unfolding rounds inv_rounds
rounds_forth zero w s = refl
rounds_forth (suc n) w s =
    ap (λ t. add_round_key (mix_columns (shift_rows (sub_bytes t))) (round_key w (suc n))) (rounds_forth n w _)
    ∙ round_forth (round_key w (suc n)) (inv_sub_bytes (inv_shift_rows s))

ciphers_undo : CiphersUndo
unfolding cipher inv_cipher
ciphers_undo nr w = record { back = λ s. simp (steps, rounds_back); forth = λ s. simp (steps, rounds_forth) }

-- ---- blocks as lists

-- A state is that of its bytes.
pub state_of_bytes : (s : State) → state (state_bytes s) ≡ s
unfolding state state_bytes word_at word_bytes
state_of_bytes s = state_path _ s (word_again s.c0) (word_again s.c1) (word_again s.c2) (word_again s.c3)
  where
    word_again : (w : Word) → word_of (byte w.b0.value) (byte w.b1.value) (byte w.b2.value) (byte w.b3.value) ≡ w
    word_again w = word_path _ w (byte_of-value w.b0) (byte_of-value w.b1) (byte_of-value w.b2) (byte_of-value w.b3)

-- The n bytes of xs from place k on.
kept : ℕ → ℕ → List ℕ → List ℕ
kept k zero xs = []
kept k (suc n) xs = get_or xs k 0 % 256 ∷ kept (suc k) n xs

kept_is : (n k : ℕ) (xs : List ℕ) → k + n ≡ length xs → ((i : ℕ) → i < length xs → get_or xs i 0 < 256) → kept k n xs ≡ drop k xs
unfolding kept
kept_is zero k xs e h = sym (drop_of_length-le xs (omega arith))
kept_is (suc n) k xs e h =
    let l : k < length xs = omega arith in
    rw (drop-cons xs k 0, mod-eq_of_lt (h k l), kept_is n (suc k) xs (omega arith) h)

-- A block is the bytes of its state.
block_again : (xs : List ℕ) → Block xs → state_bytes (state xs) ≡ xs
unfolding state state_bytes word_at word_bytes kept byte
block_again xs b = kept_is 16 0 xs (sym b.sixteen) (λ i l. b.bytes i (omega (arith, b.sixteen)))

deciphers : Deciphers
unfolding aes aes_inverse
deciphers nk key block b = simp (state_of_bytes, (ciphers_undo (round_count nk) (key_schedule nk key)).back) (block_again block b)

enciphers : Enciphers
unfolding aes aes_inverse
enciphers nk key block b = simp (state_of_bytes, (ciphers_undo (round_count nk) (key_schedule nk key)).forth) (block_again block b)

pub undo_laws : UndoLaws
undo_laws = record {
  boxes = boxes_undo;
  sub_bytes = sub_bytes_undo;
  shift_rows = shift_rows_undo;
  mix_columns = mix_columns_undo;
  add_round_key = add_round_key_undoes;
  ciphers = ciphers_undo;
  deciphers = deciphers;
  enciphers = enciphers;
}
