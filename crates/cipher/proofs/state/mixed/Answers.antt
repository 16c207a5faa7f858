use Rattle.std.proofs.Common.{◌≡◌, ap, ◌∙◌}
use Rattle.fields.specs.Bytes.{byte}
use Rattle.fields.specs.declared.byte.Byte.{Byte}
use Rattle.cipher.specs.Fips197.{word_at, word_bytes}
use Rattle.cipher.specs.Layout.{by_matrix, byte_row}
use Rattle.cipher.proofs.Lists.{four}
use Rattle.cipher.proofs.state.mixed.Goals as goal

-- the value of a row of four bytes
row-value : (p q r s : Byte) {a b c d a' b' c' d' : Byte} → a ≡ a' → b ≡ b' → c ≡ c' → d ≡ d' → (byte_row p q r s a b c d).value ≡ (byte_row p q r s a' b' c' d').value
row-value p q r s e f g h = λ i. (byte_row p q r s (e i) (f i) (g i) (h i)).value

pub returns : goal.returns
unfolding word_at word_bytes by_matrix
returns g c =
    let a = c.from-a.ensures in
    let b = c.from-b.ensures in
    let x = c.from-c.ensures in
    let d = c.from-d.ensures in
    four
    (c.from.ensures ∙ ap (λ y. y.value) c.row.ensures ∙ row-value (byte g.row.P) (byte g.row.Q) (byte g.row.R) (byte g.row.S) a b x d)
    (c.from-2.ensures ∙ ap (λ y. y.value) c.row-2.ensures ∙ row-value (byte g.row.P) (byte g.row.Q) (byte g.row.R) (byte g.row.S) b x d a)
    (c.from-3.ensures ∙ ap (λ y. y.value) c.row-3.ensures ∙ row-value (byte g.row.P) (byte g.row.Q) (byte g.row.R) (byte g.row.S) x d a b)
    (c.from-4.ensures ∙ ap (λ y. y.value) c.row-4.ensures ∙ row-value (byte g.row.P) (byte g.row.Q) (byte g.row.R) (byte g.row.S) d a b x)
