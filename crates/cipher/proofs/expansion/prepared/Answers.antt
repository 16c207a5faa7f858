use Rattle.std.proofs.Common.{◌≡◌, ◌%◌, true, false, ◌&&◌, eqb, ltb, sym, refl, ap, ◌∙◌, ap₂}
use Rattle.std.proofs.lemmas.Bool.{eq-eqb, ne_eqb, lt-ltb, le-ltb, and_from, and_left, and_right}
use Rattle.cipher.specs.Fips197.{word, word_sum, sub_word}
use Rattle.cipher.proofs.Expansions.{word_again, settled}
use Rattle.cipher.proofs.expansion.prepared.Goals as goal
use Rattle.cipher.proofs.expansion.prepared.Goals.{else-nk-gt6-via-then-nk-gt6+else-i-nk-eq4, else-nk-gt6-via-else-nk-gt6}

pub returns-then-i-nk-eq0-clause-value : goal.returns-then-i-nk-eq0-clause-value
returns-then-i-nk-eq0-clause-value g c =
    let way = settled c.args.nk c.args.i (word c.args.temp) true _ (eq-eqb _ 0 c.if-i-nk-eq0.true) refl in
    let boxed = c.sub_word.ensures in
    ap word c.add.ensures ∙ word_again _
    ∙ ap₂ word_sum (ap word boxed.value ∙ word_again _ ∙ ap sub_word c.rot_word.ensures) (ap word c.round_constant.ensures ∙ word_again _)
    ∙ sym way.0

pub returns-then-i-nk-eq4-clause-value : goal.returns-then-i-nk-eq4-clause-value
returns-then-i-nk-eq4-clause-value g c =
    let nk = c.args.nk in
    let way = settled nk c.args.i (word c.args.temp) false true (ne_eqb _ 0 c.if-i-nk-eq0.false) (and_from _ _ (lt-ltb 6 nk c.if-nk-gt6.true) (eq-eqb _ 4 c.if-i-nk-eq4.true)) in
    let boxed = c.sub_word-then-i-nk-eq4.ensures in
    ap word boxed.value ∙ word_again _ ∙ sym way.0

pub returns-clause-value : goal.returns-clause-value
returns-clause-value g c =
    let nk = c.args.nk in
    let i = c.args.i in
    let not_middle : (ltb 6 nk && eqb (i % nk) 4) ≡ false =
    elim c.else-nk-gt6.branch [
      | else-nk-gt6-via-then-nk-gt6+else-i-nk-eq4 w ↦ and_right _ _ (ne_eqb _ 4 w.if-i-nk-eq4.false)
      | else-nk-gt6-via-else-nk-gt6 w ↦ and_left _ _ (le-ltb 6 nk w.if-nk-gt6.false)
    ] in
    let way = settled nk i (word c.args.temp) false false (ne_eqb _ 0 c.if-i-nk-eq0.false) not_middle in
    sym way.0
