use Rattle.std.proofs.Common.{rules, arith, true, Bool, Decides, ◌≡◌, ◌≢◌, ◌==◌, ℕ, false, length, get_or, List, Some, Option, Result, sym, ◌∙◌}
use Rattle.std.proofs.lemmas.Bool.{ne_eqb}
use Rattle.std.proofs.lemmas.Str.Pattern.{starts_char}
use Rattle.console.specs.Lines.{VerbNamed, VerbRead, WordRead}
use Rattle.console.specs.declared.command.Command.{Command}
use Rattle.console.specs.declared.misread.Misread.{Misread}
use Rattle.console.specs.declared.verb.Verb.{Verb}
use Rattle.console.proofs.command.read.Goals as goal

-- A word that is neither empty nor begins a remark, and is a verb.
verb_read : (word rest : List ℕ) (verb : Verb) (r : Result (Option Command) Misread) (starts : Bool) → (length word == 0) ≡ false → Decides starts (get_or word 0 0 ≡ 35) → starts ≡ false → VerbNamed word (Some verb) → VerbRead verb rest r → WordRead word rest r
verb_read word rest verb r starts e d n v h =
    let differs : get_or word 0 0 ≢ 35 = λ is. let t : starts ≡ true = d.1 is in let f : ⊥ = cc in absurd f in
    let other : (get_or word 0 0 == 35) ≡ false = ne_eqb (get_or word 0 0) 35 differs in
    rw e (rw other (Some verb, v, h))

pub returns-in_err-command : goal.returns-in_err-command
returns-in_err-command c =
    (_, _, c.first_word.ensures, verb_read c.first_word.result.0.now c.first_word.result.1.now c.in_ok-verb.verb c.from_residual-in_err-command.result _ (sym c.is_empty.ensures ∙ c.if-is_empty.false) (starts_char 35 c.first_word.result.0.now _ c.starts_with.ensures.cases (omega arith) (omega arith)) c.if-starts_with.false c.in_ok-verb.ensures.value (search rules))

pub returns : goal.returns
returns c =
    (_, _, c.first_word.ensures, verb_read c.first_word.result.0.now c.first_word.result.1.now c.in_ok-verb.verb _ _ (sym c.is_empty.ensures ∙ c.if-is_empty.false) (starts_char 35 c.first_word.result.0.now _ c.starts_with.ensures.cases (omega arith) (omega arith)) c.if-starts_with.false c.in_ok-verb.ensures.value (search rules))

pub returns-in_default : goal.returns-in_default
returns-in_default c =
    (_, _, c.first_word.ensures, verb_read c.first_word.result.0.now c.first_word.result.1.now c.in_ok-verb.verb _ _ (sym c.is_empty.ensures ∙ c.if-is_empty.false) (starts_char 35 c.first_word.result.0.now _ c.starts_with.ensures.cases (omega arith) (omega arith)) c.if-starts_with.false c.in_ok-verb.ensures.value (search rules))
