use Rattle.std.proofs.Common.{refl, ap, ◌∙◌, rules}
use Rattle.cipher.proofs.Undoing.{undo_laws}
use Rattle.cipher.specs.Fips197.{aes_inverse}
use Rattle.cipher.specs.Undo.{Block}
use Rattle.views.specs.declared.round_trip.TheConstants.{KEY, BLOCK}
use Rattle.views.proofs.round_trip.RoundTrip.new.Goals as goal

block : Block BLOCK
block = record { sixteen = refl; bytes = λ i h. search (rules, h) }

pub returns : goal.returns
returns c =
    record {
      block = refl;
      covered = c.turned-sent.ensures.block;
      back = c.turned-read.ensures.block ∙ ap (aes_inverse 4 KEY) c.turned-sent.ensures.block ∙ undo_laws.deciphers 4 KEY BLOCK block;
      sent = c.turned-sent.ensures.tally;
      read = c.turned-read.ensures.tally;
    }
