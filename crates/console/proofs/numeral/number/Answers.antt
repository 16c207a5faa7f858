use Rattle.std.proofs.Common.{rules}
use Rattle.std.proofs.lemmas.Str.Parse.{parse_plain}
use Rattle.std.proofs.lemmas.Str.Pattern.{starts_char}
use Rattle.console.proofs.Reading.{own}
use Rattle.console.proofs.numeral.number.Goals as goal

pub returns : goal.returns
returns c = search (rules, parse_plain own 64 c.args.text.now _ c.parse.ensures.value.0, starts_char 43 c.args.text.now _ c.starts_with.ensures.cases)
