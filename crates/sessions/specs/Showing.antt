-- How what a call gave is shown. Assumes nothing.
use Rattle.std.specs.Prelude.{ℕ, List, ◌++◌, codes, decimal}
use Rattle.sessions.specs.declared.call.Given.{Given}
use Rattle.sessions.specs.declared.call.Given.TheVariants as given
use Rattle.sessions.specs.declared.used.Used.{Used}

-- The first number used, and how many there are.
abbrev pub used_text : Used → List ℕ
used_text u = decimal u.first ++ codes " " ++ decimal u.count

-- How many numbers remain, or those used.
abbrev pub given_text : Given → List ℕ
given_text (given.Left n) = decimal n
given_text (given.Used u) = used_text u
