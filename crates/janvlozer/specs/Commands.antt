-- What the words of the command line ask for. Assumes nothing.
use Rattle.std.specs.Prelude.{◌≡◌, ℕ, List, [], ◌∷◌, Some, None, Ok, Err, string_bytes, codes, Option, Result, String, ◌≢◌}
use Rattle.std.specs.Option.{ok_or, option_map}
use Rattle.std.specs.declared.alloc.Global.{Global}
use Rattle.routes.specs.Names.{Named}
use Rattle.routes.specs.declared.name.RouteName.{RouteName}
use Rattle.routes.specs.declared.name.RouteName.TheVariants.{Table}
use Rattle.console.specs.Words.{byte_of}
use Rattle.console.specs.declared.direction.Direction.TheVariants.{Encrypt, Decrypt}
use Rattle.janvlozer.specs.declared.command.Command.{Command}
use Rattle.janvlozer.specs.declared.command.Command.TheVariants.{Demonstration, Invert, Routes, Turn, Help}
use Rattle.janvlozer.specs.declared.command.Misuse.{Misuse}
use Rattle.janvlozer.specs.declared.command.Misuse.TheVariants.{Words, Digits, Route}

-- One word: routes or help.
abbrev pub Alone : List ℕ → Result Command Misuse → Type 0
Alone word r =
    (word ≡ codes "routes" → r ≡ Ok Routes) × (word ≡ codes "help" → r ≡ Ok Help)
    × ((word ≢ codes "routes") → (word ≢ codes "help") → r ≡ Err Words)

-- Two words: a command and a byte. The one such command is invert.
abbrev pub After : List ℕ → List ℕ → Result Command Misuse → Type 0
After word text r =
    (word ≡ codes "invert" → r ≡ ok_or (option_map Invert (byte_of text)) Digits) × ((word ≢ codes "invert") → r ≡ Err Words)

-- A word that turns a block on a route: encrypt or decrypt.
abbrev pub Turns : List ℕ → RouteName → Result Command Misuse → Type 0
Turns word route r =
    (word ≡ codes "encrypt" → r ≡ Ok (Turn Encrypt route)) × (word ≡ codes "decrypt" → r ≡ Ok (Turn Decrypt route))
    × ((word ≢ codes "encrypt") → (word ≢ codes "decrypt") → r ≡ Err Words)

-- The same where the route is named: after --route, by the name of a route.
abbrev pub OnNamed : List ℕ → Option RouteName → Result Command Misuse → Type 0
OnNamed word (Some route) r = Turns word route r
OnNamed word None r = r ≡ Err Route

abbrev pub TurnsOn : List ℕ → List ℕ → List ℕ → Result Command Misuse → Type 0
TurnsOn word flag name r =
    (flag ≡ codes "--route" → (o : Option RouteName) × Named name o × OnNamed word o r) × ((flag ≢ codes "--route") → r ≡ Err Words)

-- No words ask for the demonstration; three turn a block on the table route, five on a named one; any other number is a misuse.
abbrev pub Asked : List (String Global) → Result Command Misuse → Type 0
Asked [] r = r ≡ Ok Demonstration
Asked (a ∷ []) r = Alone (string_bytes a) r
Asked (a ∷ b ∷ []) r = After (string_bytes a) (string_bytes b) r
Asked (a ∷ b ∷ c ∷ []) r = Turns (string_bytes a) Table r
Asked (a ∷ b ∷ c ∷ d ∷ []) r = r ≡ Err Words
Asked (a ∷ b ∷ c ∷ d ∷ e ∷ []) r = TurnsOn (string_bytes a) (string_bytes d) (string_bytes e) r
Asked (a ∷ b ∷ c ∷ d ∷ e ∷ f ∷ ws) r = r ≡ Err Words
