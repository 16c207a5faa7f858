-- What a line of a script means. Assumes nothing.
use Rattle.std.specs.Prelude.{◌≡◌, ℕ, cond, List, [], ◌∷◌, length, Some, None, Ok, Err, vec_items, codes, Option, Result, Vec, MatchOption, ◌==◌, ◌≢◌, slice_index}
use Rattle.std.specs.Option.{option_map}
use Rattle.std.specs.declared.alloc.Global.{Global}
use Rattle.routes.specs.Names.{Named}
use Rattle.routes.specs.declared.name.RouteName.{RouteName}
use Rattle.console.specs.Words.{run_word, NumberRead, Parted}
use Rattle.console.specs.declared.command.Command.{Command}
use Rattle.console.specs.declared.command.Command.TheVariants.{MakeRoute, OpenSession, SkipNumbers, WithRun, Plainly}
use Rattle.console.specs.declared.misread.Misread.{Misread}
use Rattle.console.specs.declared.misread.Misread.TheVariants.{NoVerb, Misfit, Memory}
use Rattle.console.specs.declared.verb.LoneVerb.{LoneVerb}
use Rattle.console.specs.declared.verb.LoneVerb.TheVariants.{Remaining, Close, Retire}
use Rattle.console.specs.declared.verb.RunVerb.{RunVerb}
use Rattle.console.specs.declared.verb.RunVerb.TheVariants.{Key, Cover, Encrypt, Decrypt}
use Rattle.console.specs.declared.verb.Verb.{Verb}
use Rattle.console.specs.declared.verb.Verb.TheVariants.{Route, Open, Skip, OnRun, Alone}

abbrev pub verb_text : Verb → List ℕ
verb_text Route = codes "route"
verb_text Open = codes "open"
verb_text Skip = codes "skip"
verb_text (OnRun Key) = codes "key"
verb_text (OnRun Cover) = codes "cover"
verb_text (OnRun Encrypt) = codes "encrypt"
verb_text (OnRun Decrypt) = codes "decrypt"
verb_text (Alone Remaining) = codes "remaining"
verb_text (Alone Close) = codes "close"
verb_text (Alone Retire) = codes "retire"

-- A word is the verb whose text it is, or none where it is no verb's.
abbrev pub VerbNamed : List ℕ → Option Verb → Type 0
VerbNamed word r = MatchOption r ((v : Verb) → word ≢ verb_text v) (λ v. word ≡ verb_text v)

abbrev pub VerbParsed : List ℕ → Result Verb Misread → Type 0
VerbParsed word (Ok v) = VerbNamed word (Some v)
VerbParsed word (Err e) = (e ≡ NoVerb) × VerbNamed word None

-- Two things, where both are there.
abbrev pub both : {A B C : Type 0} → (A → B → C) → Option A → Option B → Option C
both make None b = None
both make (Some a) None = None
both make (Some a) (Some b) = Some (make a b)

-- ---- what follows a verb

-- Nothing.
abbrev pub alone_of : LoneVerb → List ℕ → Option Command
alone_of verb rest = cond (length rest == 0) (Some (Plainly verb)) None

-- A run of bytes.
abbrev pub RunRead : RunVerb → List ℕ → Option Command → Type 0
RunRead verb rest o = (run : Option (Vec ℕ Global)) × (option_map vec_items run ≡ run_word rest) × (o ≡ option_map (WithRun verb) run)

-- A name and a number.
abbrev pub RouteRead : List ℕ → Option Command → Type 0
RouteRead rest o =
    (first : List ℕ) × (second : List ℕ) × Parted rest first second
    × ((name : Option RouteName) × Named first name × ((start : Option ℕ) × NumberRead second start × (o ≡ both MakeRoute name start)))

-- A number, or nothing.
abbrev pub AtRead : List ℕ → Option (Option ℕ) → Type 0
AtRead [] o = o ≡ Some None
AtRead (c ∷ text) o = (at : Option ℕ) × NumberRead (c ∷ text) at × (o ≡ option_map Some at)

-- A prefix, and a number or nothing.
abbrev pub OpenRead : List ℕ → Option Command → Type 0
OpenRead rest o =
    (first : List ℕ) × (second : List ℕ) × Parted rest first second
    × ((prefix : Option (Vec ℕ Global)) × (option_map vec_items prefix ≡ run_word first) × ((at : Option (Option ℕ)) × AtRead second at × (o ≡ both OpenSession prefix at)))

-- A number.
abbrev pub SkipRead : List ℕ → Option Command → Type 0
SkipRead rest o = (n : Option ℕ) × NumberRead rest n × (o ≡ option_map SkipNumbers n)

abbrev pub ArgumentsRead : Verb → List ℕ → Option Command → Type 0
ArgumentsRead Route rest o = RouteRead rest o
ArgumentsRead Open rest o = OpenRead rest o
ArgumentsRead Skip rest o = SkipRead rest o
ArgumentsRead (OnRun verb) rest o = RunRead verb rest o
ArgumentsRead (Alone verb) rest o = o ≡ alone_of verb rest

-- ---- a whole line

-- A line whose first word is a verb, by what follows it; or memory ran short.
abbrev pub VerbRead : Verb → List ℕ → Result (Option Command) Misread → Type 0
VerbRead verb rest (Ok (Some c)) = ArgumentsRead verb rest (Some c)
VerbRead verb rest (Ok None) = ⊥
VerbRead verb rest (Err (Misfit v)) = (v ≡ verb) × ArgumentsRead verb rest None
VerbRead verb rest (Err NoVerb) = ⊥
VerbRead verb rest (Err (Memory e)) = Unit {0}

-- A line by its first word: blank or a remark, which ask for nothing, a verb, or none of these.
abbrev pub WordRead : List ℕ → List ℕ → Result (Option Command) Misread → Type 0
WordRead word rest r =
    cond (length word == 0) (r ≡ Ok None)
    (cond (slice_index word 0 == 35) (r ≡ Ok None)
    ((verb : Option Verb) × VerbNamed word verb × MatchOption verb (r ≡ Err NoVerb) (λ v. VerbRead v rest r)))

abbrev pub LineRead : List ℕ → Result (Option Command) Misread → Type 0
LineRead line r = (word : List ℕ) × (rest : List ℕ) × Parted line word rest × WordRead word rest r
