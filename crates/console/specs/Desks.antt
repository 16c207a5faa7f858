-- What a command does to what a script holds, by what the calls of engine and session promise. Assumes nothing.
use Rattle.std.specs.Prelude.{◌≡◌, ℕ, ◌<◌, ◌≤◌, List, Some, None, Ok, Err, vec_items, Option, Result, Vec}
use Rattle.std.specs.Option.{option_map}
use Rattle.std.specs.declared.alloc.Global.{Global}
use Rattle.cipher.specs.Engines.{KeySet, Turned}
use Rattle.cipher.specs.Fips197.{aes, aes_inverse}
use Rattle.cipher.specs.declared.engine.Engine.{Engine}
use Rattle.routes.specs.AnyRoutes.{AnyRoute, any_tally, any_name}
use Rattle.routes.specs.Names.{name_text}
use Rattle.routes.specs.Refusals.{numbers}
use Rattle.routes.specs.Routes.{cap}
use Rattle.routes.specs.declared.name.RouteName.{RouteName}
use Rattle.routes.specs.declared.refusal.Refusal.{Refusal}
use Rattle.sessions.specs.Histories.{Promised}
use Rattle.sessions.specs.Reading.{Opened, Remained, Skipped, held_by, covering}
use Rattle.sessions.specs.declared.session.Session.{Session}
use Rattle.sessions.specs.declared.used.Used.{Used}
use Rattle.console.specs.declared.answer.Answer.{Answer}
use Rattle.console.specs.declared.answer.Answer.TheVariants.{Taken, Number, Covered, Block}
use Rattle.console.specs.declared.answer.Failure.{Failure}
use Rattle.console.specs.declared.answer.Failure.TheVariants.{Refused, OutOfPlace}
use Rattle.console.specs.declared.answer.Unfit.TheVariants.{EngineMissing, EngineThere, SessionMissing, SessionThere}
use Rattle.console.specs.declared.command.Command.{Command}
use Rattle.console.specs.declared.command.Command.TheVariants.{MakeRoute, OpenSession, SkipNumbers, WithRun, Plainly}
use Rattle.console.specs.declared.desk.Desk.{Desk}
use Rattle.console.specs.declared.verb.LoneVerb.TheVariants.{Remaining, Close, Retire}
use Rattle.console.specs.declared.verb.RunVerb.TheVariants.{Key, Cover, Encrypt, Decrypt}

-- ---- answers, by what the calls gave

abbrev pub plainly_told : {X : Type 0} → Result X Refusal → Result Answer Failure
plainly_told (Ok x) = Ok Taken
plainly_told (Err e) = Err (Refused e)

abbrev pub number_told : Result ℕ Refusal → Result Answer Failure
number_told (Ok n) = Ok (Number n)
number_told (Err e) = Err (Refused e)

abbrev pub block_told : {X : Type 0} → Result X Refusal → Vec ℕ Global → Result Answer Failure
block_told (Ok x) block = Ok (Block block)
block_told (Err e) block = Err (Refused e)

abbrev pub cover_told : Result Used Refusal → Vec ℕ Global → Result Answer Failure
cover_told (Ok u) run = Ok (Covered u run)
cover_told (Err e) run = Err (Refused e)

-- ---- with an engine, which is there or not

-- A route is made by its name at a starting tally, and an engine from it, with no key; or it is refused, 9 with that tally.
abbrev pub Routed : Option (Engine AnyRoute) → RouteName → ℕ → Option (Engine AnyRoute) → Result Answer Failure → Type 0
Routed (Some e) name start after r = (after ≡ Some e) × (r ≡ Err (OutOfPlace EngineThere))
Routed None name start None r = (e : Refusal) × (r ≡ Err (Refused e)) × (cap < start) × (◌≡◌ {A = ℕ × ℕ} (numbers e) (9, start))
Routed None name start (Some e) r =
    (r ≡ Ok Taken) × (start ≤ cap) × (any_tally e.route ≡ start) × (any_name e.route ≡ name_text name) × (e.schedule ≡ None)

-- A key is set as the engine promises.
abbrev pub Keyed : Option (Engine AnyRoute) → List ℕ → Option (Engine AnyRoute) → Result Answer Failure → Type 0
Keyed None key after r = (after ≡ None) × (r ≡ Err (OutOfPlace EngineMissing))
Keyed (Some e) key None r = ⊥
Keyed (Some e) key (Some e') r = (x : Result (Unit {0}) Refusal) × KeySet any_tally e e' key x × (r ≡ plainly_told x)

-- A block is turned as the engine promises, and told as it is left.
abbrev pub BlockTurned : (ℕ → List ℕ → List ℕ → List ℕ) → Option (Engine AnyRoute) → List ℕ → Option (Engine AnyRoute) → Result Answer Failure → Type 0
BlockTurned turn None block after r = (after ≡ None) × (r ≡ Err (OutOfPlace EngineMissing))
BlockTurned turn (Some e) block None r = ⊥
BlockTurned turn (Some e) block (Some e') r =
    (x : Result (Unit {0}) Refusal) × (left : Vec ℕ Global) × Turned any_tally e e' turn block (vec_items left) x × (r ≡ block_told x left)

-- The engine is retired, and its tally is told.
abbrev pub Retired : Option (Engine AnyRoute) → Result Answer Failure → Type 0
Retired None r = r ≡ Err (OutOfPlace EngineMissing)
Retired (Some e) r = r ≡ Ok (Number (any_tally e.route))

-- ---- with a session, which is there or not

abbrev pub SessionOpened : Option Session → List ℕ → Option ℕ → Option Session → Result Answer Failure → Type 0
SessionOpened (Some s) prefix at after r = (after ≡ Some s) × (r ≡ Err (OutOfPlace SessionThere))
SessionOpened None prefix at None r = (e : Refusal) × (r ≡ Err (Refused e)) × Opened prefix at (Err e)
SessionOpened None prefix at (Some s) r = (r ≡ Ok Taken) × Opened prefix at (Ok s)

abbrev pub NumbersSkipped : Option Session → ℕ → Option Session → Result Answer Failure → Type 0
NumbersSkipped None n after r = (after ≡ None) × (r ≡ Err (OutOfPlace SessionMissing))
NumbersSkipped (Some s) n None r = ⊥
NumbersSkipped (Some s) n (Some s') r = (x : Result ℕ Refusal) × Skipped s n x s' × (r ≡ number_told x)

abbrev pub RemainingAsked : Option Session → Option Session → Result Answer Failure → Type 0
RemainingAsked None after r = (after ≡ None) × (r ≡ Err (OutOfPlace SessionMissing))
RemainingAsked (Some s) after r = (after ≡ Some s) × ((n : ℕ) × Remained s n × (r ≡ Ok (Number n)))

-- The session is closed, and its next number is told.
abbrev pub SessionClosed : Option Session → Result Answer Failure → Type 0
SessionClosed None r = r ≡ Err (OutOfPlace SessionMissing)
SessionClosed (Some s) r = r ≡ Ok (Number s.next)

-- ---- with both

-- A run is covered as the session promises, and told as it is left.
abbrev pub RunCovered : Option (Engine AnyRoute) → Option Session → List ℕ → Option (Engine AnyRoute) → Option Session → Result Answer Failure → Type 0
RunCovered engine None run engine' session' r = (engine' ≡ engine) × (session' ≡ None) × (r ≡ Err (OutOfPlace SessionMissing))
RunCovered None (Some s) run engine' session' r = (engine' ≡ None) × (session' ≡ Some s) × (r ≡ Err (OutOfPlace EngineMissing))
RunCovered (Some e) (Some s) run None session' r = ⊥
RunCovered (Some e) (Some s) run (Some e') None r = ⊥
RunCovered (Some e) (Some s) run (Some e') (Some s') r =
    (x : Result Used Refusal) × (left : Vec ℕ Global) × Promised (held_by any_tally e s) (covering run x (vec_items left)) (held_by any_tally e' s') × (r ≡ cover_told x left)

-- ---- a command

abbrev pub CarriedOut : Desk → Command → Desk → Result Answer Failure → Type 0
CarriedOut d (MakeRoute name start) d' r = Routed d.engine name start d'.engine r × (d'.session ≡ d.session)
CarriedOut d (OpenSession prefix at) d' r = SessionOpened d.session (vec_items prefix) at d'.session r × (d'.engine ≡ d.engine)
CarriedOut d (SkipNumbers n) d' r = NumbersSkipped d.session n d'.session r × (d'.engine ≡ d.engine)
CarriedOut d (WithRun Key run) d' r = Keyed d.engine (vec_items run) d'.engine r × (d'.session ≡ d.session)
CarriedOut d (WithRun Cover run) d' r = RunCovered d.engine d.session (vec_items run) d'.engine d'.session r
CarriedOut d (WithRun Encrypt run) d' r = BlockTurned aes d.engine (vec_items run) d'.engine r × (d'.session ≡ d.session)
CarriedOut d (WithRun Decrypt run) d' r = BlockTurned aes_inverse d.engine (vec_items run) d'.engine r × (d'.session ≡ d.session)
CarriedOut d (Plainly Remaining) d' r = RemainingAsked d.session d'.session r × (d'.engine ≡ d.engine)
CarriedOut d (Plainly Close) d' r = SessionClosed d.session r × (d'.session ≡ None) × (d'.engine ≡ d.engine)
CarriedOut d (Plainly Retire) d' r = Retired d.engine r × (d'.engine ≡ None) × (d'.session ≡ d.session)

-- What is told when a desk is cleared.
abbrev pub next_number : Option Session → Option ℕ
next_number s = option_map (λ x. x.next) s

abbrev pub tally_of : Option (Engine AnyRoute) → Option ℕ
tally_of e = option_map (λ x. any_tally x.route) e
