-- What a client learns that covers one run. Assumes nothing.
use Rattle.std.specs.Prelude.{ℕ, List, Result}
use Rattle.cipher.specs.Engines.{engine_key}
use Rattle.cipher.specs.declared.engine.Engine.{Engine}
use Rattle.routes.specs.declared.refusal.Refusal.{Refusal}
use Rattle.sessions.specs.Histories.{Promised}
use Rattle.sessions.specs.Reading.{held_by, covering, key_or_none, held_with}
use Rattle.sessions.specs.declared.session.Session.{Session}
use Rattle.sessions.specs.declared.used.Used.{Used}

module _ {R : Type 0} (tally : R → ℕ) where
  -- The run was covered as it is promised, and the route given back has the tally after that.
  abbrev pub CoveredOnce : Engine R → Session → Session → List ℕ → List ℕ → Result Used Refusal × R → Type 0
  CoveredOnce e s s' run run' r =
      Promised (held_by tally e s) (covering run r.0 run') (held_with (key_or_none (engine_key e)) (tally r.1) s')

  -- The run was covered as it is promised, and the session closed at the number after that.
  abbrev pub ClosedAfter : Engine R → Engine R → Session → List ℕ → List ℕ → Result Used Refusal × ℕ → Type 0
  ClosedAfter e e' s run run' r =
      Promised (held_by tally e s) (covering run r.0 run') record { key = key_or_none (engine_key e'); prefix = s.prefix; next = r.1; tally = tally e'.route }
