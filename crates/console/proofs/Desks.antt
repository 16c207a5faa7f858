-- Runs that were worked on in place, as the answers tell them.
use Rattle.std.proofs.Common.{◌≡◌, ℕ, List, length, Some, vec_items, vec_len, Option, Result, Vec, sym, subst}
use Rattle.std.specs.Vec.{with_items}
use Rattle.std.specs.declared.alloc.Global.{Global}
use Rattle.cipher.specs.Engines.{Turned}
use Rattle.cipher.specs.declared.engine.Engine.{Engine}
use Rattle.routes.specs.AnyRoutes.{AnyRoute, any_tally}
use Rattle.routes.specs.declared.refusal.Refusal.{Refusal}
use Rattle.sessions.proofs.Exchanges.{run_left}
use Rattle.sessions.specs.Histories.{Promised}
use Rattle.sessions.specs.Reading.{held_by, covering}
use Rattle.sessions.specs.declared.session.Session.{Session}
use Rattle.sessions.specs.declared.used.Used.{Used}
use Rattle.console.specs.Desks.{BlockTurned, RunCovered, block_told, cover_told}
use Rattle.console.specs.declared.answer.Answer.{Answer}
use Rattle.console.specs.declared.answer.Failure.{Failure}

module _ (e e' : Engine AnyRoute) (v : Vec ℕ Global) (xs ys : List ℕ) (holds : xs ≡ vec_items v) (size : length xs ≡ vec_len v) (same : length ys ≡ length xs) (r : Result Answer Failure) where
  left_is : ys ≡ vec_items (with_items v ys)
  left_is = run_left v xs ys size same

  pub block_turned : (turn : ℕ → List ℕ → List ℕ → List ℕ) (engine : Option (Engine AnyRoute)) (x : Result (Unit {0}) Refusal) → engine ≡ Some e → Turned any_tally e e' turn xs ys x → r ≡ block_told x (with_items v ys) → BlockTurned turn engine (vec_items v) (Some e') r
  block_turned turn engine x is turned told =
      subst (λ o. BlockTurned turn o (vec_items v) (Some e') r) (sym is)
      (x, with_items v ys, subst {A = List ℕ × List ℕ} (λ p. Turned any_tally e e' turn p.0 p.1 x) (λ i. (holds i, left_is i)) turned, told)

  pub run_covered : (s s' : Session) (engine : Option (Engine AnyRoute)) (session : Option Session) (x : Result Used Refusal) → engine ≡ Some e → session ≡ Some s → Promised (held_by any_tally e s) (covering xs x ys) (held_by any_tally e' s') → r ≡ cover_told x (with_items v ys) → RunCovered engine session (vec_items v) (Some e') (Some s') r
  run_covered s s' engine session x is there promised told =
      subst {A = Option (Engine AnyRoute) × Option Session} (λ o. RunCovered o.0 o.1 (vec_items v) (Some e') (Some s') r) (λ i. (sym is i, sym there i))
      (x, with_items v ys, subst {A = List ℕ × List ℕ} (λ p. Promised (held_by any_tally e s) (covering p.0 x p.1) (held_by any_tally e' s')) (λ i. (holds i, left_is i)) promised, told)
