-- Covering one run from a set-up that is taken: what is answered, counted and left. Assumes nothing.
use Rattle.std.proofs.Common.{◌≡◌, ℕ, ◌+◌, List, length, Some, None, Result, sym, ap, ◌∙◌, subst}
use Rattle.cipher.specs.Engines.{engine_key}
use Rattle.cipher.specs.Keys.{key_cost}
use Rattle.cipher.specs.declared.engine.Engine.{Engine}
use Rattle.routes.specs.declared.refusal.Refusal.{Refusal}
use Rattle.sessions.specs.Calls.{cover, covers, taken, used, call_cost}
use Rattle.sessions.specs.Exchanges.{set_up_verdict}
use Rattle.sessions.specs.Histories.{Held, Promised, History, none, then, SetUp, opened}
use Rattle.sessions.specs.Places.{Ran}
use Rattle.sessions.specs.Reading.{held_by, numbers_given, covering}
use Rattle.sessions.specs.declared.session.Session.{Session}
use Rattle.sessions.specs.declared.used.Used.{Used}
use Rattle.sessions.proofs.SetUps.{allowed_by, held_at_start}
use Rattle.sessions.proofs.Steps.{held_path, taken_is_ctr}
use Rattle.embed.specs.Covers.{answer_by, count_by, ruled_cover, cover_answer, refused_tally, ruled_tally, one_cover, Covered}

module _ (u : SetUp) (run run' : List ℕ) (r : Result Used Refusal) (h' : Held) (yes_taken : set_up_verdict u ≡ None) (promise : Promised (opened u) (covering run r run') h') where
  says : numbers_given r ≡ ruled_cover u (length run)
  says = promise.answered

  answers : cover_answer u (length run) ≡ numbers_given r
  answers = ap (λ v. answer_by v (ruled_cover u (length run))) yes_taken ∙ sym says

  counts_up : h'.tally ≡ ruled_tally u (length run)
  counts_up = promise.counts ∙ ap (λ a. u.starting + key_cost (length u.key) + call_cost (length u.key) (covers (length run)) a) says

  ends : h' ≡ (one_cover u run run').end
  ends =
      held_path h' (one_cover u run run').end promise.same_key promise.same_prefix (promise.advances ∙ ap (λ a. u.opening + used (covers (length run)) a) says) counts_up

  one_ran : Ran (one_cover u run run')
  one_ran =
      record {
        allowed = allowed_by u yes_taken;
        history = subst (λ h. History (opened u) (one_cover u run run').events h) ends (then (subst (λ a. Promised (opened u) record { call = cover run; answer = a; left = run' } h') says promise) none);
      }

  pub covered_once : Covered u run (numbers_given r) h'.tally run'
  covered_once =
      record {
        answered = sym answers;
        counted = counts_up ∙ sym (ap (λ v. count_by v (refused_tally u) (ruled_tally u (length run))) yes_taken);
        left = record {
          ran = λ _. one_ran;
          counter_mode = λ t. taken_is_ctr promise (sym (ap taken answers) ∙ t);
          kept = λ f. promise.refuses (sym (ap taken answers) ∙ f);
        };
      }

-- The same from what a session and an engine hold.
pub covered_by : {R : Type 0} (tally : R → ℕ) (u : SetUp) (e e' : Engine R) (s s' : Session) (run run' : List ℕ) (r : Result Used Refusal) → set_up_verdict u ≡ None → engine_key e ≡ Some u.key → tally e.route ≡ u.starting + key_cost (length u.key) → s.prefix ≡ u.prefix → s.next ≡ u.opening → Promised (held_by tally e s) (covering run r run') (held_by tally e' s') → Covered u run (numbers_given r) (tally e'.route) run'
covered_by tally u e e' s s' run run' r yes_taken key-is tally-is prefix-is next-is promise =
    covered_once u run run' r (held_by tally e' s') yes_taken (subst (λ h. Promised h (covering run r run') (held_by tally e' s')) (held_at_start tally u e s key-is tally-is prefix-is next-is) promise)
