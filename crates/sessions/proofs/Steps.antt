-- What follows from the promise of one call. Assumes nothing.
use Rattle.std.proofs.Common.{◌≡◌, ℕ, suc, ◌+◌, ◌-◌, ◌≤◌, true, false, List, length, sym, refl, ap, ◌∙◌, ⊎_elim, arith}
use Rattle.std.proofs.lemmas.Bool.{cond-true, cond-false, cases_Bool}
use Rattle.cipher.specs.Fips197.{aes, state_bytes, word_bytes}
use Rattle.routes.specs.Routes.{cap}
use Rattle.sessions.specs.Calls.{Call, cover, skip, remaining, Shape, covers, skips, asks, Answer, shape, run_of, taken, ruled, used, covered}
use Rattle.sessions.specs.Counters.{counters, blocks, counter_block, piece, plus, ctr}
use Rattle.sessions.specs.Histories.{Held, Event, Promised, encrypted, shape_of, began}
use Rattle.sessions.proofs.Numbers.{within, within_cap}
use Rattle.sessions.proofs.Pieces.{ctr_by_pieces, ctr_twice}

pub length-encrypted : (key block : List ℕ) → length (encrypted key block) ≡ 16
unfolding encrypted aes state_bytes word_bytes
length-encrypted key block = refl

-- ---- calls

-- A taken call covers the whole of its run.
pub covers_the_run : (c : Call) (a : Answer) → taken a ≡ true → covered (shape c) a ≡ blocks (length (run_of c))
covers_the_run (cover run) a e = cond-true (taken a) (blocks (length run)) 0 e
covers_the_run (skip n) a e = refl
covers_the_run remaining a e = refl

-- A refused call covers nothing.
pub covers_nothing : (s : Shape) (a : Answer) → taken a ≡ false → covered s a ≡ 0
covers_nothing (covers n) a e = cond-false (taken a) (blocks n) 0 e
covers_nothing (skips n) a e = refl
covers_nothing asks a e = refl

-- No call covers more blocks than it uses numbers.
pub covered≤used : (s : Shape) (a : Answer) → covered s a ≤ used s a
covered≤used (covers n) a = omega arith
covered≤used (skips n) a = omega arith
covered≤used asks a = omega arith

-- ---- promises

-- The output blocks of a call that is made at h are the encryptions of these.
abbrev pub counter_blocks : Held → ℕ → List ℕ
counter_blocks h j = counter_block h.prefix (h.next + (j - 1))

pub from_one : (h : Held) (p : ℕ) → counter_blocks h (suc p) ≡ counter_block h.prefix (h.next + p)
from_one h p = let e : h.next + (suc p - 1) ≡ h.next + p = omega arith in ap (counter_block h.prefix) e

pub held_path : (g h : Held) → g.key ≡ h.key → g.prefix ≡ h.prefix → g.next ≡ h.next → g.tally ≡ h.tally → g ≡ h
held_path g h k p n t = λ i. record { key = k i; prefix = p i; next = n i; tally = t i }

module _ {h : Held} {e : Event} {h' : Held} (promise : Promised h e h') where
  pub taken_is_ctr : taken e.answer ≡ true → e.left ≡ ctr (encrypted h.key) (counter_blocks h) (began e)
  taken_is_ctr yes_taken =
      ctr_by_pieces (encrypted h.key) (counter_blocks h) (began e) e.left promise.same_length (λ p l.
      promise.adds p (rw (covers_the_run e.call e.answer yes_taken) l) ∙ ap (λ b. plus (piece (began e) p) (encrypted h.key b)) (sym (from_one h p)))

  pub next_stays_within : h.next ≤ counters → h'.next ≤ counters
  next_stays_within l = rw (promise.advances, promise.answered) (within (length h.key) h.next h.tally (shape_of e) l)

  pub tally_stays_within : h.tally ≤ cap → h'.tally ≤ cap
  tally_stays_within l = rw (promise.counts, promise.answered) (within_cap (length h.key) h.next h.tally (shape_of e) l)

module _ {h : Held} {e e' : Event} {h' h'' : Held} (promise : Promised h e h') (again : Promised h e' h'') (same_shape : shape_of e' ≡ shape_of e) (fed : began e' ≡ e.left) where
  pub same_answer : e'.answer ≡ e.answer
  same_answer = again.answered ∙ ap (ruled (length h.key) h.next h.tally) same_shape ∙ sym promise.answered

  pub same_held : h'' ≡ h'
  same_held = held_path h'' h' (cc) (cc) (cc (same_answer)) (cc (same_answer))

  -- The second call undoes what the first did to its run.
  pub uncovers_run : e'.left ≡ began e
  uncovers_run = ⊎_elim when_taken when_refused (cases_Bool (taken e.answer))
    where
      when_taken : taken e.answer ≡ true → e'.left ≡ began e
      when_taken t =
          taken_is_ctr again (ap taken same_answer ∙ t) ∙ ap once_more (fed ∙ taken_is_ctr promise t) ∙ ctr_twice (encrypted h.key) (counter_blocks h) (length-encrypted h.key) (began e)
        where
          once_more : List ℕ → List ℕ
          once_more = ctr (encrypted h.key) (counter_blocks h)

      when_refused : taken e.answer ≡ false → e'.left ≡ began e
      when_refused t = again.refuses (ap taken same_answer ∙ t) ∙ fed ∙ promise.refuses t
