-- What a call leaves for its caller. Assumes nothing.
use Rattle.std.specs.Prelude.{◌≡◌, ℕ, List, Some, None, Option}
use Rattle.routes.specs.declared.name.RouteName.{RouteName}
use Rattle.sessions.specs.Calls.{Answer, gives, gives_both, refused}
use Rattle.embed.specs.declared.reply.Reply.{Reply}

-- An answer with the tally after it; what does not apply is 0.
abbrev pub left_by : Answer → ℕ → Reply
left_by (gives n) tally = record { status = 0; value = 0; first = n; count = 0; tally = tally }
left_by (gives_both first n) tally = record { status = 0; value = 0; first = first; count = n; tally = tally }
left_by (refused number value) tally = record { status = number; value = value; first = 0; count = 0; tally = tally }

-- Where a number names no route: 255, with that number.
abbrev pub unknown_route : ℕ → ℕ → Reply
unknown_route number tally = left_by (refused 255 number) tally

-- Work on the route that a number names leaves what it promises; where the number names none, nothing is altered.
abbrev pub OnNumber : Option RouteName → (number start : ℕ) → (Reply → List ℕ → Type 0) → List ℕ → Reply → List ℕ → Type 0
OnNumber (Some name) number start Replied before reply after = Replied reply after
OnNumber None number start Replied before reply after = (reply ≡ unknown_route number start) × (after ≡ before)
