-- What an office sends to one of its seats in a room, and what the seat answers there.
use Rattle.std.specs.Prelude.{Bool, false, List, [], ◌∷◌, ℕ}
use Rattle.laws.specs.Lists.{runs}
use Rattle.laws.specs.Upd.{ifb}
use Rattle.seats.specs.Seats.{contains_of}
use Rattle.rules.specs.Rules.{Written, notice, proposal, view}
use Rattle.rules.specs.Refusals.{bytes_of}
use Rattle.desk.specs.declared.checks.Desk.{Desk}
use Rattle.desk.specs.Hearing.{Heard, hear_of}

-- a record is for the seat: a notice or view whose members hold it
abbrev pub for_seat : ℕ → Written → Bool
for_seat seat (notice n) = contains_of n.members.bits seat
for_seat seat (proposal p) = false
for_seat seat (view v) = contains_of v.members.bits seat

-- those of the records sent that are, in the order sent
unfoldable pub sent_to : ℕ → List Written → List Written
sent_to seat [] = []
sent_to seat (w ∷ ws) = ifb (for_seat seat w) (w ∷ sent_to seat ws) (sent_to seat ws)

-- a seat takes records of a room one after another: what comes of each, and its state after them
unfoldable pub hearings : ℕ → Desk → List Written → List Heard
hearings room d [] = []
hearings room d (w ∷ ws) = hear_of d (bytes_of room w) ∷ hearings room (hear_of d (bytes_of room w)).desk ws

abbrev pub desk_after : ℕ → Desk → List Written → Desk
desk_after room = runs (λ d w. (hear_of d (bytes_of room w)).desk)
