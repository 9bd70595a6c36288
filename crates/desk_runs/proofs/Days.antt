-- The seat's day, its reasons to refuse and the desk's rooms in turn, computed by the rules, are what the documents
-- say.
use mathlib.Core.Path.{◌≡◌, refl}
use Rattle.laws.specs.Lists.{runs}
use Rattle.laws.specs.Upd.{upd}
use Rattle.laws.proofs.Lists.{◌then◌}
use Rattle.rules.specs.Days.{given}
use Rattle.runs.specs.Office.{answer_to, log_of, sent_in}
use Rattle.desk.specs.Rooms.{hear_rooms}
use Rattle.desk_runs.specs.Sent.{sent_to, hearings}
use Rattle.desk_runs.specs.Rooms.{rooms_hearings}
use Rattle.desk_runs.specs.Days.{that_day, hearing, computed_day, stated_day, seat_refusals, seat_reasons}
use Rattle.desk_runs.specs.Days.{heard_in_turn, computed_in_turn, stated_in_turn, computed_machines, stated_machines}
use Rattle.desk_runs.specs.Days.{computed_high, stated_high}

pub seat_day : computed_day ≡ stated_day
unfolding computed_day stated_day that_day log_of sent_in answer_to sent_to hearings hearing given
seat_day = refl then refl then refl then refl then refl then refl then refl

pub each_seat_reason : seat_refusals ≡ seat_reasons
unfolding seat_refusals seat_reasons hearing
each_seat_reason =
    refl then refl then refl then refl then refl then refl then refl then refl then refl then refl then refl then refl
    then refl then refl then refl then refl then refl then refl then refl then refl then refl then refl then refl
    then refl then refl then refl then refl then refl then refl then refl then refl then refl then refl then refl
    then refl then refl then refl then refl then refl

-- a desk with its rooms
pub rooms_in_turn : computed_in_turn ≡ stated_in_turn
unfolding computed_in_turn stated_in_turn heard_in_turn rooms_hearings hear_rooms upd hearing
rooms_in_turn = refl then refl then refl then refl then refl then refl then refl then refl then refl then refl

pub machines_then : computed_machines ≡ stated_machines
unfolding computed_machines stated_machines heard_in_turn runs hear_rooms upd hearing
machines_then = refl then refl then refl then refl

pub high_in_room : computed_high ≡ stated_high
unfolding computed_high stated_high hear_rooms hearing
high_in_room = refl then refl then refl then refl
