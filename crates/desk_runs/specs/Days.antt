-- A day of seat 0 at office 0, in room 0, and an input for each reason to refuse, with the order in which they are
-- looked at.
use Rattle.std.specs.Prelude.{Bool, true, false, List, [], ◌∷◌, ◌++◌, map, ℕ, ◌+◌, eqb}
use Rattle.laws.specs.Fin.{anyb}
use Rattle.laws.specs.Tab.{tab}
use Rattle.laws.specs.Big.{bytes_all}
use Rattle.laws.specs.Bit.{bit}
use Rattle.laws.specs.Upd.{ifb}
use Rattle.seats.specs.Seats.{has, contains_of}
use Rattle.seats.specs.Offices.{office_of, serves}
use Rattle.records.specs.Numbers.{limit}
use Rattle.records.specs.Layout.{encode_report, encode_proposal, encode_notice, encode_view, decode_notice, decode_view}
use Rattle.records.specs.Layout.{mark_of, room_of, check_for, check_either}
use Rattle.rules.specs.State.{fast}
use Rattle.rules.specs.Rules.{fresh}
use Rattle.rules.specs.Refusals.{full_room, event_of}
use Rattle.runs.specs.Office.{Input, log_of, sent_in}
use Rattle.desk.specs.declared.checks.Desk.{Desk}
use Rattle.desk.specs.SeatChecks.{too_high, lacks_seat, seat_checks}
use Rattle.desk.specs.Hearing.{Heard, fresh_desk, made_desk, seat_record_of, hear_checks, after_record, hear_of}
use Rattle.desk.specs.Rooms.{SeatMachine, RoomsDesk, RoomsHeard, fresh_rooms, hear_rooms}
use Rattle.desk_runs.specs.Sent.{sent_to, hearings}
use Rattle.desk_runs.specs.Rooms.{rooms_hearings, rooms_after}

-- the sets {0}, {4} and {0, 4}
abbrev seat0 : ℕ
seat0 = 0b1

abbrev seat4 : ℕ
seat4 = 0b10000

abbrev both : ℕ
both = 0b10001

-- sixteen numbers, those of offices 0, 1 and 2 first
abbrev three : ℕ → ℕ → ℕ → List ℕ
three a b c = a ∷ b ∷ c ∷ tab 13 (λ o. 0)

-- what is handed to office 0: a report, and a fast proposal of office 1
abbrev handed : List ℕ → Input
handed b = record { office = 0; event = event_of b; room = full_room }

abbrev reports : ℕ → ℕ → Input
reports joining leaving =
    handed (encode_report 0 (record { joining = record { bits = joining }; leaving = record { bits = leaving } }))

abbrev office1 : ℕ → ℕ → ℕ → ℕ → Input
office1 start number used0 used1 =
    handed
    (encode_proposal 0 (record {
      sender = 1;
      kind = fast;
      members = record { bits = both };
      start = start;
      number = number;
      used = three used0 used1 0;
    }))

-- that day: seat 0 joins (A), seat 4 joins (B), office 1 proposes (C); seat 0 leaves, it comes back, and office 1,
-- which has had a view of seat 4 alone, proposes
unfoldable pub that_day : List Input
that_day = reports seat0 0 ∷ reports seat4 0 ∷ office1 1 1 0 0 ∷ reports 0 seat0 ∷ reports seat0 0 ∷ office1 4 3 2 2
    ∷ []

-- what comes of bytes at a seat; to unfold it is to unfold the seat's rules
unfoldable pub hearing : Desk → List ℕ → Heard
unfolding anyb tab bytes_all bit has contains_of office_of serves encode_notice encode_view decode_notice decode_view
    mark_of room_of check_for check_either fresh_desk made_desk seat_record_of too_high lacks_seat seat_checks
    hear_checks after_record hear_of
hearing d b = hear_of d b

unfoldable pub computed_day : List Heard
computed_day = hearings 0 (fresh_desk 0) (sent_to 0 (sent_in (log_of (fresh 0) that_day)))

-- seat 0 after an accepted record: the last start number, the last view number, whether a change is open
abbrev after : ℕ → ℕ → Bool → Heard
after start view changing =
    record { refusal = 0; desk = record { seat = 0; start = start; view = view; changing = changing } }

unfoldable pub stated_day : List Heard
stated_day =
    -- A: notice 1, view 2
    after 1 0 true ∷ after 1 2 false
    -- B: notice 2
    ∷ after 2 2 true
    -- C: view 3
    ∷ after 2 3 false
    -- it has left and is sent nothing; it comes back: notice 3
    ∷ after 3 3 true
    -- office 1 proposes: view 5
    ∷ after 3 5 false
    ∷ []

-- a seat in the state handed in, and what it is told
abbrev at : ℕ → ℕ → ℕ → Bool → Desk
at seat start view changing = record { seat = seat; start = start; view = view; changing = changing }

abbrev noticed_in : ℕ → ℕ → ℕ → List ℕ
noticed_in room start members = encode_notice room (record { start = start; members = record { bits = members } })

abbrev noticed : ℕ → ℕ → List ℕ
noticed = noticed_in 0

abbrev viewed_in : ℕ → ℕ → ℕ → List ℕ → List ℕ
viewed_in room number members starts =
    encode_view room (record { number = number; members = record { bits = members }; starts = starts })

abbrev viewed : ℕ → ℕ → List ℕ → List ℕ
viewed = viewed_in 0

abbrev answer : Desk → List ℕ → ℕ
answer d b = (hearing d b).refusal

-- seat 0 with start number 2 and view number 2: a change is open; none is
abbrev waits : Desk
waits = at 0 2 2 true

abbrev rests : Desk
rests = at 0 2 2 false

unfoldable pub seat_refusals : List ℕ
seat_refusals =
    (made_desk 64).refusal ∷ (made_desk 63).refusal
    ∷ answer (at 64 2 2 true) (noticed 3 both) ∷ answer (at 64 2 2 true) []
    ∷ answer rests [] ∷ answer rests (0x4e ∷ 0x45 ∷ []) ∷ answer (at 0 (limit + 1) 2 true) []
    ∷ answer rests (noticed 3 both ++ (0 ∷ [])) ∷ answer waits (0x56 ∷ 0x57 ∷ [])
    ∷ answer (at 0 2 (limit + 1) true) (0x53 ∷ 0x43 ∷ [])
    ∷ answer rests (noticed_in 8 3 both) ∷ answer waits (viewed_in 255 3 both (three 2 1 0))
    ∷ answer rests (noticed_in 8 3 both ++ (0 ∷ [])) ∷ answer (at 0 (limit + 1) 2 false) (noticed_in 8 3 both)
    ∷ answer rests (noticed (limit + 1) both) ∷ answer waits (viewed (limit + 1) both (three 2 1 0))
    ∷ answer waits (viewed 3 both (three 2 (limit + 1) 0))
    ∷ answer (at 0 (limit + 1) 2 false) (noticed 3 both) ∷ answer (at 0 2 (limit + 1) false) (noticed 3 both)
    ∷ answer rests (noticed (limit + 1) seat4)
    ∷ answer rests (noticed 3 seat4) ∷ answer waits (viewed 3 seat4 (three 0 1 0))
    ∷ answer waits (viewed 3 seat4 (three 0 1 1)) ∷ answer rests (noticed 2 seat4)
    ∷ answer waits (viewed 3 both (three 2 1 1)) ∷ answer rests (viewed 3 both (three 2 1 1))
    ∷ answer rests (noticed 2 both) ∷ answer (fresh_desk 0) (noticed 0 both) ∷ answer (at 0 2 4 false) (noticed 3 both)
    ∷ answer rests (viewed 3 both (three 2 1 0)) ∷ answer waits (viewed 4 both (three 3 1 0))
    ∷ answer rests (viewed 2 both (three 2 1 0))
    ∷ answer waits (viewed 2 both (three 2 1 0))
    ∷ answer rests (noticed 3 both) ∷ answer (at 0 2 3 false) (noticed 3 both)
    ∷ answer waits (viewed 3 both (three 2 1 0))
    ∷ answer rests (noticed_in 7 3 both) ∷ answer waits (viewed_in 7 3 both (three 2 1 0))
    ∷ []

unfoldable pub seat_reasons : List ℕ
seat_reasons =
    -- making a seat above 63, and 63; a seat above 63 handed in; before 4
    6 ∷ 0 ∷ 6 ∷ 6
    -- no bytes, a report's mark; before 8 by the seat's state
    ∷ 4 ∷ 4 ∷ 4
    -- a notice with a byte more, a view's mark alone; before 8 by the seat's state
    ∷ 5 ∷ 5 ∷ 5
    -- a room above 7: of a notice, of a view; behind 5; before 8
    ∷ 20 ∷ 20 ∷ 5 ∷ 20
    -- above L: a notice's number, a view's, one of its start numbers; the seat's start number and view number; before
    -- 9
    ∷ 8 ∷ 8 ∷ 8 ∷ 8 ∷ 8 ∷ 8
    -- members without the seat: of a notice, of a view; before 10; before 14
    ∷ 9 ∷ 9 ∷ 9 ∷ 9
    -- a start number of an office outside the members; before 15
    ∷ 10 ∷ 10
    -- not above the last start number, and start number 0; below the last view number
    ∷ 14 ∷ 14 ∷ 14
    -- no change open; another start number; before 16
    ∷ 15 ∷ 15 ∷ 15
    -- not above the last start number
    ∷ 16
    -- accepted: a notice, one that names the last view number, a view; both in the last room
    ∷ 0 ∷ 0 ∷ 0 ∷ 0 ∷ 0
    ∷ []

-- A desk of seat 0 hears records of several rooms in turn.
unfoldable pub heard_in_turn : List (List ℕ)
heard_in_turn =
    noticed_in 0 1 both ∷ noticed_in 5 1 both ∷ viewed_in 5 2 both (three 1 1 0) ∷ viewed_in 5 3 both (three 1 1 0)
    ∷ noticed_in 8 9 both ∷ noticed_in 7 1 seat4 ∷ viewed_in 0 2 both (three 1 1 0) ∷ noticed_in 5 4 both
    ∷ viewed_in 0 4 both (three 4 1 0)
    ∷ []

unfoldable pub computed_in_turn : List ℕ
computed_in_turn = map (λ (h : RoomsHeard). h.refusal) (rooms_hearings (fresh_rooms 0) heard_in_turn)

unfoldable pub stated_in_turn : List ℕ
stated_in_turn =
    -- start number 1 in room 0, and in room 5, where it is the first; a view of room 5; one more finds no change open
    -- there, though one is open in room 0
    0 ∷ 0 ∷ 0 ∷ 15
    -- no room 8; room 7 is not the seat's; the view of room 0
    ∷ 20 ∷ 9 ∷ 0
    -- a change opens in room 5, and a view of room 0 finds none there
    ∷ 0 ∷ 15
    ∷ []

-- the machines of rooms 0, 5 and 7 then; that of any other room is fresh
unfoldable pub computed_machines : List SeatMachine
computed_machines =
    let d = rooms_after (fresh_rooms 0) heard_in_turn in
    d.machine 0 ∷ d.machine 5 ∷ d.machine 7 ∷ []

unfoldable pub stated_machines : List SeatMachine
stated_machines =
    record { start = 1; view = 2; changing = false } ∷ record { start = 4; view = 2; changing = true }
    ∷ record { start = 0; view = 0; changing = false }
    ∷ []

-- a number above L in the machine of room 3 is refused there, and nowhere else
abbrev high_in_room3 : RoomsDesk
high_in_room3 =
    record {
      seat = 0;
      machine = λ room. ifb (eqb room 3) (record { start = limit + 1; view = 0; changing = false })
          (record { start = 0; view = 0; changing = false });
    }

unfoldable pub computed_high : List ℕ
computed_high =
    (hear_rooms high_in_room3 (noticed_in 3 1 both)).refusal ∷ (hear_rooms high_in_room3 (noticed_in 2 1 both)).refusal
    ∷ (hear_rooms high_in_room3 (noticed_in 4 1 both)).refusal
    ∷ []

unfoldable pub stated_high : List ℕ
stated_high = 8 ∷ 0 ∷ 0 ∷ []
