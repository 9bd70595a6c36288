-- A fresh seat accepts what the code of its office sends it in a room, whatever bytes the office is handed.
use mathlib.Core.Path.{◌≡◌}
use mathlib.Core.List.{List, [], ◌∷◌, map}
use Prim.Native.Nat.{ℕ, ◌<◌}
use lib.Dec.{eqb}
use Rattle.laws.specs.Big.{Below}
use Rattle.laws.specs.Lists.{Every, none, more}
use Rattle.laws.proofs.Fin.{if_cases}
use Rattle.seats.specs.Seats.{seat_count}
use Rattle.seats.specs.Offices.{office_of}
use Rattle.records.specs.Numbers.{room_count}
use Rattle.rules.specs.Rules.{fresh}
use Rattle.rules.specs.Refusals.{read_check}
use Rattle.rules.specs.Tables.{fresh_table}
use Rattle.runs.specs.Office.{OfSeats}
use Rattle.runs.proofs.OfficeFits.{read_fits}
use Rattle.rooms.specs.Roomed.{of_room, room_bytes}
use Rattle.rooms.specs.Handing.{Handed as RoomHanded, input_of, inputs_in}
use Rattle.rooms.proofs.Isolation.{inputs_every}
use Rattle.row.specs.Table.{table_of, SoundTable}
use Rattle.row.proofs.Tables.{sound_is}
use Rattle.desk.specs.Hearing.{fresh_desk}
use Rattle.desk.specs.Rooms.{fresh_rooms}
use Rattle.desk_runs.specs.Sent.{sent_to, hearings}
use Rattle.desk_runs.specs.Rooms.{rooms_hearings}
use Rattle.desk_runs.specs.RoomsSent.{sent_to_desk}
use Rattle.desk_runs.proofs.Runs.{every_accepted}
use Rattle.desk_runs.proofs.RoomsRuns.{desk_accepts}
use Rattle.code_runs.specs.Words.{Handed, words_sent, event_in, events_of}
use Rattle.code_runs.proofs.Runs.{words_sent_lem, in_room_sent}
use Rattle.code_runs.proofs.Agreeing.{sent_agree}

-- every set handed in is a set of seats: that of an event that was read
events_fit : (hs : List Handed) → Every (λ (h : Handed). Below 256 h.bytes) hs
    → Every (λ (e : RoomHanded). OfSeats (input_of e).event) (events_of hs)
unfolding events_of
events_fit [] e = none
events_fit (h ∷ hs) (more b e) =
    if_cases (Every (λ (e : RoomHanded). OfSeats (input_of e).event)) (eqb (read_check h.bytes) 0)
    (event_in h ∷ events_of hs) (events_of hs) (λ z. more (read_fits h.bytes b) (events_fit hs e))
    (λ z. events_fit hs e)

pub code_heard : (seat : ℕ) → seat < seat_count → (room : ℕ) → room < room_count → (ws : List ℕ) → SoundTable ws
    → table_of ws room ≡ fresh (office_of seat) → (hs : List Handed)
    → Every (λ (h : Handed). Below 256 h.bytes) hs
    → Every (λ h. h.refusal ≡ 0) (hearings room (fresh_desk seat) (sent_to seat (of_room room (words_sent ws hs))))
code_heard seat lt room l ws s f hs e =
    rw (in_room_sent ws s hs room l, f)
    (every_accepted room l seat lt (inputs_in room (events_of hs))
    (inputs_every room (λ i. OfSeats i.event) (events_of hs) (events_fit hs e)))

-- and so does a fresh desk, in all rooms, as they come
pub code_heard_in_rooms : (seat : ℕ) → seat < seat_count → (ws : List ℕ) → SoundTable ws
    → ((room : ℕ) → room < room_count → table_of ws room ≡ fresh (office_of seat)) → (hs : List Handed)
    → Every (λ (h : Handed). Below 256 h.bytes) hs
    → Every (λ h. h.refusal ≡ 0)
    (rooms_hearings (fresh_rooms seat) (map room_bytes (sent_to_desk seat (words_sent ws hs))))
code_heard_in_rooms seat lt ws s f hs e =
    rw (words_sent_lem ws hs (sound_is ws s), sent_agree (table_of ws) (fresh_table (office_of seat)) f (events_of hs))
    (desk_accepts seat lt (events_of hs) (events_fit hs e))
