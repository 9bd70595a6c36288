-- A desk with its rooms: its seat, and a seat machine for each room. The room of a record picks the machine that hears
-- it; the others stay.
use Rattle.std.specs.Prelude.{Bool, List, [], ℕ}
use Rattle.laws.specs.Upd.{ifb, upd}
use Rattle.records.specs.Numbers.{room_above}
use Rattle.records.specs.Layout.{room_of}
use Rattle.desk.specs.declared.checks.Desk.{Desk}
use Rattle.desk.specs.Hearing.{fresh_desk, made_desk, hear_of}
use Rattle.desk.specs.Syncing.{sync_bytes}

-- a seat machine: the last start number, the last view number, whether a change is open
pub record SeatMachine : Type 0 where
  pub start : ℕ
  pub view : ℕ
  pub changing : Bool

pub record RoomsDesk : Type 0 where
  pub seat : ℕ
  pub machine : ℕ → SeatMachine

-- the refusal or 0, and the desk that it leaves
pub record RoomsHeard : Type 0 where
  pub refusal : ℕ
  pub desk : RoomsDesk

-- the desk of one room: the seat and that room's machine
abbrev pub desk_in : RoomsDesk → ℕ → Desk
desk_in d room =
    let m = d.machine room in
    record { seat = d.seat; start = m.start; view = m.view; changing = m.changing }

abbrev pub machine_of : Desk → SeatMachine
machine_of d = record { start = d.start; view = d.view; changing = d.changing }

-- every room has the machine of a desk of one room
abbrev pub in_every_room : Desk → RoomsDesk
in_every_room d = record { seat = d.seat; machine = λ room. machine_of d }

-- a fresh desk: every machine is fresh
abbrev pub fresh_rooms : ℕ → RoomsDesk
fresh_rooms seat = in_every_room (fresh_desk seat)

-- 6, when one of a seat above 63 is made: the fresh desk of seat 0 comes back with the number
unfoldable pub made_rooms : ℕ → RoomsHeard
made_rooms seat = let h = made_desk seat in record { refusal = h.refusal; desk = in_every_room h.desk }

-- any bytes on any desk: the machine of their room hears them
unfoldable pub hear_rooms : RoomsDesk → List ℕ → RoomsHeard
hear_rooms d b =
    let room = room_of b in
    let h = hear_of (desk_in d room) b in
    record {
      refusal = h.refusal;
      desk = record { seat = d.seat; machine = upd d.machine room (machine_of h.desk) };
    }

-- the bytes of a room's sync record; a room above 7 has none, nor has a seat above 63
unfoldable pub sync_in : RoomsDesk → ℕ → List ℕ
sync_in d room = ifb (room_above room) [] (sync_bytes (desk_in d room))
