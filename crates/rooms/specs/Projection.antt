-- What room k shows of a world of rooms, and of an event: a world and an event of one room, those of crate runs.
use Rattle.std.specs.Prelude.{Bool, false, List, [], ◌∷◌, ℕ, zero, suc, eqb, length, take}
use Rattle.laws.specs.Upd.{ifb}
use Rattle.runs.specs.World.{Item, World, Underway, nothing_begun, begun_report, begun_delivery, WorldEvent, report}
use Rattle.runs.specs.World.{delivery, loss, cut}
use Rattle.rooms.specs.Roomed.{Roomed, of_room}
use Rattle.rooms.specs.RoomWorld.{RoomWorld, RoomUnderway, none_begun, report_begun, delivery_begun, RoomsEvent}
use Rattle.rooms.specs.RoomWorld.{room_report, room_delivery, room_loss, room_cut, next_in}

unfoldable pub seen_in : ℕ → RoomWorld → World
seen_in k w =
    record {
      state = λ i. w.table i k;
      link = λ i j. of_room k (w.link i j);
      clock = w.clock;
      log = λ i. of_room k (w.log i);
    }

-- a report or a delivery of another room is a pause: a loss at a place where the link has no proposal
abbrev pub pause : World → WorldEvent
pause w = loss 0 1 (length (w.link 0 1))

abbrev pub front_in : ℕ → World → ℕ → ℕ → ℕ → List (Roomed Item) → WorldEvent
front_in k w i j output [] = delivery i j output
front_in k w i j output (x ∷ l) = ifb (eqb x.room k) (delivery i j output) (pause w)

-- the item at a place of a row is of room k; its place among those of room k, and past them where it is not
abbrev pub is_of : ℕ → ℕ → List (Roomed Item) → Bool
is_of k n [] = false
is_of k zero (x ∷ l) = eqb x.room k
is_of k (suc n) (x ∷ l) = is_of k n l

abbrev pub place_in : ℕ → ℕ → List (Roomed Item) → ℕ
place_in k n l = ifb (is_of k n l) (length (of_room k (take n l))) (length (of_room k l))

-- a cut is one in every room; what is begun in another room is not seen
abbrev pub front_begun : ℕ → ℕ → ℕ → List (Roomed Item) → Underway
front_begun k i output [] = nothing_begun
front_begun k i output (x ∷ l) = ifb (eqb x.room k) (begun_delivery i output) nothing_begun

unfoldable pub begun_seen : ℕ → RoomWorld → ℕ → RoomUnderway → Underway
begun_seen k w o none_begun = nothing_begun
begun_seen k w o (report_begun room r output) = ifb (eqb room k) (begun_report r output) nothing_begun
begun_seen k w o (delivery_begun i output) = front_begun k i output (w.link i o)

unfoldable pub event_in : ℕ → RoomWorld → RoomsEvent → WorldEvent
event_in k w (room_report o room r output) = ifb (eqb room k) (report o r output) (pause (seen_in k w))
event_in k w (room_delivery i j output) = front_in k (seen_in k w) i j output (w.link i j)
event_in k w (room_loss i j place) = loss i j (place_in k place (w.link i j))
event_in k w (room_cut o b left m) = cut o (begun_seen k w o b) left m

-- the list as room k sees it
unfoldable pub events_in : ℕ → RoomWorld → List RoomsEvent → List WorldEvent
events_in k w [] = []
events_in k w (e ∷ es) = event_in k w e ∷ events_in k (next_in w e) es
