-- The theorems of one room on the list of events as room k sees it.
use mathlib.Core.Logic.{inl}
use mathlib.Core.List.{List}
use Prim.Native.Nat.{ℕ, ◌<◌}
use Rattle.seats.specs.Offices.{serves}
use Rattle.records.specs.Numbers.{room_count}
use Rattle.rules.specs.State.{State}
use Rattle.rules.specs.Tables.{Table}
use Rattle.runs.specs.World.{Item, at_first, WorldEvent}
use Rattle.settling.proofs.Settling.{settles_uncut, settles, settles_after_cuts}
use Rattle.rooms.specs.Roomed.{Roomed, of_room}
use Rattle.rooms.specs.RoomWorld.{RoomsEvent, rooms_first}
use Rattle.rooms.specs.RoomFiles.{RoomFileEvent, plainly_in, filed_rooms}
use Rattle.rooms.specs.Projection.{seen_in}
use Rattle.rooms.specs.Statement.{RoomsBegin, states_in, links_in, list_in, ReadIn, SettlesUncutIn, SettlesAboveIn}
use Rattle.rooms.specs.Statement.{SettlesInRoom}
use Rattle.rooms.proofs.Projection.{room_at}
use Rattle.rooms.proofs.FilesAbove.{rooms_above}

module _ (tables : ℕ → Table) (links : ℕ → ℕ → List (Roomed Item)) (k : ℕ) (l : k < room_count) where
  -- what is shown of the list as room k sees it is read in room k
  pub read_in : (es : List RoomsEvent) → RoomsBegin tables links es
      → (Says : (ℕ → State) → (ℕ → ℕ → List Item) → List WorldEvent → Type 0)
      → Says (states_in tables links k) (links_in tables links k) (list_in tables links es k)
      → ReadIn tables links es k Says
  unfolding at_first seen_in of_room
  read_in es b Says h =
      record {
        shows = room_at k l (rooms_first tables links) (λ i c. inl (b.tables_pass i c)) es b.offices;
        holds = h;
      }

  pub settles_uncut_in_room : (es : List RoomsEvent) (A : ℕ) → SettlesUncutIn tables links es k A
  settles_uncut_in_room es A b = read_in es b _ (settles_uncut A _ _ _)

  pub settles_above_in_room : (es : List RoomsEvent) (A : ℕ) → SettlesAboveIn tables links es k A
  settles_above_in_room es A b above =
      (read_in es b _ (settles A _ _ _ above), read_in es b _ (settles_after_cuts A _ _ _ above))

  pub settles_in_room : (files : ℕ → List ℕ) (fs : List RoomFileEvent) (A : ℕ)
      → SettlesInRoom tables links files fs k A
  unfolding at_first seen_in of_room
  settles_in_room files fs A b empty =
      settles_above_in_room (plainly_in (filed_rooms tables links files) fs) A b
      (rooms_above (serves A) k l tables links files empty fs (λ i c. inl (b.tables_pass i c)) b.offices)
