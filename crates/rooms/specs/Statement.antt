-- Settling (request 9) and one slow proposal, one view (request 11), read per room: the statements of the crates
-- settling and one_view, of the list of events as room k sees it. So P, the deliveries, the losses, the last reports,
-- the proposals and the views are those of that room; the files of high marks are shared.
use Rattle.std.specs.Prelude.{◌≡◌, true, List, [], ℕ, ◌<◌}
use Rattle.laws.specs.Lists.{Every}
use Rattle.seats.specs.Offices.{serves}
use Rattle.rules.specs.State.{State}
use Rattle.rules.specs.Tables.{Table, fresh_table, well_table}
use Rattle.runs.specs.World.{Item, at_first, WorldEvent, at}
use Rattle.runs.specs.Begins.{RestartsAbove}
use Rattle.settling.specs.Statement.{SettlesUncut, Settles, SettlesAfterCuts, NoMarks}
use Rattle.one_view.specs.Statement.{UsedWell}
use Rattle.rooms.specs.Roomed.{Roomed, of_room}
use Rattle.rooms.specs.RoomWorld.{rooms_first, RoomsEvent, acts_at, AmongServers, rooms_at}
use Rattle.rooms.specs.RoomFiles.{RoomFileEvent, plainly_in, filed_rooms}
use Rattle.rooms.specs.Projection.{seen_in, events_in}

-- the sixteen tables and the links at first
module _ (tables : ℕ → Table) (links : ℕ → ℕ → List (Roomed Item)) where
  -- in room k
  abbrev pub states_in : ℕ → ℕ → State
  states_in k i = tables i k

  abbrev pub links_in : ℕ → ℕ → ℕ → List Item
  links_in k i j = of_room k (links i j)

  -- a list of events
  module _ (es : List RoomsEvent) where
    -- every table passes check 2, and the events are at the sixteen offices
    pub record RoomsBegin : Type 0 where
      pub tables_pass : (i : ℕ) → i < 16 → well_table (tables i) ≡ true
      pub offices : Every (λ e. acts_at e < 16) es

    abbrev pub list_in : ℕ → List WorldEvent
    list_in k = events_in k (rooms_first tables links) es

    -- a statement about one room's states, links and events, read in room k
    pub record ReadIn (k : ℕ) (Says : (ℕ → State) → (ℕ → ℕ → List Item) → List WorldEvent → Type 0) : Type 0 where
      -- at every point of the list, the world of rooms shows in room k the world that the statement speaks of
      pub shows : (n : ℕ)
          → seen_in k (rooms_at (rooms_first tables links) es n)
          ≡ at (at_first (states_in k) (links_in k)) (list_in k) n
      pub holds : Says (states_in k) (links_in k) (list_in k)

    -- demand 3 in room k, where no server is cut off
    abbrev pub SettlesUncutIn : ℕ → ℕ → Type 0
    SettlesUncutIn k A = RoomsBegin → ReadIn k (SettlesUncut A)

    -- with cuts, where an office begins again at or above every number that left it in room k, whatever keeps that
    -- number
    abbrev pub SettlesAboveIn : ℕ → ℕ → Type 0
    SettlesAboveIn k A = RoomsBegin → RestartsAbove (serves A) (at_first (states_in k) (links_in k)) (list_in k)
        → ReadIn k (Settles A) × ReadIn k (SettlesAfterCuts A)

  -- with cuts after any byte written to a server's file and any record of any room that left; the files of the offices
  -- of A are empty at first
  abbrev pub SettlesInRoom : (ℕ → List ℕ) → List RoomFileEvent → ℕ → ℕ → Type 0
  SettlesInRoom files fs k A = let es = plainly_in (filed_rooms tables links files) fs in
      RoomsBegin es → NoMarks A files → ReadIn es k (Settles A) × ReadIn es k (SettlesAfterCuts A)

  -- all sixteen servers start fresh, with empty links; the events are theirs
  pub record FreshServers (es : List RoomsEvent) : Type 0 where
    pub tables_fresh : (i : ℕ) → i < 16 → tables i ≡ fresh_table i
    pub links_empty : (i j : ℕ) → i < 16 → links i j ≡ []
    pub among : Every AmongServers es

  -- request 11 in room k, with cuts after any byte written to a server's file, all files empty at first, and after any
  -- record of any room that left
  abbrev pub UsedWellInRoom : List RoomFileEvent → ℕ → Type 0
  UsedWellInRoom fs k = let es = plainly_in (filed_rooms tables links (λ i. [])) fs in
      FreshServers es → ReadIn es k UsedWell
