-- What checks 2, 3 and 13 ask, and those of an event before 11.
use Rattle.std.specs.Prelude.{Bool, ◌&&◌, List, [], ◌∷◌, ℕ, ltb}
use Rattle.laws.specs.Checks.{numbered, first_of}
use Rattle.laws.specs.Upd.{ifb}
use Rattle.rules.specs.State.{State}
use Rattle.records.specs.Numbers.{within, room_above}
use Rattle.rules.specs.Refusals.{full_room, form_refusal}
use Rattle.rules.specs.Tables.{RoomEvent}
use Rattle.row.specs.Table.{sound_table, table_of}

-- checks 2, of every room, and 3 on words and an output
unfoldable pub unready : List ℕ → ℕ → ℕ
unready ws output = ifb (sound_table ws) (ifb (ltb output full_room) 3 0) 2

-- checks 2, 3 and 20, then 6 to 10 and 19 for the own office of the event's room
unfoldable pub unfit : List ℕ → RoomEvent → ℕ → ℕ
unfit ws e output =
    first_of (numbered (unready ws output) ∷ record { number = 20; applies = room_above e.room }
    ∷ numbered (form_refusal (table_of ws e.room).own e.what) ∷ [])

-- check 13 on the state that an event leaves: the numbers that it can make are within L
abbrev pub made_within : State → Bool
made_within s = within s.start && within s.number && within s.view.number
