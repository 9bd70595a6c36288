-- What a turn begins with.
use Rattle.std.specs.Prelude.{◌≡◌, List, ℕ, ◌+◌, ◌^◌, ◌<◌, length}
use Rattle.rules.specs.Refusals.{full_room}
use Rattle.row.specs.Table.{SoundTable}
use Rattle.step.specs.Held.{OfOffice}
use Rattle.buffers.specs.Room.{buffer_length}
use Rattle.buffers.specs.Place.{Within}
use Rattle.buffers.specs.declared.input.Place.{Place}

-- what the program lends to its turns: a sound table of its office, room for what one event writes, and two whole
-- buffers
pub record Lent (office : ℕ) (ws i out o : List ℕ) : Type 0 where
  pub known : office < 16
  pub sound : SoundTable ws
  pub own : OfOffice office ws
  pub input : length i ≡ buffer_length
  pub room : length out ≡ full_room
  pub output : length o ≡ buffer_length

-- the program stands within them, and has a number for one record more
pub record TurnReady (office : ℕ) (ws : List ℕ) (p : Place) (i out o : List ℕ) : Type 0 where
  pub lent : Lent office ws i out o
  pub within : Within p
  pub number : p.number + 1 < 2 ^ 64
