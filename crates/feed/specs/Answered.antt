-- A record answered.
use Rattle.std.specs.Prelude.{◌≡◌, Bool, false, List, ◌++◌, length, ℕ, ◌+◌, ◌≤◌}
use Rattle.records.specs.Layout.{room_of}
use Rattle.rules.specs.Refusals.{full_room}
use Rattle.rules.specs.Tables.{step_table}
use Rattle.row.specs.Table.{table_of, SoundTable}
use Rattle.step.specs.Held.{OfOffice}
use Rattle.text.specs.Lines.{line_for, goes_on}
use Rattle.buffers.specs.Room.{buffer_length}
use Rattle.buffers.specs.Place.{unwritten_of}
use Rattle.buffers.specs.declared.input.Place.{Place}
use Rattle.feed.specs.Session.{Advanced}

-- the record b is answered by the step, with full room: its line stands behind what is unwritten
pub record Answered (traced : Bool) (office : ℕ) (ws : List ℕ) (p : Place) (b o : List ℕ) (r : Advanced)
    (ws' o' : List ℕ) : Type 0 where
  pub sound : SoundTable ws'
  pub own : OfOffice office ws'
  pub table : table_of ws' ≡ (step_table office (table_of ws) b full_room).table
  pub more : r.more ≡ goes_on (step_table office (table_of ws) b full_room).refusal
  pub unread : r.unread ≡ false
  pub ended : r.place.ended ≡ p.ended
  pub at : r.place.at ≡ p.at + length b
  pub end : r.place.end ≡ p.end
  pub filled : r.place.filled ≤ buffer_length
  pub number : r.place.number ≡ p.number + 1
  pub line : unwritten_of r.place o'
      ≡ unwritten_of p o ++ line_for traced (p.number + 1) (room_of b) (step_table office (table_of ws) b full_room)
