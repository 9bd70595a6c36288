-- When the unwritten bytes are written.
use Rattle.std.specs.Prelude.{Bool, ℕ, ◌-◌, eqb, leb}
use Rattle.laws.specs.Upd.{ifb}
use Rattle.rules.specs.Refusals.{full_room}
use Rattle.text.specs.Lengths.{line_length}

-- how many bytes each of the two buffers has
abbrev pub buffer_length : ℕ
buffer_length = 65536

-- the most that one line takes: it shows what one event writes
abbrev pub most_line : ℕ
most_line = line_length full_room

-- the program may go on before it writes: nothing is unwritten where it is going to wait, else a line has room
unfoldable pub room_for : ℕ → Bool → Bool
room_for filled waiting = ifb waiting (eqb filled 0) (leb filled (buffer_length - most_line))
