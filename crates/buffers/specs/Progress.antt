-- Where the program stands once it has written, and once it has a line to write.
use Rattle.std.specs.Prelude.{◌≡◌, Bool, true, List, ◌++◌, ℕ, ◌+◌, ◌-◌, ◌^◌, ◌≤◌, ◌<◌, length, take, drop}
use Rattle.laws.specs.Upd.{ifb}
use Rattle.rules.specs.Refusals.{full_room}
use Rattle.text.specs.Text.{line_of}
use Rattle.buffers.specs.Place.{unwritten_of}
use Rattle.buffers.specs.declared.input.Place.{Place}
use Rattle.buffers.specs.Room.{buffer_length, most_line, room_for}
use Rattle.step.specs.Answers.{Answer}

-- the place after a write of some of the unwritten bytes
abbrev pub sent_from : Place → ℕ → Place
sent_from p sent = record { ended = p.ended; at = p.at; end = p.end; filled = p.filled - sent; number = p.number }

-- what is no longer unwritten was sent: the front of it, and nothing where the program may go on
pub record Emptied (p : Place) (waiting : Bool) (o : List ℕ) (r : Place) (o' : List ℕ) : Type 0 where
  pub few : r.filled ≤ p.filled
  pub place : r ≡ sent_from p (p.filled - r.filled)
  pub unasked : room_for p.filled waiting ≡ true → r.filled ≡ p.filled
  pub unwritten : unwritten_of r o' ≡ drop (p.filled - r.filled) (unwritten_of p o)

-- a record of so many bytes can be answered: it stands in the input buffer, and its line has room and a number
pub record LineFits (p : Place) (taken : ℕ) (a : Answer) (out o : List ℕ) : Type 0 where
  pub inside : p.at + taken ≤ buffer_length
  pub line : p.filled + most_line ≤ buffer_length
  pub number : p.number + 1 < 2 ^ 64
  pub output : length o ≡ buffer_length
  pub written : a.written ≤ full_room
  pub shown : length out ≡ full_room

-- a record of so many bytes is answered: its line stands behind what is unwritten, with the bytes written if traced
pub record Told (traced : Bool) (p : Place) (taken : ℕ) (a : Answer) (view : ℕ) (out o : List ℕ)
    (r : Place) (o' : List ℕ) : Type 0 where
  pub place : r
      ≡ record { ended = p.ended; at = p.at + taken; end = p.end; filled = r.filled; number = p.number + 1 }
  pub filled : r.filled ≤ buffer_length
  pub line : unwritten_of r o' ≡ unwritten_of p o
      ++ line_of (p.number + 1) a.refusal a.written view (take (ifb traced a.written 0) out)
