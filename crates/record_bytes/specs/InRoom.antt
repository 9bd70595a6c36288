-- A record of a room as bytes: its room is read and written with it.
use Rattle.std.specs.Prelude.{List, ℕ}
use Rattle.records.specs.declared.InRoom.{InRoom}
use Rattle.records.specs.Layout.{room_of}

abbrev pub decoded : {R : Type 0} → (List ℕ → R) → List ℕ → InRoom R
decoded decode b = record { room = room_of b; «record» = decode b }

abbrev pub encoded : {R : Type 0} → (ℕ → R → List ℕ) → InRoom R → List ℕ
encoded encode x = encode x.room x.«record»
