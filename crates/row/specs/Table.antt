-- One table of words holds the rows of eight rooms end to end, room 0 first, with nothing before or between them.
use Rattle.std.specs.Prelude.{◌≡◌, Bool, true, ◌&&◌, ℕ, ◌*◌, length, take, drop, eqb}
use mathlib.Core.List.{List, flatten}
use Rattle.std.proofs.lemmas.List.Edits.{sets}
use Rattle.laws.specs.Fin.{allb}
use Rattle.laws.specs.Tab.{tab}
use Rattle.records.specs.Numbers.{room_count}
use Rattle.rules.specs.Tables.{Table}
use Rattle.row.specs.Row.{row_length, state_of, words_of, is_row, sound_row}

abbrev pub table_length : ℕ
table_length = room_count * row_length

-- where the row of a room stands, and that row
abbrev pub row_place : ℕ → ℕ
row_place room = row_length * room

abbrev pub row_at : List ℕ → ℕ → List ℕ
row_at ws room = take row_length (drop (row_place room) ws)

-- the table with another row in a room; every other word stays
abbrev pub with_row : List ℕ → ℕ → List ℕ → List ℕ
with_row ws room row = sets ws (row_place room) row

-- the states that words hold, and the words of states
abbrev pub table_of : List ℕ → Table
table_of ws room = state_of (row_at ws room)

unfoldable pub table_words : Table → List ℕ
table_words t = flatten (tab room_count (λ room. words_of (t room)))

-- a row in every room
unfoldable pub is_table : List ℕ → Bool
is_table ws = eqb (length ws) table_length && allb room_count (λ room. is_row (row_at ws room))

-- a table that passes check 2: in every room a row whose state passes it
unfoldable pub sound_table : List ℕ → Bool
sound_table ws = eqb (length ws) table_length && allb room_count (λ room. sound_row (row_at ws room))

abbrev pub SoundTable : List ℕ → Type 0
SoundTable ws = sound_table ws ≡ true
