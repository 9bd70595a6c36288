-- L, and the two checks that the sixteen numbers of a record meet wherever it is read.
use Rattle.std.specs.Prelude.{Bool, ◌&&◌, not, List, ℕ, get_or, eqb, ltb, leb}
use Rattle.laws.specs.Fin.{anyb, sum}
use Rattle.laws.specs.Upd.{ifb}
use Rattle.seats.specs.Offices.{serves}

-- L: no number in a state or record passes it
abbrev pub limit : ℕ
limit = 2_000_000_000

abbrev pub within : ℕ → Bool
within n = leb n limit

-- a server has eight rooms, 0 to 7
abbrev pub room_count : ℕ
room_count = 8

-- 20: the room is above 7
abbrev pub room_above : ℕ → Bool
room_above room = leb room_count room

-- 8: one of sixteen numbers is above L
abbrev pub above_limit : List ℕ → Bool
above_limit numbers = anyb 16 (λ o. ltb limit (get_or numbers o 0))

-- a number that is not 0, and how many of sixteen are
abbrev pub non_zero : List ℕ → ℕ → Bool
non_zero numbers o = not (eqb (get_or numbers o 0) 0)

abbrev pub non_zero_count : List ℕ → ℕ
non_zero_count numbers = sum 16 (λ o. ifb (non_zero numbers o) 1 0)

-- 10: one of sixteen numbers is not 0 for an office without a seat in the members
abbrev pub stray_number : ℕ → List ℕ → Bool
stray_number members numbers = anyb 16 (λ o. not (serves members o) && not (eqb (get_or numbers o 0) 0))
