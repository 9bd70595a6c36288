-- The offices of a set of seats. There are 16 offices, 0 to 15.
use Rattle.std.specs.Prelude.{Option, None, Some, eqb, Bool, not, ◌&&◌, ◌||◌, ℕ, zero, suc, ◌+◌, ◌*◌, ◌/◌, ◌^◌, ltb}
use Rattle.laws.specs.Fin.{allb, anyb, sum}
use Rattle.laws.specs.Lowest.{lowest_below}
use Rattle.laws.specs.Upd.{ifb}
use Rattle.seats.specs.Seats.{has}
use Rattle.seats.specs.declared.offices.OfficeSet.{OfficeSet}

-- seat s belongs to office s / 4, rounded down
unfoldable pub office_of : ℕ → ℕ
office_of s = s / 4

-- the four seats of office o, as a set; an office above 15 has none
unfoldable pub seats_of : ℕ → ℕ
seats_of o = ifb (ltb o 16) (15 * 2 ^ (4 * o)) 0

-- office o is an office of the set x: at least one of its four seats is in it
unfoldable pub serves : ℕ → ℕ → Bool
serves x o = has x (4 * o) || has x (4 * o + 1) || has x (4 * o + 2) || has x (4 * o + 3)

-- the number below 2 ^ n whose bit k is set when p k holds
unfoldable pub packed : ℕ → (ℕ → Bool) → ℕ
packed zero p = 0
packed (suc n) p = packed n p + ifb (p n) (2 ^ n) 0

-- the offices of a set, as a sixteen-bit set: bit o is set when office o is one of them
unfoldable pub offices_of : ℕ → ℕ
offices_of x = packed 16 (serves x)

-- the number of the offices of a set: of the sixteen, those with a seat in it
unfoldable pub count_of : ℕ → ℕ
count_of x = sum 16 (λ o. ifb (serves x o) 1 0)

-- of the offices of a sixteen-bit set: a test holds of every one, or of some
abbrev pub every_office : ℕ → (ℕ → Bool) → Bool
every_office all p = allb 16 (λ o. not (has all o) || p o)

abbrev pub some_office : ℕ → (ℕ → Bool) → Bool
some_office all p = anyb 16 (λ o. has all o && p o)

-- which offices a set touches, and how many they are
abbrev pub touched : ℕ → OfficeSet
touched x = record { bits = offices_of x; count = count_of x }

-- the lowest office of a sixteen-bit set of offices; 16 where it is empty
unfoldable pub lowest_of : ℕ → ℕ
lowest_of b = lowest_below 16 (has b)

-- the same, none where it is empty
abbrev pub first_of : ℕ → Option ℕ
first_of b = ifb (eqb b 0) None (Some (lowest_of b))
