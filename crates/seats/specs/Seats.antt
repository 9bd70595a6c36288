-- Sets of seats as numbers. There are 64 seats, 0 to 63; a set is a 64-bit number.
use Rattle.std.specs.Prelude.{Option, None, Some, Bool, ◌&&◌, ℕ, ◌-◌, ◌^◌, eqb, ltb}
use Rattle.std.specs.Int.Bits.{bit_or, bit_and}
use Rattle.laws.specs.Bit.{bit}
use Rattle.laws.specs.Lowest.{lowest_below}
use Rattle.laws.specs.Upd.{ifb}

abbrev pub seat_count : ℕ
seat_count = 64

-- bit s of the set x is set: seat s is in it
unfoldable pub has : ℕ → ℕ → Bool
has x s = eqb (bit x s) 1

abbrev pub is_seat : ℕ → Bool
is_seat s = ltb s seat_count

-- a seat above 63 is in no set, and leaves a set as it is
unfoldable pub contains_of : ℕ → ℕ → Bool
contains_of x s = is_seat s && has x s

unfoldable pub insert_of : ℕ → ℕ → ℕ
insert_of x s = ifb (is_seat s) (bit_or x (2 ^ s)) x

unfoldable pub remove_of : ℕ → ℕ → ℕ
remove_of x s = ifb (is_seat s) (bit_and x (2 ^ 64 - 1 - 2 ^ s)) x

-- the lowest seat of a set; 64 where it is empty
unfoldable pub lowest_seat : ℕ → ℕ
lowest_seat x = lowest_below seat_count (has x)

-- the same, none where it is empty
abbrev pub first_seat : ℕ → Option ℕ
first_seat x = ifb (eqb x 0) None (Some (lowest_seat x))

-- the seats of x or of y
unfoldable pub union_of : ℕ → ℕ → ℕ
union_of x y = bit_or x y

-- the seats of x that are not in y
unfoldable pub without_of : ℕ → ℕ → ℕ
without_of x y = bit_and x (2 ^ 64 - 1 - y)
