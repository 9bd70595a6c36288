-- Where the program stands in its two buffers.
use Rattle.std.specs.Prelude.{◌≡◌, Result, Ok, Err, Bool, true, false, not, ◌&&◌, ◌||◌, List, [], ◌++◌, ℕ, ◌-◌, ◌≤◌, length, take, drop, eqb, ltb}
use Rattle.records.specs.Run.{run_check}
use Rattle.buffers.specs.Room.{buffer_length}
use Rattle.buffers.specs.declared.input.Place.{Place}

pub record Within (p : Place) : Type 0 where
  pub unread : p.at ≤ p.end
  pub read : p.end ≤ buffer_length
  pub unwritten : p.filled ≤ buffer_length

-- the bytes read and not yet answered, and those answered and not yet written
unfoldable pub window_of : Place → List ℕ → List ℕ
window_of p i = take (p.end - p.at) (drop p.at i)

unfoldable pub unwritten_of : Place → List ℕ → List ℕ
unwritten_of p o = take p.filled o

-- more input can change what stands in front
unfoldable pub waits_of : Bool → List ℕ → Bool
waits_of ended w = not ended && (ltb (length w) 2 || eqb (run_check w) 5)

-- what a read came to: so many bytes, the end of the input, or a failure for good
pub record Read : Type 0 where
  pub got : ℕ
  pub ended : Bool
  pub failed : Bool

abbrev pub read_of : {E : Type 0} → Result ℕ E → Read
read_of (Ok n) = record { got = n; ended = eqb n 0; failed = false }
read_of (Err e) = record { got = 0; ended = false; failed = true }

-- where the program stands after a read, which may have failed
pub record Grown : Type 0 where
  pub unread : Bool
  pub place : Place

abbrev pub grown_of : {T E : Type 0} → Result T E → Place → Grown
grown_of (Ok t) p = record { unread = false; place = p }
grown_of (Err e) p = record { unread = true; place = p }

-- a read comes to bytes, to the end of the input, or fails
pub record ReadBy (capacity : ℕ) (r : Read) : Type 0 where
  pub fits : r.got ≤ capacity
  pub ended : r.failed ≡ false → r.ended ≡ eqb r.got 0
  pub failed : r.failed ≡ true → (r.got ≡ 0) × (r.ended ≡ false)

-- reading keeps what was there and appends what was read; nothing read is the end of the input, unless the read failed
pub record Refilled (p : Place) (i : List ℕ) (r : Grown) (i' : List ℕ) : Type 0 where
  pub within : Within r.place
  pub number : r.place.number ≡ p.number
  pub filled : r.place.filled ≡ p.filled
  pub got : List ℕ
  pub window : window_of r.place i' ≡ window_of p i ++ got
  pub ended : r.unread ≡ false → r.place.ended ≡ eqb (length got) 0
  pub unread : r.unread ≡ true → (got ≡ []) × (r.place.ended ≡ false)
