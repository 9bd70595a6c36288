-- For SeatSet: what its functions compute, with shifts and masks, is what the definitions say.
use mathlib.Core.Path.{◌≡◌}
use mathlib.Core.Bool.{false}
use Prim.Native.Nat.{ℕ, ◌-◌, ◌*◌, ◌/◌, ◌%◌, ◌^◌, ◌≤◌, ◌<◌}
use native.Mathlib.Nat.{one-mul, mod-eq_of_lt}
use native.Mathlib.Omega.{arith}
use lib.Dec.{eqb}
use lib.Bits.{bit_or, bit_and, and_mask}
use lib.Count.{count_trailing_zeros, trailing_le}
use lib.Pow.{pow-lt}
use mir.Syntax.{w8}
use mir.Val.{Fits}
use borrow.Author.Tests.{lt-ltb, le-ltb}
use Rattle.laws.proofs.Bit.{bit_shr}
use Rattle.laws.proofs.Lowest.{trailing_lowest}
use Rattle.seats.specs.Seats.{has, contains_of, insert_of, remove_of, lowest_seat}

shl_one : (s : ℕ) → s < 64 → 1 * 2 ^ s % 2 ^ 64 ≡ 2 ^ s
shl_one s h = rw one-mul (mod-eq_of_lt (pow-lt h))

module _ (x s : ℕ) (h : s < 64) where
  pub inserted : bit_or x (1 * 2 ^ s % 2 ^ 64) ≡ insert_of x s
  unfolding insert_of
  inserted = rw (shl_one s h, lt-ltb s 64 h)

  pub removed : bit_and x (2 ^ 64 - 1 - 1 * 2 ^ s % 2 ^ 64) ≡ remove_of x s
  unfolding remove_of
  removed = rw (shl_one s h, lt-ltb s 64 h)

  pub contained : eqb (bit_and (x / 2 ^ s) 1) 1 ≡ contains_of x s
  unfolding contains_of has
  contained = rw (lt-ltb s 64 h, bit_shr s x, and_mask (x / 2 ^ s) 1)

pub contained_above : (x s : ℕ) → 64 ≤ s → false ≡ contains_of x s
unfolding contains_of
contained_above x s h = rw (le-ltb s 64 h)

-- the lowest seat is found by the trailing zeros
pub trailing_seats : (x : ℕ) → Fits w8 (count_trailing_zeros 64 x)
trailing_seats x = omega (arith, trailing_le 64 x)

pub trailing_seat : (x : ℕ) → count_trailing_zeros 64 x ≡ lowest_seat x
unfolding lowest_seat has
trailing_seat x = trailing_lowest 64 x
