-- For the output: a record that has room at its place is placed there, and all its bytes count.
use mathlib.Core.Path.{◌≡◌}
use mathlib.Core.List.{List}
use Prim.Native.Nat.{ℕ, ◌+◌, ◌≤◌}
use lib.ListN.{length}
use borrow.Author.Tests.{le-leb}
use lib.Seq.{sets}
use Rattle.records.specs.Write.{Placed, placed, placed_count}

module _ {out bytes after : List ℕ} {at n : ℕ} (room : at + length bytes ≤ length out) (p : Placed out at bytes n after)
  where
    pub all_count : n ≡ length bytes
    unfolding placed_count
    all_count = rw (le-leb _ _ room) at p.count

    pub all_there : after ≡ sets out at bytes
    unfolding placed
    all_there = rw (le-leb _ _ room) at p.output
