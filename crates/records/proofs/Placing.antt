-- For the writers of record_bytes: a record has room at its place, or not.
use mathlib.Core.Path.{◌≡◌, sym}
use mathlib.Core.List.{List, []}
use Prim.Native.Nat.{ℕ, ◌+◌, ◌≤◌, ◌<◌}
use lib.ListN.{length}
use lib.Dec.{leb}
use borrow.Author.Tests.{le-leb, lt-leb}
use lib.Seq.{sets}
use Rattle.laws.proofs.Fin.{if_same}
use Rattle.records.specs.Write.{placed, placed_count, Placed}

-- no bytes at all
pub placed_none : (out : List ℕ) (at : ℕ) → Placed out at [] 0 out
unfolding placed placed_count
placed_none out at = record {
  count = sym (if_same (leb (at + 0) (length out)) 0);
  output = sym (if_same (leb (at + 0) (length out)) out);
}

module _ (out : List ℕ) (at : ℕ) (bytes : List ℕ) (n : ℕ) (size : length bytes ≡ n) where
  pub placed_in : (after : List ℕ) → at + n ≤ length out → after ≡ sets out at bytes → Placed out at bytes n after
  unfolding placed placed_count
  placed_in after room e = record { count = rw (size, le-leb _ _ room); output = rw (size, le-leb _ _ room) e }

  pub placed_out : length out < at + n → Placed out at bytes 0 out
  unfolding placed placed_count
  placed_out room = record { count = rw (size, lt-leb _ _ room); output = rw (size, lt-leb _ _ room) }
