-- syncing: the bytes of a seat's sync record, and the record that they are.
use mathlib.Core.Path.{◌≡◌, ◌∙◌, ap}
use mathlib.Core.List.{[]}
use Prim.Native.Nat.{◌≤◌, ◌<◌}
use native.Mathlib.Omega.{arith}
use borrow.Author.Tests.{le-leb, lt-leb}
use Rattle.seats.specs.Seats.{seat_count}
use Rattle.records.specs.Layout.{encode_sync, decode_sync}
use Rattle.records.proofs.RoundTrip.{sync_back}
use Rattle.desk.specs.declared.checks.Desk.{Desk}
use Rattle.desk.specs.Syncing.{sync_of, sync_bytes}
use Rattle.desk.proofs.Accepted.{SoundDesk}

module _ (d : Desk) where
  pub no_sync : seat_count ≤ d.seat → sync_bytes d ≡ []
  unfolding sync_bytes
  no_sync l = rw (le-leb seat_count d.seat l)

  pub sync_made : d.seat < seat_count → sync_bytes d ≡ encode_sync (sync_of d)
  unfolding sync_bytes
  sync_made l = rw (lt-leb seat_count d.seat l)

  -- who reads them has the seat's own numbers
  pub sync_read : SoundDesk d → decode_sync (sync_bytes d) ≡ sync_of d
  unfolding sync_of
  sync_read s =
      let a = s.start in
      let b = s.view in
      let c = s.seat in
      ap decode_sync (sync_made c)
      ∙ sync_back (sync_of d) (record { seat = omega arith; start = omega arith; previous = omega arith })
