-- The sync record of a seat, which it sends the other desks after a start notice.
use Rattle.std.specs.Prelude.{List, [], ℕ, leb}
use Rattle.laws.specs.Upd.{ifb}
use Rattle.seats.specs.Seats.{seat_count}
use Rattle.records.specs.Layout.{encode_sync}
use Rattle.records.specs.declared.Sync.{Sync}
use Rattle.desk.specs.declared.checks.Desk.{Desk}

-- the seat, the last start number, the last view number
unfoldable pub sync_of : Desk → Sync
sync_of d = record { seat = d.seat; start = d.start; previous = d.view }

-- its bytes; a seat above 63 has none
unfoldable pub sync_bytes : Desk → List ℕ
sync_bytes d = ifb (leb seat_count d.seat) [] (encode_sync (sync_of d))
