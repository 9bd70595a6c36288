-- The sync record that a seat makes after a start notice of a room, and the view that it counts for.
use Rattle.std.specs.Prelude.{◌≡◌, true, List, [], ◌∷◌, ◌++◌, ℕ}
use Rattle.records.specs.Layout.{decode_view, decode_sync}
use Rattle.records.specs.declared.Notice.{Notice}
use Rattle.records.specs.declared.View.{View}
use Rattle.rules.specs.Rules.{Written, notice, view}
use Rattle.rules.specs.Refusals.{bytes_of}
use Rattle.desk.specs.Hearing.{fresh_desk}
use Rattle.desk.specs.Syncing.{sync_bytes}
use Rattle.sheet.specs.Sheet.{counts}
use Rattle.sheet.specs.Answers.{GoodRecord}
use Rattle.desk.specs.Rooms.{fresh_rooms, sync_in}
use Rattle.desk_runs.specs.Sent.{desk_after}
use Rattle.desk_runs.specs.Rooms.{rooms_after, heard_in}

-- what a fresh seat writes after it has heard these records of a room
abbrev pub sync_after : ℕ → ℕ → List Written → List ℕ
sync_after room seat heard = sync_bytes (desk_after room (fresh_desk seat) heard)

-- the last of the records heard is a notice, and the sync record made then is not bad and counts for the view, as its
-- bytes are read
pub record SyncFor (room seat : ℕ) (heard : List Written) (v : View) : Type 0 where
  pub earlier : List Written
  pub last : Notice
  pub after_notice : heard ≡ earlier ++ (notice last ∷ [])
  pub good : GoodRecord (sync_after room seat heard)
  pub for_view : counts (decode_view (bytes_of room (view v))) seat (decode_sync (sync_after room seat heard)) ≡ true

-- the same of a fresh desk that has heard these bytes of all rooms
abbrev pub sync_after_in : ℕ → ℕ → List (List ℕ) → List ℕ
sync_after_in room seat heard = sync_in (rooms_after (fresh_rooms seat) heard) room

pub record SyncIn (room seat : ℕ) (heard : List (List ℕ)) (v : View) : Type 0 where
  pub earlier : List (List ℕ)
  pub last : Notice
  pub after_notice : heard_in room heard ≡ earlier ++ (bytes_of room (notice last) ∷ [])
  pub good : GoodRecord (sync_after_in room seat heard)
  pub for_view : counts (decode_view (bytes_of room (view v))) seat (decode_sync (sync_after_in room seat heard)) ≡ true
