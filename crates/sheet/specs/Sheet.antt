-- Who came along from the old view: what a sheet of sync records, a view and one's own previous view number answer, in
-- the order of change requests 4 and 9.
use Rattle.std.specs.Prelude.{Bool, true, false, ◌&&◌, ◌||◌, not, List, [], ◌∷◌, map, ℕ, ◌+◌, ◌*◌, ◌/◌, ◌%◌, length}
use Rattle.std.specs.Prelude.{eqb, ltb, leb}
use Rattle.std.proofs.Math.Option.{Option, none, some}
use Rattle.laws.specs.Checks.{Check, numbered, first_of}
use Rattle.laws.specs.Lists.{pieces}
use Rattle.laws.specs.Lowest.{lowest_below}
use Rattle.laws.specs.Upd.{ifb}
use Rattle.seats.specs.Seats.{seat_count, contains_of}
use Rattle.seats.specs.declared.SeatSet.{SeatSet}
use Rattle.seats.specs.Offices.{packed}
use Rattle.records.specs.Numbers.{limit, room_above}
use Rattle.records.specs.Layout.{view_mark, view_length, sync_mark, sync_length, value_of, mark_of, check_own}
use Rattle.records.specs.Layout.{decode_view}
use Rattle.records.specs.Layout.{room_of, decode_sync}
use Rattle.records.specs.declared.View.{View}
use Rattle.records.specs.declared.Sync.{Sync}
use Rattle.desk.specs.Views.{view_above, view_stray, start_for}
use Rattle.sheet.specs.declared.Along.{Along}
use Rattle.sheet.specs.declared.Along.TheVariants as answers

-- a sheet is at most 512 records end to end: 5,632 bytes
abbrev pub sheet_records : ℕ
sheet_records = 512

abbrev pub sheet_limit : ℕ
sheet_limit = sheet_records * sync_length

-- its first n records, and all of them
abbrev pub records_in : ℕ → List ℕ → List (List ℕ)
records_in = pieces sync_length

abbrev pub records_on : List ℕ → List (List ℕ)
records_on sheet = records_in (length sheet / sync_length) sheet

-- a seat's record counts for a view if its start number is the one that the view has for that seat's office
unfoldable pub counts : View → ℕ → Sync → Bool
counts v seat r = eqb r.seat seat && eqb r.start (start_for v seat)

-- if two do, the first on the sheet counts
unfoldable pub record_for : View → ℕ → List Sync → Option Sync
record_for v seat [] = none
record_for v seat (r ∷ rs) = ifb (counts v seat r) (some r) (record_for v seat rs)

-- a seat's record is missing, or names a previous view number
abbrev pub missing : Option Sync → Bool
missing none = true
missing (some r) = false

abbrev pub names : ℕ → Option Sync → Bool
names previous none = false
names previous (some r) = eqb r.previous previous

-- a member whose record for the view is missing, and one whose record names the number
unfoldable pub lacks_record : View → List Sync → ℕ → Bool
lacks_record v rs seat = contains_of v.members.bits seat && missing (record_for v seat rs)

unfoldable pub names_same : View → ℕ → List Sync → ℕ → Bool
names_same v previous rs seat = contains_of v.members.bits seat && names previous (record_for v seat rs)

-- the set of those
abbrev pub set_of : (ℕ → Bool) → SeatSet
set_of p = record { bits = packed seat_count p }

-- the lowest member seat whose record is missing; where none is, the set of the members whose record names the number
unfoldable pub answer_from : View → ℕ → List Sync → Along
answer_from v previous rs =
    let seat = lowest_below seat_count (lacks_record v rs) in
    ifb (ltb seat seat_count) (answers.Missing seat) (answers.Members (set_of (names_same v previous rs)))

-- 8: a number in the view, or one's own, is above L
unfoldable pub asked_above : View → ℕ → Bool
asked_above v previous = view_above v || ltb limit previous

-- 17: the sheet is longer than 5,632 bytes or no multiple of 11
unfoldable pub no_sheet : ℕ → Bool
no_sheet n = ltb sheet_limit n || not (eqb (n % sync_length) 0)

-- a view that was read, one's own number, and a sheet of n bytes
unfoldable pub ask_checks : View → ℕ → ℕ → List Check
ask_checks v previous n =
    record { number = 8; applies = asked_above v previous }
    ∷ record { number = 10; applies = view_stray v } ∷ record { number = 17; applies = no_sheet n } ∷ []

-- a bad record: 4 for a wrong mark, 6 for a seat above 63, 8 for a number above L
abbrev pub other_mark : List ℕ → Bool
other_mark b = not (eqb (mark_of b) (value_of sync_mark))

abbrev pub no_seat : Sync → Bool
no_seat r = leb seat_count r.seat

abbrev pub sync_above : Sync → Bool
sync_above r = ltb limit r.start || ltb limit r.previous

unfoldable pub sync_checks : List ℕ → List Check
sync_checks b =
    record { number = 4; applies = other_mark b } ∷ record { number = 6; applies = no_seat (decode_sync b) }
    ∷ record { number = 8; applies = sync_above (decode_sync b) } ∷ []

-- the number of the first bad record; 0 where none is bad
unfoldable pub first_bad : List (List ℕ) → ℕ
first_bad [] = 0
first_bad (b ∷ bs) = let n = first_of (sync_checks b) in ifb (eqb n 0) (first_bad bs) n

-- the view is read first: 4 and 5 by its own mark and length, then 20, 8 and 10; then 17; then the first bad record
unfoldable pub along_checks : List ℕ → List ℕ → ℕ → List Check
along_checks sheet view previous =
    numbered (check_own view_mark view_length view) ∷ record { number = 20; applies = room_above (room_of view) }
    ∷ numbered (first_of (ask_checks (decode_view view) previous (length sheet)))
    ∷ numbered (first_bad (records_on sheet)) ∷ []

-- any sheet, any view, any number
unfoldable pub came_along : List ℕ → List ℕ → ℕ → Along
came_along sheet view previous =
    let n = first_of (along_checks sheet view previous) in
    ifb (eqb n 0) (answer_from (decode_view view) previous (map decode_sync (records_on sheet))) (answers.Refused n)

-- the documents' number for an answer
unfoldable pub along_refusal : Along → ℕ
along_refusal (answers.Refused n) = n
along_refusal (answers.Missing seat) = 0
along_refusal (answers.Members set) = 0

-- and its value for C: 0 with a set and with a refusal, else 1 + the missing seat
unfoldable pub along_value : Along → ℕ
along_value (answers.Refused n) = 0
along_value (answers.Missing seat) = 1 + seat
along_value (answers.Members set) = 0
