-- The layout of the six records, and checks 4 and 5. Numbers are stored most significant byte first; a record starts
-- with its two-byte mark.
use Rattle.std.specs.Prelude.{Option, None, Some, List, [], ◌∷◌, ◌++◌, ℕ, ◌+◌, ◌*◌, length, get_or, eqb, ltb}
use Rattle.laws.specs.Big.{bytes4, bytes8, bytes_all, big4, big8}
use Rattle.laws.specs.Tab.{tab}
use Rattle.laws.specs.Upd.{ifb}
use Rattle.seats.specs.declared.SeatSet.{SeatSet}
use Rattle.records.specs.declared.Report.{Report}
use Rattle.records.specs.declared.Proposal.{Proposal}
use Rattle.records.specs.declared.Notice.{Notice}
use Rattle.records.specs.declared.View.{View}
use Rattle.records.specs.declared.Sync.{Sync}
use Rattle.records.specs.declared.High.{High}
use Rattle.records.specs.declared.RecordKind.{RecordKind as InCode}
use Rattle.records.specs.declared.RecordKind.TheVariants as in_code
use Rattle.records.specs.Kinds.{Form}
use Rattle.records.specs.Kinds as kinds

-- the marks "NE", "PR", "SC", "VW", "SY", "HM"
abbrev pub report_mark : List ℕ
report_mark = 0x4e ∷ 0x45 ∷ []

abbrev pub proposal_mark : List ℕ
proposal_mark = 0x50 ∷ 0x52 ∷ []

abbrev pub notice_mark : List ℕ
notice_mark = 0x53 ∷ 0x43 ∷ []

abbrev pub view_mark : List ℕ
view_mark = 0x56 ∷ 0x57 ∷ []

abbrev pub sync_mark : List ℕ
sync_mark = 0x53 ∷ 0x59 ∷ []

abbrev pub high_mark : List ℕ
high_mark = 0x48 ∷ 0x4d ∷ []

-- the room, the byte after the mark of a report, a proposal, a start notice or a view; it may be any byte here
abbrev pub room_place : ℕ
room_place = 2

-- report, 19 bytes: 3-10 joining, 11-18 leaving
abbrev pub joining_place : ℕ
joining_place = 3

abbrev pub leaving_place : ℕ
leaving_place = 11

abbrev pub report_length : ℕ
report_length = 19

-- proposal, 85 bytes: 3 sender, 4 kind, 5-12 members, 13-16 start number, 17-20 proposal number, 21-84 used numbers
abbrev pub sender_place : ℕ
sender_place = 3

abbrev pub kind_place : ℕ
kind_place = 4

abbrev pub proposal_members_place : ℕ
proposal_members_place = 5

abbrev pub proposal_start_place : ℕ
proposal_start_place = 13

abbrev pub proposal_number_place : ℕ
proposal_number_place = 17

abbrev pub used_place : ℕ
used_place = 21

abbrev pub proposal_length : ℕ
proposal_length = 85

-- start notice, 15 bytes: 3-6 start number, 7-14 suggested members
abbrev pub notice_start_place : ℕ
notice_start_place = 3

abbrev pub notice_members_place : ℕ
notice_members_place = 7

abbrev pub notice_length : ℕ
notice_length = 15

-- view, 79 bytes: 3-6 view number, 7-14 members, 15-78 sixteen start numbers
abbrev pub view_number_place : ℕ
view_number_place = 3

abbrev pub view_members_place : ℕ
view_members_place = 7

abbrev pub starts_place : ℕ
starts_place = 15

abbrev pub view_length : ℕ
view_length = 79

-- sync record, 11 bytes: 2 seat, 3-6 start number, 7-10 previous view number
abbrev pub sync_seat_place : ℕ
sync_seat_place = 2

abbrev pub sync_start_place : ℕ
sync_start_place = 3

abbrev pub sync_previous_place : ℕ
sync_previous_place = 7

abbrev pub sync_length : ℕ
sync_length = 11

-- high mark, 10 bytes: 2-5 number, 6-9 the same number again
abbrev pub high_number_place : ℕ
high_number_place = 2

abbrev pub high_again_place : ℕ
high_again_place = 6

abbrev pub high_length : ℕ
high_length = 10

-- the set of seats at a place
abbrev pub seats_at : List ℕ → ℕ → SeatSet
seats_at b at = record { bits = big8 b at }

-- the sixteen numbers at a place, office 0 first
abbrev pub sixteen_at : List ℕ → ℕ → List ℕ
sixteen_at b at = tab 16 (λ o. big4 b (at + 4 * o))

-- the room that bytes name, 0 where there is none
unfoldable pub room_of : List ℕ → ℕ
room_of b = get_or b room_place 0

-- A record of a room: the room stands beside it.
unfoldable pub encode_report : ℕ → Report → List ℕ
encode_report room r = report_mark ++ (room ∷ []) ++ bytes8 r.joining.bits ++ bytes8 r.leaving.bits

unfoldable pub decode_report : List ℕ → Report
decode_report b = record { joining = seats_at b joining_place; leaving = seats_at b leaving_place }

unfoldable pub encode_proposal : ℕ → Proposal → List ℕ
encode_proposal room p =
    proposal_mark ++ (room ∷ p.sender ∷ p.kind ∷ []) ++ bytes8 p.members.bits ++ bytes4 p.start ++ bytes4 p.number
    ++ bytes_all p.used

unfoldable pub decode_proposal : List ℕ → Proposal
decode_proposal b =
    record {
      sender = get_or b sender_place 0;
      kind = get_or b kind_place 0;
      members = seats_at b proposal_members_place;
      start = big4 b proposal_start_place;
      number = big4 b proposal_number_place;
      used = sixteen_at b used_place;
    }

unfoldable pub encode_notice : ℕ → Notice → List ℕ
encode_notice room n = notice_mark ++ (room ∷ []) ++ bytes4 n.start ++ bytes8 n.members.bits

unfoldable pub decode_notice : List ℕ → Notice
decode_notice b = record { start = big4 b notice_start_place; members = seats_at b notice_members_place }

unfoldable pub encode_view : ℕ → View → List ℕ
encode_view room v =
    view_mark ++ (room ∷ []) ++ bytes4 v.number ++ bytes8 v.members.bits ++ bytes_all v.starts

unfoldable pub decode_view : List ℕ → View
decode_view b =
    record { number = big4 b view_number_place; members = seats_at b view_members_place; starts = sixteen_at b starts_place }

unfoldable pub encode_sync : Sync → List ℕ
encode_sync r = sync_mark ++ (r.seat ∷ []) ++ bytes4 r.start ++ bytes4 r.previous

unfoldable pub decode_sync : List ℕ → Sync
decode_sync b =
    record { seat = get_or b sync_seat_place 0; start = big4 b sync_start_place; previous = big4 b sync_previous_place }

unfoldable pub encode_high : High → List ℕ
encode_high h = high_mark ++ bytes4 h.number ++ bytes4 h.again

unfoldable pub decode_high : List ℕ → High
decode_high b = record { number = big4 b high_number_place; again = big4 b high_again_place }

-- the two bytes of a mark as one number
abbrev pub value_of : List ℕ → ℕ
value_of m = get_or m 0 0 * 256 + get_or m 1 0

-- the value of the mark that bytes start with; 0, which is no record's, where there are under two
unfoldable pub mark_of : List ℕ → ℕ
mark_of b = ifb (ltb (length b) 2) 0 (value_of b)

-- the kind and length of the report or proposal with a mark; length 0 where the mark is neither's
abbrev pub report_form : Form
report_form = record { kind = kinds.Report; length = report_length }

abbrev pub proposal_form : Form
proposal_form = record { kind = kinds.Proposal; length = proposal_length }

abbrev pub other_form : Form
other_form = record { kind = kinds.Other; length = 0 }

-- what code answers of it: the kind, none where the mark is neither's
abbrev pub form_as : Option InCode → Form
form_as None = other_form
form_as (Some in_code.Report) = report_form
form_as (Some in_code.Proposal) = proposal_form

unfoldable pub form_for : ℕ → Form
form_for m = ifb (eqb m (value_of report_mark)) report_form (ifb (eqb m (value_of proposal_mark)) proposal_form other_form)

unfoldable pub form_of : List ℕ → Form
form_of b = form_for (mark_of b)

-- checks 4 and 5 where the mark calls for n bytes, n 0 where the mark is refused: 0 where both pass
unfoldable pub check_for : ℕ → List ℕ → ℕ
check_for n b = ifb (eqb n 0) 4 (ifb (eqb (length b) n) 0 5)

-- the two checks on a lone report or proposal
unfoldable pub check_of : List ℕ → ℕ
check_of b = check_for (form_of b).length b

-- the two checks where either of two marks passes: m with length j, n with length k
unfoldable pub check_either : List ℕ → ℕ → List ℕ → ℕ → List ℕ → ℕ
check_either m j n k b = check_for (ifb (eqb (mark_of b) (value_of m)) j (ifb (eqb (mark_of b) (value_of n)) k 0)) b

-- the two checks on a lone record, on its own mark m and its own length n
unfoldable pub check_own : List ℕ → ℕ → List ℕ → ℕ
check_own m n b = check_for (ifb (eqb (mark_of b) (value_of m)) n 0) b

-- the bytes of an accepted record; none of a refused one
abbrev pub accepted : ℕ → List ℕ → List ℕ
accepted refusal b = ifb (eqb refusal 0) b []

-- bytes of n in number; none where they are more or fewer
abbrev pub sized : ℕ → List ℕ → List ℕ
sized n b = ifb (eqb (length b) n) b []
