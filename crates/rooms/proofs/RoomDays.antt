-- Rooms, computed: two offices and two rooms. What each room sees of a list of events, what a file that the rooms
-- share makes of a cut, and what leaves one server in each room.
use mathlib.Core.Path.{◌≡◌, refl}
use mathlib.Core.List.{List, [], ◌∷◌, ◌++◌}
use Prim.Native.Nat.{ℕ}
use lib.ListN.{length}
use Rattle.laws.specs.Lists.{runs, pieces}
use Rattle.laws.specs.Upd.{ifb}
use Rattle.laws.proofs.Lists.{◌then◌}
use lib.Dec.{eqb}
use Rattle.records.specs.Layout.{encode_high, decode_high}
use Rattle.records.specs.declared.Report.{Report}
use Rattle.rules.specs.MarkFile.{last_in, last_high, all_high, is_high, may_follow, good_file, high_bytes}
use Rattle.rules.specs.Leaving.{puts_all, actions_from, file_after, left_in}
use Rattle.rules.specs.Refusals.{full_room, a_report, restart_checks, restart_of}
use Rattle.rules.specs.Tables.{Table, fresh_table, restarted_table, well_table, restart_table, barred, act_table}
use Rattle.rules.specs.Tables.{take_table}
use Rattle.rules.specs.Days.{given}
use Rattle.runs.specs.Office.{of_proposal, of_notice, picked, entire, broken}
use Rattle.runs.specs.World.{WorldEvent, report, delivery, loss, cut, nothing_begun, begun_report, begun_delivery}
use Rattle.runs.specs.Plays.{report_of}
use Rattle.rooms.specs.Roomed.{of_room}
use Rattle.rooms.specs.Handing.{Handed, answer_table, input_of}
use Rattle.rooms.specs.Server.{ServerTurn, serves_all, stops_after, done_by, turn_in, next_server, fresh_server}
use Rattle.rooms.specs.Server.{server_after, server_left, turns_in}
use Rattle.rooms.specs.RoomWorld.{rooms_first, none_begun, report_begun, delivery_begun, RoomsEvent, room_report}
use Rattle.rooms.specs.RoomWorld.{room_delivery, room_loss, room_cut, answered_in, with_link_in, idle_in}
use Rattle.rooms.specs.RoomWorld.{report_answer_in, proposal_answer_in, begun_room, begun_writes_in, taken_up_in}
use Rattle.rooms.specs.RoomWorld.{cut_answer_in, next_in, RoomWorld, rooms_at}
use Rattle.rooms.specs.RoomFiles.{RoomFileEvent, reports_in, delivers_in, cuts_in, done_in, next_filed_in, plainly_in}
use Rattle.rooms.specs.RoomFiles.{filed_rooms}
use Rattle.rooms.specs.Projection.{seen_in, begun_seen, event_in, events_in}

abbrev pub joins : ℕ → Report
joins x = report_of x 0

-- what a room sees of a list from fresh tables; who unfolds this unfolds the world of rooms
unfoldable pub seen_by : ℕ → List RoomsEvent → List WorldEvent
unfolding given take_table act_table barred well_table of_room answered_in with_link_in idle_in report_answer_in
    proposal_answer_in begun_room begun_writes_in taken_up_in cut_answer_in next_in seen_in begun_seen event_in
    events_in
seen_by k es = events_in k (rooms_first fresh_table (λ i j. [])) es

-- Office 0 is told of the seats 0 and 4 in room 0 and in room 1, then of seat 8 in room 1: three proposals are on the
-- link to office 1. The second is lost, the first delivered. Office 0 is cut off when it is told in room 0 and the
-- notice has left, office 1 when it has taken up the third. Then nothing is there to deliver, and rooms 7 and 8 are
-- told.
abbrev played : List RoomsEvent
played =
    room_report 0 0 (joins 0b10001) full_room ∷ room_report 0 1 (joins 0b10001) full_room
    ∷ room_report 0 1 (joins 0b100000000) full_room ∷ room_loss 0 1 1 ∷ room_delivery 0 1 full_room
    ∷ room_cut 0 (report_begun 0 (joins 0b100000000) full_room) 1 7 ∷ room_cut 1 (delivery_begun 0 full_room) 0 7
    ∷ room_delivery 0 1 full_room ∷ room_report 1 7 (joins 1) full_room ∷ room_report 1 8 (joins 1) full_room ∷ []

pub seen_in_0 :
    seen_by 0 played
    ≡ report 0 (joins 0b10001) full_room ∷ loss 0 1 1 ∷ loss 0 1 1 ∷ loss 0 1 1 ∷ delivery 0 1 full_room
    ∷ cut 0 (begun_report (joins 0b100000000) full_room) 1 7 ∷ cut 1 nothing_begun 0 7 ∷ delivery 0 1 full_room
    ∷ loss 0 1 0 ∷ loss 0 1 0 ∷ []
unfolding seen_by
seen_in_0 = refl

pub seen_in_1 :
    seen_by 1 played
    ≡ loss 0 1 0 ∷ report 0 (joins 0b10001) full_room ∷ report 0 (joins 0b100000000) full_room ∷ loss 0 1 0 ∷ loss 0 1 1
    ∷ cut 0 nothing_begun 1 7 ∷ cut 1 (begun_delivery 0 full_room) 0 7 ∷ delivery 0 1 full_room ∷ loss 0 1 0
    ∷ loss 0 1 0
    ∷ []
unfolding seen_by
seen_in_1 = refl

-- of office 0 in a room: proposal, start and view number, the net view, how many proposals are on the link to office 1
-- and how many records left
abbrev shown : RoomWorld → ℕ → List ℕ
shown w k =
    let s = w.table 0 k in
    s.number ∷ s.start ∷ s.view.number ∷ s.net.bits ∷ length (of_room k (w.link 0 1))
    ∷ length (of_room k (w.log 0)) ∷ []

abbrev point : ℕ → RoomWorld
point n = rooms_at (rooms_first fresh_table (λ i j. [])) played n

-- in rooms 0, 1 and 2 after the three reports, and after the loss, the delivery and the cut of office 0
pub rooms_of_0 :
    shown (point 3) 0 ∷ shown (point 3) 1 ∷ shown (point 3) 2 ∷ shown (point 6) 0 ∷ shown (point 6) 1
    ∷ shown (point 6) 2 ∷ []
    ≡ (1 ∷ 1 ∷ 0 ∷ 17 ∷ 1 ∷ 2 ∷ []) ∷ (2 ∷ 2 ∷ 0 ∷ 273 ∷ 2 ∷ 4 ∷ []) ∷ (0 ∷ 0 ∷ 0 ∷ 0 ∷ 0 ∷ 0 ∷ [])
    ∷ (7 ∷ 7 ∷ 7 ∷ 0 ∷ 0 ∷ 3 ∷ []) ∷ (7 ∷ 7 ∷ 7 ∷ 0 ∷ 1 ∷ 4 ∷ []) ∷ (7 ∷ 7 ∷ 7 ∷ 0 ∷ 0 ∷ 0 ∷ []) ∷ []
unfolding seen_by runs
rooms_of_0 = refl then refl then refl then refl then refl then refl then refl

-- The events that a list with files is, the files empty at first; who unfolds this unfolds what a server does to its
-- file.
unfoldable pub filed_by : (ℕ → Table) → List RoomFileEvent → List RoomsEvent
unfolding seen_by plainly_in next_filed_in done_in actions_from puts_all file_after left_in high_bytes encode_high
    decode_high pieces last_in last_high
filed_by tables fs = plainly_in (filed_rooms tables (λ i j. []) (λ i. [])) fs

-- Office 0 begins at 1,500,000 in every room, office 1 is fresh; both are told in room 1. A report of office 1 writes
-- a mark of 1,000,001; the view that it sends when it takes office 0's proposal has number 1,500,002, so a mark goes
-- before it. So office 1 begins again above that, also where it is cut off in room 0.
abbrev uneven : ℕ → Table
uneven i = restarted_table i (ifb (eqb i 0) 1_500_000 0)

pub marks_of_all_rooms :
    filed_by uneven
    (reports_in 0 1 (joins 0b10001) full_room ∷ reports_in 1 1 (joins 0b10001) full_room ∷ cuts_in 3 none_begun 0
    ∷ delivers_in 0 1 full_room ∷ cuts_in 1 (report_begun 0 (joins 0b10001) full_room) 0
    ∷ cuts_in 1 (report_begun 0 (joins 0b10001) full_room) 11 ∷ cuts_in 1 none_begun 5 ∷ [])
    ≡ room_report 0 1 (joins 0b10001) full_room ∷ room_report 1 1 (joins 0b10001) full_room ∷ room_cut 3 none_begun 0 0
    ∷ room_delivery 0 1 full_room ∷ room_cut 1 (report_begun 0 (joins 0b10001) full_room) 0 2_500_002
    ∷ room_cut 1 (report_begun 0 (joins 0b10001) full_room) 1 3_500_003 ∷ room_cut 1 none_begun 0 3_500_003 ∷ []
unfolding filed_by
marks_of_all_rooms = refl

-- One server: it is told in room 0, and again in room 1, where it is cut off when the notice has left; then it is told
-- in both rooms.
abbrev told : ℕ → Handed
told room = record { office = 0; event = record { room = room; what = a_report (joins 0b10001) }; output = full_room }

abbrev turns : List ServerTurn
turns = serves_all (told 0) ∷ stops_after (told 1) 1 ∷ serves_all (told 1) ∷ serves_all (told 0) ∷ []

-- the start numbers and the proposal numbers that left in a room
abbrev left_of : ℕ → List (List ℕ)
left_of k =
    let ws = of_room k (server_left 0 (fresh_server 0) turns) in picked of_notice ws ∷ picked of_proposal ws ∷ []

pub left_in_rooms :
    left_of 0 ∷ left_of 1 ∷ left_of 2 ∷ ((server_after 0 (fresh_server 0) turns).file ∷ []) ∷ []
    ≡ ((1 ∷ 1_000_002 ∷ []) ∷ (1 ∷ 1_000_002 ∷ []) ∷ []) ∷ ((1 ∷ 1_000_002 ∷ []) ∷ (1_000_002 ∷ []) ∷ [])
    ∷ ([] ∷ [] ∷ []) ∷ ((high_bytes 1_000_001 ++ high_bytes 2_000_002) ∷ []) ∷ []
unfolding given take_table act_table barred well_table restart_table restart_of restart_checks answer_table done_by
    next_server server_left of_room picked runs actions_from puts_all file_after left_in good_file all_high is_high
    may_follow high_bytes encode_high decode_high pieces last_in last_high
left_in_rooms = refl then refl then refl then refl then refl

-- the turns of one office that they are
pub turns_in_rooms :
    turns_in 0 0 (fresh_server 0) turns ∷ turns_in 0 1 (fresh_server 0) turns ∷ []
    ≡ (entire (input_of (told 0)) ∷ broken (input_of (told 1)) 0 1_000_001 ∷ entire (input_of (told 0)) ∷ [])
    ∷ (broken (input_of (told 1)) 1 1_000_001 ∷ entire (input_of (told 1)) ∷ []) ∷ []
unfolding given take_table act_table barred well_table restart_table restart_of restart_checks answer_table done_by
    next_server turn_in turns_in actions_from puts_all file_after left_in good_file all_high is_high may_follow
    high_bytes encode_high decode_high pieces last_in last_high
turns_in_rooms = refl then refl then refl
