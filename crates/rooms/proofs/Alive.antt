-- The settling rule at work in a room: a list with files in which two rooms go on side by side. Seat 0 is of office 0,
-- seat 4 of office 1; {0, 4} is 17.
use mathlib.Core.Path.{◌≡◌, refl, ap, subst}
use mathlib.Core.Bool.{Bool, true, ◌&&◌}
use mathlib.Core.List.{List, [], ◌∷◌}
use Prim.Native.Nat.{ℕ, ◌<◌}
use native.Mathlib.Omega.{arith}
use lib.Dec.{ltb}
use borrow.Author.Tests.{ltb-true}
use Rattle.laws.specs.Lists.{Every, none, more}
use Rattle.laws.proofs.Fin.{and_l, and_r}
use Rattle.records.specs.declared.View.{View}
use Rattle.rules.specs.Refusals.{full_room}
use Rattle.rules.specs.Tables.{fresh_table}
use Rattle.rule_laws.proofs.Steps.{fresh_well}
use Rattle.rule_laws.proofs.Tables.{well_rooms}
use Rattle.runs.specs.World.{Item, loss, cut, nothing_begun}
use Rattle.runs.specs.Plays.{report_of, join, leave, hand, three}
use Rattle.settling.specs.Statement.{OutAndBack, Assumed, AllReported, Settled, Settles}
use Rattle.settling.specs.Scenarios.{Scenario, state_in, link_in, change_at, Summary, summary, no_view, sent_at}
use Rattle.settling.proofs.Scenarios.{meets_all, meets_cuts, reported}
use Rattle.rooms.specs.Roomed.{Roomed, of_room}
use Rattle.rooms.specs.RoomWorld.{report_begun, RoomsEvent}
use Rattle.rooms.specs.RoomFiles.{RoomFileEvent, reports_in, delivers_in, loses_in, cuts_in, office_in, plainly_in}
use Rattle.rooms.specs.RoomFiles.{filed_rooms}
use Rattle.rooms.specs.Statement.{RoomsBegin, list_in}
use Rattle.rooms.proofs.FilesAbove.{plainly_at}
use Rattle.rooms.proofs.Settling.{settles_in_room}
use Rattle.rooms.proofs.RoomDays.{joins, seen_by, filed_by}

abbrev links : ℕ → ℕ → List (Roomed Item)
links i j = []

-- a report of joining and of leaving seats in a room, and a delivery, with full output
abbrev changes : ℕ → ℕ → ℕ → ℕ → RoomFileEvent
changes o room joining leaving = reports_in o room (report_of joining leaving) full_room

abbrev hands : ℕ → ℕ → RoomFileEvent
hands i j = delivers_in i j full_room

-- the events of a list are at the sixteen offices
abbrev below : List RoomFileEvent → Bool
below [] = true
below (x ∷ fs) = ltb (office_in x) 16 && below fs

-- Office 0 is told in room 0, office 1 in room 1, and office 0 takes office 1's proposal. Then it is cut off, in a
-- report of room 0 of which the notice has left: both rooms begin again at 1,000,001, and in room 1 the proposal is
-- gone. It is told in room 1 and proposes; its proposal of room 0 is delivered, then that of room 1. Office 1 is told
-- in room 1 that seat 0 left (event 7), in room 0 of both seats (event 8), in room 1 that seat 0 joined again (event
-- 9). Its proposal of room 0 is lost, and three more deliveries are all of room 1.
abbrev two_rooms : List RoomFileEvent
two_rooms =
    changes 0 0 17 0 ∷ changes 1 1 17 0 ∷ hands 1 0 ∷ cuts_in 0 (report_begun 0 (joins 256) full_room) 1
    ∷ changes 0 1 17 0 ∷ hands 0 1 ∷ hands 0 1 ∷ changes 1 1 0 1 ∷ changes 1 0 17 0 ∷ changes 1 1 1 0 ∷ loses_in 1 0 0
    ∷ hands 1 0 ∷ hands 0 1 ∷ hands 1 0 ∷ []

abbrev plain : List RoomsEvent
plain = plainly_in (filed_rooms fresh_table links (λ i. [])) two_rooms

-- the list as room 1 sees it
abbrev room_1 : Scenario
room_1 =
    record {
      set = 17;
      begun = [];
      posted = [];
      events =
          loss 0 1 0 ∷ join 1 17 ∷ hand 1 0 ∷ cut 0 nothing_begun 1 1_000_001 ∷ join 0 17 ∷ loss 0 1 1 ∷ hand 0 1
          ∷ leave 1 1 ∷ loss 0 1 0 ∷ join 1 1 ∷ loss 1 0 1 ∷ hand 1 0 ∷ hand 0 1 ∷ hand 1 0 ∷ [];
    }

room_1_seen : list_in fresh_table links plain 1 ≡ room_1.events
unfolding filed_by seen_by
room_1_seen = refl

-- one proposal of room 1 is on its way at the point of the rule, and three deliveries follow
room_1_summary :
    summary room_1
    ≡ record {
      fails = [];
      point = 10;
      way_count = 1;
      offices = 2;
      bound = 7;
      delivered = 3;
      answers = 0 ∷ 0 ∷ 0 ∷ 0 ∷ 0 ∷ 0 ∷ 0 ∷ 0 ∷ 0 ∷ [];
      left = 0;
      views = sent_at 13 1_000_005 17 (three 1_000_002 1_000_004 0)
          ∷ sent_at 12 1_000_005 17 (three 1_000_002 1_000_004 0) ∷ no_view ∷ [];
    }
unfolding summary
room_1_summary = refl

-- So every hypothesis of the rule holds of it in room 1,
pub room_1_assumed : Assumed 17 (state_in []) (link_in []) room_1.events (change_at room_1).place
unfolding summary
room_1_assumed = meets_all room_1 (ap (λ (s : Summary). s.fails) room_1_summary)

pub room_1_reported : AllReported 17 (state_in []) (link_in []) room_1.events (change_at room_1).place 10
unfolding summary
room_1_reported = reported room_1 1 refl

pub room_1_cuts : OutAndBack 17 (state_in []) (link_in []) room_1.events (change_at room_1).place
unfolding summary
room_1_cuts = (meets_cuts room_1 (ap (λ (s : Summary). s.fails) room_1_summary)).0

begins : RoomsBegin fresh_table links plain
begins =
    record {
      tables_pass = λ i l. well_rooms (fresh_table i) (λ k b. fresh_well i l);
      offices = plainly_at (λ o. o < 16) (filed_rooms fresh_table links (λ i. [])) two_rooms (all_below two_rooms refl);
    }
  where
    all_below : (fs : List RoomFileEvent) → below fs ≡ true → Every (λ e. office_in e < 16) fs
    all_below [] e = none
    all_below (x ∷ fs) e =
        more (ltb-true (office_in x) 16 (and_l (ltb (office_in x) 16) (below fs) e))
        (all_below fs (and_r (ltb (office_in x) 16) (below fs) e))

-- and the rule speaks of it: at the end the offices have settled in room 1.
room_1_rule : Settles 17 (state_in []) (link_in []) room_1.events
unfolding of_room
room_1_rule =
    subst (Settles 17 (state_in []) (link_in [])) room_1_seen
    (settles_in_room fresh_table links 1 (omega arith) (λ i. []) two_rooms 17 begins (λ i o. refl)).0.holds

pub room_1_settles :
    (v : View) × Settled 17 (state_in []) (link_in []) room_1.events (change_at room_1).place 14 v
unfolding summary
room_1_settles =
    (room_1_rule (change_at room_1).place 10 room_1_assumed room_1_cuts room_1_reported).1 14
    (omega arith) (omega arith) refl
