-- Over every run of a server from a fresh table: a fresh desk of one of its seats accepts every notice and view that
-- is for the seat, in every room, whatever it hears of the other rooms in between; and its sync records count, per
-- room.
use mathlib.Core.Path.{◌≡◌, refl, ap}
use mathlib.Core.Bool.{Bool, true, false}
use mathlib.Core.List.{List, [], ◌∷◌, ◌++◌, map}
use Prim.Native.Nat.{ℕ, zero, suc, ◌<◌}
use native.Mathlib.Omega.{arith}
use native.Mathlib.Decide.{ℕ_discrete, dec_lt}
use lib.ListN.{take}
use borrow.Author.Tests.{le-leb, eq-eqb, ne_eqb}
use Rattle.laws.specs.Lists.{Every, none, more}
use Rattle.laws.proofs.Lists.{◌then◌, every_append}
use Rattle.seats.specs.Seats.{seat_count}
use Rattle.seats.specs.Offices.{office_of}
use Rattle.records.specs.Numbers.{room_count}
use Rattle.records.specs.Layout.{room_of}
use Rattle.records.proofs.RoundTrip.{notice_room, proposal_room, view_room}
use Rattle.records.specs.declared.View.{View}
use Rattle.rules.specs.Rules.{Written, notice, proposal, view, fresh}
use Rattle.rules.specs.Leaving.{actions_from, left_in}
use Rattle.rules.specs.Refusals.{bytes_of}
use Rattle.rules.specs.Tables.{Table, fresh_table, RoomEvent, room_check, take_table}
use Rattle.rule_laws.proofs.Steps.{reading_facts}
use Rattle.rule_laws.proofs.Tables.{take_table_by}
use Rattle.runs.specs.Office.{OfSeats, log_of, sent_in}
use Rattle.rooms.specs.Roomed.{Roomed, roomed, of_room, room_bytes}
use Rattle.rooms.specs.Handing.{Handed, answer_table, next_table, table_sent, inputs_in}
use Rattle.rooms.specs.Server.{Server, ServerTurn, serves_all, stops_after, served_at, done_by, next_server}
use Rattle.rooms.specs.Server.{fresh_server, server_left, turns_in}
use Rattle.rooms.proofs.Isolation.{room_run, inputs_every}
use Rattle.rooms.proofs.Server.{server_handed, fresh_served, room_turns}
use Rattle.desk.specs.Hearing.{fresh_desk}
use Rattle.desk.specs.Rooms.{fresh_rooms}
use Rattle.desk_runs.specs.Sent.{for_seat, sent_to, hearings}
use Rattle.desk_runs.specs.Syncs.{SyncIn}
use Rattle.desk_runs.specs.Rooms.{rooms_hearings, heard_in, answers_in}
use Rattle.desk_runs.specs.RoomsSent.{sent_to_desk}
use Rattle.desk_runs.proofs.Runs.{every_accepted}
use Rattle.desk_runs.proofs.Turns.{turns_accepted}
use Rattle.desk_runs.proofs.Syncs.{sync_counts}
use Rattle.desk_runs.proofs.Rooms.{accepted_in, sync_for, all_answers}

-- the bytes of a record name its room
pub bytes_room : (room : ℕ) (w : Written) → room_of (bytes_of room w) ≡ room
bytes_room room (notice n) = notice_room room n
bytes_room room (proposal p) = proposal_room room p
bytes_room room (view v) = view_room room v

-- Of the records that a server sends in all rooms those of one room, heard as they are sent.
module _ (seat : ℕ) where
  heard_sent : (room : ℕ) (l : List (Roomed Written))
      → heard_in room (map room_bytes (sent_to_desk seat l)) ≡ map (bytes_of room) (sent_to seat (of_room room l))
  unfolding heard_in sent_to_desk sent_to of_room
  heard_sent room [] = refl
  heard_sent room (x ∷ l) = go (heard_sent room l) (for_seat seat x.what) refl (ℕ_discrete x.room room)
    where
      go : heard_in room (map room_bytes (sent_to_desk seat l)) ≡ map (bytes_of room) (sent_to seat (of_room room l))
          → (f : Bool) → for_seat seat x.what ≡ f → Dec (x.room ≡ room)
          → heard_in room (map room_bytes (sent_to_desk seat (x ∷ l)))
          ≡ map (bytes_of room) (sent_to seat (of_room room (x ∷ l)))
      go h true f (yes q) =
          rw (f, bytes_room x.room x.what, eq-eqb x.room room q, f)
          (ap (λ (k : ℕ). bytes_of k x.what) q then h)
      go h true f (no n) = rw (f, bytes_room x.room x.what, ne_eqb x.room room n) h
      go h false f (yes q) = rw (f, eq-eqb x.room room q, f) h
      go h false f (no n) = rw (f, ne_eqb x.room room n) h

  low_sent : (l : List (Roomed Written)) → Every (λ x. x.room < room_count) l
      → Every (λ b. room_of b < room_count) (map room_bytes (sent_to_desk seat l))
  unfolding sent_to_desk
  low_sent [] none = none
  low_sent (x ∷ l) (more h hs) = go (low_sent l hs) (for_seat seat x.what) refl
    where
      go : Every (λ b. room_of b < room_count) (map room_bytes (sent_to_desk seat l))
          → (f : Bool) → for_seat seat x.what ≡ f
          → Every (λ b. room_of b < room_count) (map room_bytes (sent_to_desk seat (x ∷ l)))
      go later true f =
          let k : room_of (room_bytes x) < room_count = rw (bytes_room x.room x.what) h in
          rw f (more k later)
      go later false f = rw f later

  -- a server sends records of the eight rooms, of each such that a fresh desk of that room alone accepts those for the
  -- seat: then a fresh desk accepts all that are for the seat
  pub all_rooms_accepted : (l : List (Roomed Written)) → Every (λ x. x.room < room_count) l
      → ((room : ℕ) → room < room_count
      → Every (λ h. h.refusal ≡ 0) (hearings room (fresh_desk seat) (sent_to seat (of_room room l))))
      → Every (λ h. h.refusal ≡ 0) (rooms_hearings (fresh_rooms seat) (map room_bytes (sent_to_desk seat l)))
  all_rooms_accepted l low each =
      all_answers (fresh_rooms seat) _ (low_sent l low)
      (λ room k. accepted_in room seat _ _ (heard_sent room l) (each room k))

-- every record names one of the eight rooms
abbrev InRooms : List (Roomed Written) → Type 0
InRooms = Every (λ x. x.room < room_count)

all_in : (room : ℕ) → room < room_count → (ws : List Written) → InRooms (roomed room ws)
all_in room l [] = none
all_in room l (w ∷ ws) = more l (all_in room l ws)

-- an event of no room sends nothing
none_written : (office : ℕ) (t : Table) (e : RoomEvent) (output : ℕ) → (e.room < room_count → ⊥)
    → (take_table office t e output).written ≡ []
none_written office t e output n = take_table_by t e output office (λ q. q.written ≡ []) (λ d. refl) (λ z. absurd (
    let f = ((reading_facts office (room_check e.room) e.what).0 z).1 in
    let g : room_check e.room ≡ 20 = rw (le-leb room_count e.room (omega arith)) in
    omega arith))

answer_in : (t : Table) (h : Handed) → InRooms (roomed h.event.room (answer_table t h).written)
unfolding answer_table
answer_in t h = go (dec_lt h.event.room room_count)
  where
    go : Dec (h.event.room < room_count)
        → InRooms (roomed h.event.room (take_table h.office t h.event h.output).written)
    go (yes l) = all_in h.event.room l (take_table h.office t h.event h.output).written
    go (no n) = rw (none_written h.office t h.event h.output n) none

sent_in_lem : (t : Table) (hs : List Handed) → InRooms (table_sent t hs)
unfolding table_sent
sent_in_lem t [] = none
sent_in_lem t (h ∷ hs) = every_append (answer_in t h) (sent_in_lem (next_table t h) hs)

-- nor does a server that is handed it, cut off or not
done_none : (s : Server) (u : ServerTurn) → ((served_at u).event.room < room_count → ⊥) → left_in (done_by s u) ≡ []
unfolding done_by answer_table actions_from left_in
done_none s (serves_all h) n = rw (none_written h.office s.table h.event h.output n)
done_none s (stops_after h k) n = rw (none_written h.office s.table h.event h.output n) (no_more k)
  where
    no_more : (k : ℕ) → left_in (take k []) ≡ []
    no_more zero = refl
    no_more (suc k) = refl

left_in_lem : (own : ℕ) (s : Server) (us : List ServerTurn) → InRooms (server_left own s us)
unfolding server_left
left_in_lem own s [] = none
left_in_lem own s (u ∷ us) =
    every_append (go (dec_lt (served_at u).event.room room_count)) (left_in_lem own (next_server own s u) us)
  where
    go : Dec ((served_at u).event.room < room_count) → InRooms (roomed (served_at u).event.room (left_in (done_by s u)))
    go (yes l) = all_in (served_at u).event.room l (left_in (done_by s u))
    go (no n) = rw (done_none s u n) none

module _ (seat : ℕ) (lt : seat < seat_count) where
  abbrev own : ℕ
  own = office_of seat

  own_lt : own < 16
  unfolding office_of
  own_lt = omega arith

  -- between restarts
  module _ (hs : List Handed) (y : Every (λ h. OfSeats h.event.what) hs) where
    abbrev sent : List (Roomed Written)
    sent = table_sent (fresh_table own) hs

    module _ (room : ℕ) (in_room : room < room_count) where
      run_is : of_room room sent ≡ sent_in (log_of (fresh own) (inputs_in room hs))
      run_is = (room_run room in_room (fresh_table own) (fresh_served own own_lt room in_room).passes hs).sent

      alone : Every (λ h. h.refusal ≡ 0) (hearings room (fresh_desk seat) (sent_to seat (of_room room sent)))
      alone = rw run_is
          (every_accepted room in_room seat lt (inputs_in room hs) (inputs_every room (λ i. OfSeats i.event) hs y))

      -- every record sent to the seat in a room is accepted, whatever the desk hears of the other rooms
      pub room_accepts : (heard : List (List ℕ))
          → heard_in room heard ≡ map (bytes_of room) (sent_to seat (of_room room sent))
          → Every (λ n. n ≡ 0) (answers_in room (fresh_rooms seat) heard)
      room_accepts heard e = accepted_in room seat heard _ e alone

      -- the sync record that the desk makes for a room when it has heard there what comes before a view counts for
      -- that view
      pub room_syncs : (heard : List (List ℕ)) (before later : List Written) (v : View)
          → sent_to seat (of_room room sent) ≡ before ++ (view v ∷ later)
          → heard_in room heard ≡ map (bytes_of room) before → SyncIn room seat heard v
      room_syncs heard before later v e h =
          sync_for room seat heard before h in_room v
          (sync_counts room in_room seat lt (inputs_in room hs) (inputs_every room (λ i. OfSeats i.event) hs y)
          before later v (rw run_is at e))

    -- so are all that are sent to the seat, in the order sent, the rooms interleaved as they come
    pub desk_accepts : Every (λ h. h.refusal ≡ 0)
        (rooms_hearings (fresh_rooms seat) (map room_bytes (sent_to_desk seat sent)))
    desk_accepts = all_rooms_accepted seat sent (sent_in_lem (fresh_table own) hs) alone

  -- where the server may be cut off after any byte written to its file, which the rooms share, and after any record of
  -- any room that left; the desk is not told of the restart
  module _ (us : List ServerTurn) (y : Every (λ u. OfSeats (served_at u).event.what) us) where
    abbrev left : List (Roomed Written)
    left = server_left own (fresh_server own) us

    module _ (room : ℕ) (in_room : room < room_count) where
      -- what leaves in a room is heard by the seat of that room alone
      pub left_alone : Every (λ h. h.refusal ≡ 0) (hearings room (fresh_desk seat) (sent_to seat (of_room room left)))
      left_alone =
          let x = room_turns own own_lt room in_room us in
          rw x.0 (turns_accepted room in_room seat lt (turns_in own room (fresh_server own) us)
          (server_handed own room (λ h. OfSeats h.event) (fresh_server own) us y) x.1)

      pub room_accepts_with_cuts : (heard : List (List ℕ))
          → heard_in room heard ≡ map (bytes_of room) (sent_to seat (of_room room left))
          → Every (λ n. n ≡ 0) (answers_in room (fresh_rooms seat) heard)
      room_accepts_with_cuts heard e = accepted_in room seat heard _ e left_alone

    pub desk_accepts_with_cuts : Every (λ h. h.refusal ≡ 0)
        (rooms_hearings (fresh_rooms seat) (map room_bytes (sent_to_desk seat left)))
    desk_accepts_with_cuts = all_rooms_accepted seat left (left_in_lem own (fresh_server own) us) left_alone
