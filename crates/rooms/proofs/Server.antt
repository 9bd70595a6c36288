-- One server and its file, which the rooms share: cut off after any byte written to it and any record of any room that
-- left, it gives out no number twice in any room, and its own file is never refused.
use mathlib.Core.Path.{◌≡◌, refl, sym, ap, subst, ◌∙◌}
use mathlib.Core.Bool.{true}
use mathlib.Core.Logic.{◌⊎◌, inl, inr}
use mathlib.Core.List.{List, [], ◌∷◌, ◌++◌, append-nil}
use Prim.Native.Nat.{ℕ, ◌≤◌, ◌<◌}
use native.Mathlib.Omega.{arith}
use native.Mathlib.Decide.{ℕ_discrete}
use lib.Dec.{eqb}
use lib.ListN.{length, take}
use borrow.Author.Tests.{eq-eqb, ne_eqb}
use Rattle.laws.specs.Lists.{runs, Every, none, more}
use Rattle.laws.proofs.Fin.{if_cases}
use Rattle.laws.proofs.Lists.{every_append}
use Rattle.records.specs.Numbers.{limit, room_count}
use Rattle.rules.specs.State.{State}
use Rattle.rules.specs.Rules.{Written, fresh, restarted}
use Rattle.rules.specs.MarkFile.{file_limit, last_high, good_file}
use Rattle.rules.specs.Leaving.{largest_in, own_number, actions_of, file_after, left_in}
use Rattle.rules.specs.Refusals.{Made, take_of, Result}
use Rattle.rules.specs.Tables.{Table, fresh_table, restarted_table, well_table, MadeTable, restart_table, RoomEvent}
use Rattle.rules.specs.Tables.{take_table}
use Rattle.rule_laws.proofs.MarkFile.{good_length}
use Rattle.rule_laws.proofs.Parts.{fresh_reads, restarted_reads}
use Rattle.rule_laws.proofs.Steps.{fresh_well, restarted_well}
use Rattle.rule_laws.proofs.Leaving.{take_largest, no_marks_lem, order_passes, Covering, covering_above, part_covers}
use Rattle.rule_laws.proofs.Leaving.{all_covers}
use Rattle.rule_laws.proofs.Tables.{well_rooms, table_written}
use Rattle.runs.specs.Office.{Input, answer_to, next_state, Turn, entire, broken, handed_at, left_at, next_turn}
use Rattle.runs.specs.Office.{left_over, TurnAbove, TurnsAbove, no_turn, a_turn, NumbersOnce}
use Rattle.runs.proofs.OfficeViews.{answer_ends}
use Rattle.runs.proofs.OfficeGiven.{numbers_once}
use Rattle.runs.proofs.FilesOnce.{good_restart}
use Rattle.rooms.specs.Roomed.{Roomed, roomed, of_room}
use Rattle.rooms.specs.Handing.{Handed, answer_table, next_table, input_of}
use Rattle.rooms.specs.Server.{Server, ServerTurn, serves_all, stops_after, served_at, done_by, file_by, turn_in}
use Rattle.rooms.specs.Server.{next_server, fresh_server, server_after, server_left, turns_in}
use Rattle.rooms.proofs.Roomed.{every_roomed, room_append, room_same, room_other, room_every}
use Rattle.rooms.proofs.Isolation.{handed_here, handed_there, next_well}

-- no number of a record that a table writes is above L
pub table_largest : (office : ℕ) (t : Table) (e : RoomEvent) (output : ℕ)
    → Every (λ w. largest_in w ≤ limit) (take_table office t e output).written
table_largest office t e output = go (table_written t e output office)
  where
    go : ((take_table office t e output).written ≡ [])
        ⊎ ((take_table office t e output).written ≡ (take_of office (t e.room) e.what output).written)
        → Every (λ w. largest_in w ≤ limit) (take_table office t e output).written
    go (inl z) = rw z none
    go (inr z) = rw z (take_largest office (t e.room) e.what output)

-- a good file is never refused: every room begins again at its last mark
pub good_table : (own : ℕ) (f : List ℕ) → own < 16 → good_file f ≡ true
    → restart_table own f ≡ record { refusal = 0; table = restarted_table own (last_high f) }
unfolding restart_table
good_table own f lt g =
    ap {B = MadeTable} (λ (m : Made). record { refusal = m.refusal; table = λ room. m.state })
    (good_restart own f lt g)

-- what is handed at the turns that a room sees
pub server_handed : (own k : ℕ) (I : Input → Type 0) (s : Server) (us : List ServerTurn)
    → Every (λ u. I (input_of (served_at u))) us → Every (λ t. I (handed_at t)) (turns_in own k s us)
unfolding turns_in turn_in
server_handed own k I s [] none = none
server_handed own k I s (u ∷ us) (more i is) =
    every_append (one u i) (server_handed own k I (next_server own s u) us is)
  where
    one : (u : ServerTurn) → I (input_of (served_at u)) → Every (λ t. I (handed_at t)) (turn_in k s u)
    one (serves_all h) i =
        if_cases (Every (λ t. I (handed_at t))) (eqb h.event.room k) (entire (input_of h) ∷ []) [] (λ e. more i none)
        (λ e. none)
    one (stops_after h n) i = more i none

-- a server of office own, seen in room k
module _ (own : ℕ) (lt : own < 16) (k : ℕ) (lk : k < room_count) where
  -- its table passes check 2, and its file covers all that has left in any room
  pub record WellServed (s : Server) (l : List (Roomed Written)) : Type 0 where
    pub passes : well_table s.table ≡ true
    pub office : (s.table k).own ≡ own
    pub covers : Covering (λ x. x.what) s.file l

  module _ (s : Server) (l : List (Roomed Written)) (c : WellServed s l) where
    -- what has left after a turn
    abbrev left_now : ServerTurn → List (Roomed Written)
    left_now u = l ++ roomed (served_at u).event.room (left_in (done_by s u))

    -- some or all of an answer leave
    module _ (h : Handed) where
      abbrev room : ℕ
      room = h.event.room

      abbrev writes : List Written
      writes = (answer_table s.table h).written

      joined : (P : Written → Type 0) (us : List Written) → Every P us → Every (λ x. P x.what) l
          → Every (λ x. P x.what) (l ++ roomed room us)
      joined P us e d = every_append d (every_roomed room e)

      low : Every (λ w. largest_in w ≤ limit) writes
      unfolding answer_table
      low = table_largest h.office s.table h.event h.output

      part_left : (n : ℕ) → let done = take n (actions_of s.file writes) in
          (left_in done ≡ take (length (left_in done)) writes)
          × Covering (λ x. x.what) (file_after s.file done) (l ++ roomed room (take (length (left_in done)) writes))
      part_left = part_covers (λ x. x.what) l (λ us. l ++ roomed room us) joined s.file writes c.covers low

      all_left : let done = actions_of s.file writes in
          (left_in done ≡ writes) × Covering (λ x. x.what) (file_after s.file done) (l ++ roomed room writes)
      all_left = all_covers (λ x. x.what) l (λ us. l ++ roomed room us) joined s.file writes c.covers low

    covers_after : (u : ServerTurn) → Covering (λ x. x.what) (file_by s u) (left_now u)
    unfolding done_by
    covers_after (serves_all h) =
        subst (λ (ws : List Written). Covering (λ x. x.what) (file_by s (serves_all h)) (l ++ roomed (room h) ws))
        (sym (all_left h).0) (all_left h).1
    covers_after (stops_after h n) =
        subst (λ (ws : List Written). Covering (λ x. x.what) (file_by s (stops_after h n)) (l ++ roomed (room h) ws))
        (sym (part_left h n).0) (part_left h n).1

    restart_is : (h : Handed) (n : ℕ) → let u = stops_after h n in
        (next_server own s u).table ≡ restarted_table own (last_high (file_by s u))
    unfolding next_server
    restart_is h n =
        let u = stops_after h n in
        ap (λ (m : MadeTable). m.table)
        (good_table own (file_by s u) lt (order_passes (file_by s u) (covers_after u).order))

    -- what left at a turn, and the table after it, in room k
    table_here : (h : Handed) → h.event.room ≡ k → next_table s.table h k ≡ next_state (s.table k) (input_of h)
    table_here h q = ap (λ (r : Result). r.state) (handed_here k lk s.table c.passes h q)

    left_here : (h : Handed) → h.event.room ≡ k
        → (answer_table s.table h).written ≡ (answer_to (s.table k) (input_of h)).written
    left_here h q = ap (λ (r : Result). r.written) (handed_here k lk s.table c.passes h q)

    pub well_after : (u : ServerTurn) → WellServed (next_server own s u) (left_now u)
    unfolding next_server
    well_after (serves_all h) =
        record {
          passes = next_well k lk s.table c.passes h;
          office = go (ℕ_discrete h.event.room k);
          covers = covers_after (serves_all h);
        }
      where
        go : Dec (h.event.room ≡ k) → (next_table s.table h k).own ≡ own
        go (yes q) =
            ap (λ (x : State). x.own) (table_here h q) ∙ (answer_ends (s.table k) (input_of h)).0.own ∙ c.office
        go (no n) = ap (λ (x : State). x.own) (handed_there k lk s.table c.passes h n) ∙ c.office
    well_after (stops_after h n) =
        let u = stops_after h n in
        let m = last_high (file_by s u) in
        let high = (covering_above (λ x. x.what) (file_by s u) (left_now u) (covers_after u)).1 in
        record {
          passes = rw (restart_is h n) (well_rooms (restarted_table own m) (λ j b. restarted_well own m lt high));
          office = rw (restart_is h n) (restarted_reads own m).own_is;
          covers = covers_after u;
        }

    -- a turn of the server is none that room k sees, or one that begins again at or above all that left there
    abbrev leaves_now : ServerTurn → List Written
    leaves_now u = of_room k (roomed (served_at u).event.room (left_in (done_by s u)))

    data TurnSeen (u : ServerTurn) : Type 0 where
      unseen : turn_in k s u ≡ [] → leaves_now u ≡ [] → (next_server own s u).table k ≡ s.table k → TurnSeen u
      one_seen : (t : Turn) → turn_in k s u ≡ t ∷ [] → leaves_now u ≡ left_at (s.table k) t
          → (next_server own s u).table k ≡ next_turn (s.table k) t → TurnAbove (s.table k) (of_room k l) t → TurnSeen u

    turn_seen : (u : ServerTurn) → TurnSeen u
    unfolding turn_in done_by
    turn_seen (serves_all h) = go (ℕ_discrete h.event.room k)
      where
        u : ServerTurn
        u = serves_all h

        go : Dec (h.event.room ≡ k) → TurnSeen u
        go (yes q) =
            one_seen (entire (input_of h)) (rw (eq-eqb h.event.room k q))
            (room_same k h.event.room q (left_in (done_by s u)) ∙ (all_left h).0 ∙ left_here h q)
            (unfold next_server in table_here h q) tt
        go (no n) =
            unseen (rw (ne_eqb h.event.room k n)) (room_other k h.event.room n (left_in (done_by s u)))
            (unfold next_server in handed_there k lk s.table c.passes h n)
    turn_seen (stops_after h n) = go (ℕ_discrete h.event.room k)
      where
        u : ServerTurn
        u = stops_after h n

        left : ℕ
        left = length (left_in (done_by s u))

        m : ℕ
        m = last_high (file_by s u)

        again : (next_server own s u).table k ≡ restarted (s.table k).own m
        again = ap (λ (t : Table). t k) (restart_is h n) ∙ ap (λ (o : ℕ). restarted o m) (sym c.office)

        -- all that left in room k is at or below m
        above : (ws : List Written) → leaves_now u ≡ ws
            → Every (λ w. own_number w ≤ m) (of_room k l ++ ws) × (m ≤ limit)
        above ws e =
            let x = covering_above (λ x. x.what) (file_by s u) (left_now u) (covers_after u) in (
              subst (Every (λ w. own_number w ≤ m))
                  (room_append k l (roomed h.event.room (left_in (done_by s u)))
                  ∙ ap (λ (v : List Written). of_room k l ++ v) e)
                  (room_every k (left_now u) x.0),
              x.1,
            )

        go : Dec (h.event.room ≡ k) → TurnSeen u
        go (yes q) =
            let e = room_same k h.event.room q (left_in (done_by s u)) ∙ (part_left h n).0
            ∙ ap (take left) (left_here h q) in
            one_seen (broken (input_of h) left m) (rw (eq-eqb h.event.room k q)) e again (above _ e)
        go (no d) =
            let e = room_other k h.event.room d (left_in (done_by s u)) in
            one_seen (broken (input_of h) 0 m) (rw (ne_eqb h.event.room k d)) e again (above _ e)

  -- the run is, in room k, one of turns that begin again at or above all that left there
  room_above : (s : Server) (l : List (Roomed Written)) (us : List ServerTurn) → WellServed s l
      → (of_room k (server_left own s us) ≡ left_over (s.table k) (turns_in own k s us))
      × TurnsAbove (s.table k) (of_room k l) (turns_in own k s us)
  unfolding server_left left_over turns_in of_room
  room_above s l [] c = (refl, no_turn)
  room_above s l (u ∷ us) c =
      go (turn_seen s l c u) (room_above (next_server own s u) (left_now s l c u) us (well_after s l c u))
    where
      next : Server
      next = next_server own s u

      now : List (Roomed Written)
      now = roomed (served_at u).event.room (left_in (done_by s u))

      ts : List Turn
      ts = turns_in own k next us

      -- the rest of the run, from another name of the state and of what has left
      Later : State → List Written → Type 0
      Later x a = (of_room k (server_left own next us) ≡ left_over x ts) × TurnsAbove x a ts

      from : (x : State) (a b : List Written) → next.table k ≡ x → of_room k now ≡ b → of_room k l ++ b ≡ a
          → Later (next.table k) (of_room k (l ++ now)) → Later x a
      from x a b e f g later =
          subst (Later x) (room_append k l now ∙ ap (λ (v : List Written). of_room k l ++ v) f ∙ g)
          (subst (λ (x : State). Later x (of_room k (l ++ now))) e later)

      go : TurnSeen s l c u → Later (next.table k) (of_room k (l ++ now))
          → (of_room k (now ++ server_left own next us) ≡ left_over (s.table k) (turn_in k s u ++ ts))
          × TurnsAbove (s.table k) (of_room k l) (turn_in k s u ++ ts)
      go (unseen z e q) later =
          let y = from (s.table k) (of_room k l) [] q e (append-nil (of_room k l)) later in
          rw z (room_append k now _ ∙ ap (λ (v : List Written). v ++ of_room k (server_left own next us)) e ∙ y.0, y.1)
      go (one_seen t z e q b) later =
          let y = from (next_turn (s.table k) t) (of_room k l ++ left_at (s.table k) t) (left_at (s.table k) t) q e refl
          later in
          rw z (
            room_append k now _ ∙ ap (λ (v : List Written). v ++ of_room k (server_left own next us)) e
                ∙ ap (λ (v : List Written). left_at (s.table k) t ++ v) y.0,
            a_turn b y.1,
          )

  well_run : (s : Server) (l : List (Roomed Written)) (us : List ServerTurn) → WellServed s l
      → (m : List (Roomed Written)) × WellServed (server_after own s us) m
  unfolding runs
  well_run s l [] c = (l, c)
  well_run s l (u ∷ us) c = well_run (next_server own s u) (left_now s l c u) us (well_after s l c u)

  -- From a fresh table and an empty file.
  pub fresh_served : WellServed (fresh_server own) []
  fresh_served =
      record {
        passes = well_rooms (fresh_table own) (λ j b. fresh_well own lt);
        office = (fresh_reads own).own_is;
        covers = record { order = no_marks_lem; covered = none };
      }

  module _ (us : List ServerTurn) where
    -- what leaves in room k is what one office's turns leave, each of which begins again at or above all that left; so
    -- every law of such turns holds of each room
    pub room_turns : let ts = turns_in own k (fresh_server own) us in
        (of_room k (server_left own (fresh_server own) us) ≡ left_over (fresh own) ts) × TurnsAbove (fresh own) [] ts
    unfolding of_room
    room_turns = room_above (fresh_server own) [] us fresh_served

    -- no number is sent twice in room k
    pub room_numbers_once : NumbersOnce (of_room k (server_left own (fresh_server own) us))
    room_numbers_once = rw room_turns.0
        (numbers_once own lt (turns_in own k (fresh_server own) us) room_turns.1)

-- The file that the rooms share, cut off wherever.
module _ (own : ℕ) (lt : own < 16) (us : List ServerTurn) where
  shared_passes : good_file (server_after own (fresh_server own) us).file ≡ true
  shared_passes =
      let x = well_run own lt 0 (omega arith) (fresh_server own) [] us (fresh_served own lt 0 (omega arith)) in
      order_passes _ x.1.covers.order

  -- it is never refused: every room begins again at its last whole mark
  pub own_file : let f = (server_after own (fresh_server own) us).file in
      restart_table own f ≡ record { refusal = 0; table = restarted_table own (last_high f) }
  own_file = good_table own _ lt shared_passes

  -- it never passes 20,010 bytes
  pub own_file_length : length (server_after own (fresh_server own) us).file ≤ file_limit
  own_file_length = good_length _ shared_passes
