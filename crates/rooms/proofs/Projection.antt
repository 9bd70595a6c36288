-- What room k shows of a world of rooms is a world of one room: every event of the one is an event of the other, which
-- for a report or a delivery of another room is a pause.
use mathlib.Core.Path.{◌≡◌, refl, sym, ap, subst, ◌∙◌}
use mathlib.Core.Bool.{Bool, true, false}
use mathlib.Core.List.{List, [], ◌∷◌, ◌++◌, append-nil}
use Prim.Native.Nat.{ℕ, zero, suc, ◌<◌, ◌≤◌}
use native.Mathlib.Omega.{arith}
use native.Mathlib.Decide.{ℕ_discrete}
use lib.Dec.{eqb}
use lib.Seq.{take-nil}
use lib.ListN.{length, take}
use borrow.Author.Tests.{eq-eqb, ne_eqb}
use Rattle.laws.specs.Lists.{runs, Every, more}
use Rattle.laws.specs.Upd.{ifb, upd}
use Rattle.laws.proofs.Upd.{upd_cases, upd_both}
use Rattle.records.specs.Numbers.{room_count}
use Rattle.records.specs.declared.Report.{Report}
use Rattle.rules.specs.State.{State}
use Rattle.rules.specs.Rules.{Written}
use Rattle.rules.specs.Refusals.{take_of, a_report, a_proposal, Result}
use Rattle.rules.specs.Tables.{Table, restarted_table, RoomEvent, TableResult, shown_in, take_table}
use Rattle.rule_laws.proofs.Tables.{others_stay}
use Rattle.runs.specs.World.{Item, SentRecord, World, nothing_begun, begun_report, begun_writes, taken_up, cut_answer}
use Rattle.runs.specs.World.{mail, logged, answered, with_link, idle, without, report_answer, proposal_answer, next}
use Rattle.rooms.specs.Roomed.{Roomed, roomed, of_room}
use Rattle.rooms.specs.RoomWorld.{RoomWorld, RoomUnderway, none_begun, report_begun, delivery_begun, RoomsEvent}
use Rattle.rooms.specs.RoomWorld.{room_report, room_delivery, room_loss, room_cut, acts_at, logged_in, answered_in}
use Rattle.rooms.specs.RoomWorld.{with_link_in, idle_in, without_in, report_answer_in, proposal_answer_in, delivered_in}
use Rattle.rooms.specs.RoomWorld.{front_room, front_writes_in, begun_room, begun_writes_in, taken_up_in, cut_answer_in}
use Rattle.rooms.specs.RoomWorld.{next_in, rooms_at}
use Rattle.rooms.specs.Projection.{seen_in, pause, front_in, is_of, place_in, front_begun, begun_seen, event_in}
use Rattle.rooms.specs.Projection.{events_in}
use Rattle.rooms.proofs.Roomed.{room_append, room_same, room_other}
use Rattle.rooms.proofs.Isolation.{Uniform, restarted_uniform, uniform_takes, uniform_next}

-- two worlds with the same entries
same_world : (a b : World) → ((i : ℕ) → a.state i ≡ b.state i) → ((i j : ℕ) → a.link i j ≡ b.link i j)
    → a.clock ≡ b.clock → ((i : ℕ) → a.log i ≡ b.log i) → a ≡ b
same_world a b s l c g = λ t. record { state = λ i. s i t; link = λ i j. l i j t; clock = c t; log = λ i. g i t }

-- a log, seen in the room of an answer and in another
log_same : (t k m : ℕ) → m ≡ k → (ws : List Written) (l : List (Roomed SentRecord))
    → of_room k (logged_in t m ws l) ≡ logged t ws (of_room k l)
unfolding of_room
log_same t k m q [] l = refl
log_same t k m q (r ∷ ws) l = log_same t k m q ws _ ∙ rw (eq-eqb m k q)

log_other : (t k m : ℕ) → (m ≡ k → ⊥) → (ws : List Written) (l : List (Roomed SentRecord))
    → of_room k (logged_in t m ws l) ≡ of_room k l
unfolding of_room
log_other t k m n [] l = refl
log_other t k m n (r ∷ ws) l = log_other t k m n ws _ ∙ rw (ne_eqb m k n)

-- an item that is not there
without_past : (n : ℕ) (l : List Item) → length l ≤ n → without n l ≡ l
without_past n [] h = refl
without_past zero (x ∷ l) h = absurd (omega arith)
without_past (suc n) (x ∷ l) h = ap (λ (m : List Item). x ∷ m) (without_past n l (omega arith))

-- a loss, seen in room k
without_place : (k n : ℕ) (l : List (Roomed Item)) → without (place_in k n l) (of_room k l) ≡ of_room k (without_in n l)
unfolding of_room
without_place k n [] = refl
without_place k zero (x ∷ l) = go (eqb x.room k) refl
  where
    go : (t : Bool) → eqb x.room k ≡ t → without (place_in k zero (x ∷ l)) (of_room k (x ∷ l)) ≡ of_room k l
    go true e = rw e
    go false e = rw e (without_past (length (of_room k l)) (of_room k l) (omega arith))
without_place k (suc n) (x ∷ l) = go (without_place k n l) (eqb x.room k) refl
  where
    -- one item of room k more in front
    further : (t : Bool) (a b : ℕ) → ifb t (suc a) (suc b) ≡ suc (ifb t a b)
    further true a b = refl
    further false a b = refl

    go : without (place_in k n l) (of_room k l) ≡ of_room k (without_in n l) → (t : Bool) → eqb x.room k ≡ t
        → without (place_in k (suc n) (x ∷ l)) (of_room k (x ∷ l)) ≡ of_room k (x ∷ without_in n l)
    go h true e =
        rw (e, further (is_of k n l) (length (of_room k (take n l))) (length (of_room k l)))
        (ap (λ (m : List Item). x.what ∷ m) h)
    go h false e = rw e h

-- an answer of office o in room m, seen in room k: what is written is seen where the rooms are one
answered_as : (k m : ℕ) (w : RoomWorld) (o : ℕ) (q : TableResult) (r : Result) → q.table k ≡ r.state
    → (m ≡ k → q.written ≡ r.written) → ((m ≡ k → ⊥) → r.written ≡ [])
    → seen_in k (answered_in w o m q) ≡ answered (seen_in k w) o r
unfolding seen_in answered_in answered
answered_as k m w o q r s here there =
    same_world _ _
    (λ i. upd_both (λ (t : Table) (x : State). t k ≡ x) w.table (λ i. w.table i k) o q.table r.state i s
    refl)
    (λ i j. upd_both (λ (f : ℕ → List (Roomed Item)) (g : ℕ → List Item). of_room k (f j) ≡ g j) w.link
    (λ i j. of_room k (w.link i j)) o _ _ i
    (room_append k (w.link o j) _ ∙ ap (λ (l : List Item). of_room k (w.link o j) ++ l) (posted j (ℕ_discrete m k)))
    refl)
    refl
    (λ i. upd_both (λ (f : List (Roomed SentRecord)) (g : List SentRecord). of_room k f ≡ g) w.log
    (λ i. of_room k (w.log i)) o _ _ i (entered (ℕ_discrete m k)) refl)
  where
    posted : (j : ℕ) → Dec (m ≡ k)
        → of_room k (roomed m (mail w.clock j q.written)) ≡ mail w.clock j r.written
    posted j (yes e) = room_same k m e (mail w.clock j q.written) ∙ ap (mail w.clock j) (here e)
    posted j (no n) = room_other k m n (mail w.clock j q.written) ∙ sym (ap (mail w.clock j) (there n))

    log_then : List Written → List SentRecord
    log_then ws = logged w.clock ws (of_room k (w.log o))

    entered : Dec (m ≡ k)
        → of_room k (logged_in w.clock m q.written (w.log o)) ≡ log_then r.written
    entered (yes e) = log_same w.clock k m e q.written (w.log o) ∙ ap log_then (here e)
    entered (no n) = log_other w.clock k m n q.written (w.log o) ∙ sym (ap log_then (there n))

-- an answer that changes nothing and writes nothing
answered_none : (w : World) (o : ℕ) (r : Result) → r.state ≡ w.state o → r.written ≡ [] → answered w o r ≡ idle w
unfolding answered idle
answered_none w o r s e =
    same_world _ _
    (λ i. upd_cases (λ (i : ℕ) (x : State). x ≡ w.state i) w.state o _ i s (λ d. refl))
    (λ i j. upd_cases (λ (i : ℕ) (f : ℕ → List Item). f j ≡ w.link i j) w.link o _ i
    (ap (λ (ws : List Written). w.link o j ++ mail w.clock j ws) e ∙ append-nil _) (λ d. refl))
    refl
    (λ i. upd_cases (λ (i : ℕ) (l : List SentRecord). l ≡ w.log i) w.log o _ i
    (ap (λ (ws : List Written). logged w.clock ws (w.log o)) e) (λ d. refl))

-- what is answered in room k, and in another
answered_here : (k : ℕ) (w : RoomWorld) (o : ℕ) (q : TableResult) (r : Result) (m : ℕ) → m ≡ k → shown_in k q ≡ r
    → seen_in k (answered_in w o m q) ≡ answered (seen_in k w) o r
answered_here k w o q r m e s =
    answered_as k m w o q r (ap (λ (x : Result). x.state) s) (λ d. ap (λ (x : Result). x.written) s)
    (λ n. absurd (n e))

answered_elsewhere : (k m : ℕ) → (m ≡ k → ⊥) → (w : RoomWorld) (o : ℕ) (q : TableResult) → q.table k ≡ w.table o k
    → seen_in k (answered_in w o m q) ≡ idle (seen_in k w)
answered_elsewhere k m n w o q s =
    let r : Result = record { refusal = 0; written = []; state = w.table o k } in
    answered_as k m w o q r s (λ e. absurd (n e)) (λ d. refl)
    ∙ answered_none (seen_in k w) o r (unfold seen_in in refl) refl

-- a link put back, and a pause
link_same : (w : World) (i j : ℕ) (l : List Item) → l ≡ w.link i j → with_link w i j l ≡ w
unfolding with_link
link_same w i j l e =
    same_world _ _ (λ a. refl)
    (λ a b. upd_cases (λ (a : ℕ) (f : ℕ → List Item). f b ≡ w.link a b) w.link i _ a
    (upd_cases (λ (b : ℕ) (m : List Item). m ≡ w.link i b) (w.link i) j l b e (λ d. refl)) (λ d. refl))
    refl (λ a. refl)

pauses : (w : World) → next w (pause w) ≡ idle w
unfolding next
pauses w = ap idle (link_same w 0 1 _ (without_past (length (w.link 0 1)) (w.link 0 1) (omega arith)))

-- a link changed, and a clock that goes on, seen in room k
link_seen : (k : ℕ) (w : RoomWorld) (i j : ℕ) (l : List (Roomed Item))
    → seen_in k (with_link_in w i j l) ≡ with_link (seen_in k w) i j (of_room k l)
unfolding seen_in with_link_in with_link
link_seen k w i j l =
    same_world _ _ (λ a. refl)
    (λ a b. upd_both (λ (f : ℕ → List (Roomed Item)) (g : ℕ → List Item). of_room k (f b) ≡ g b) w.link
    (λ i j. of_room k (w.link i j)) i _ _ a
    (upd_both (λ (x : List (Roomed Item)) (y : List Item). of_room k x ≡ y) (w.link i) (λ j. of_room k (w.link i j)) j
    l _ b refl refl) refl)
    refl (λ a. refl)

idle_seen : (k : ℕ) (w : RoomWorld) → seen_in k (idle_in w) ≡ idle (seen_in k w)
unfolding seen_in idle_in idle
idle_seen k w = refl

-- the row behind its front, which is of room k, or is not
module _ (k : ℕ) (w : RoomWorld) (i j : ℕ) (x : Roomed Item) (row : List (Roomed Item))
    (e : w.link i j ≡ x ∷ row) where
  front_same : x.room ≡ k → (seen_in k w).link i j ≡ x.what ∷ of_room k row
  unfolding seen_in of_room
  front_same q = rw (e, eq-eqb x.room k q)

  front_other : (x.room ≡ k → ⊥) → seen_in k (with_link_in w i j row) ≡ seen_in k w
  front_other n =
      link_seen k w i j row
      ∙ link_same (seen_in k w) i j (of_room k row) (unfold seen_in of_room in rw (e, ne_eqb x.room k n))

-- an office whose table is uniform answers in room k as that room's state does
module _ (k : ℕ) (l : k < room_count) (w : RoomWorld) (o : ℕ) (even : Uniform (w.table o)) where
  takes_here : (e : RoomEvent) (output : ℕ) → e.room ≡ k
      → shown_in k (take_table o (w.table o) e output) ≡ take_of o (w.table o k) e.what output
  takes_here e output q =
      subst (λ (j : ℕ). shown_in j (take_table o (w.table o) e output) ≡ take_of o (w.table o j) e.what output) q
      (uniform_takes o (w.table o) e output even (rw q l))

  report_here : (m : ℕ) → m ≡ k → (r : Report) (output : ℕ)
      → shown_in k (report_answer_in w o m r output) ≡ report_answer (seen_in k w) o r output
  unfolding report_answer_in report_answer seen_in
  report_here m q r output = takes_here (record { room = m; what = a_report r }) output q

  proposal_here : (x : Roomed Item) → x.room ≡ k → (output : ℕ)
      → shown_in k (proposal_answer_in w o x output) ≡ proposal_answer (seen_in k w) o x.what.proposal output
  unfolding proposal_answer_in proposal_answer seen_in
  proposal_here x q output = takes_here (record { room = x.room; what = a_proposal x.what.proposal }) output q

  -- what is begun, seen in its room and in another
  front_here : (i output : ℕ) (row : List (Roomed Item)) → w.link i o ≡ row → front_room row ≡ k
      → front_writes_in w o output row ≡ begun_writes (seen_in k w) o (front_begun k i output row)
  unfolding begun_writes
  front_here i output [] e q = refl
  front_here i output (x ∷ row) e q =
      rw (eq-eqb x.room k q, front_same k w i o x row e q)
      (ap (λ (r : Result). r.written) (proposal_here x q output))

  begun_here : (b : RoomUnderway) → begun_room w o b ≡ k
      → begun_writes_in w o b ≡ begun_writes (seen_in k w) o (begun_seen k w o b)
  unfolding begun_room begun_writes_in begun_seen
  begun_here none_begun q = unfold begun_writes in refl
  begun_here (report_begun m r output) q = unfold begun_writes in
      rw (eq-eqb m k q) (ap (λ (r : Result). r.written) (report_here m q r output))
  begun_here (delivery_begun i output) q = front_here i output (w.link i o) refl q

  front_elsewhere : (i output : ℕ) (row : List (Roomed Item)) → (front_room row ≡ k → ⊥)
      → begun_writes (seen_in k w) o (front_begun k i output row) ≡ []
  unfolding begun_writes
  front_elsewhere i output [] n = refl
  front_elsewhere i output (x ∷ row) n = rw (ne_eqb x.room k n)

  begun_elsewhere : (b : RoomUnderway) → (begun_room w o b ≡ k → ⊥)
      → begun_writes (seen_in k w) o (begun_seen k w o b) ≡ []
  unfolding begun_room begun_seen
  begun_elsewhere none_begun n = unfold begun_writes in refl
  begun_elsewhere (report_begun m r output) n = unfold begun_writes in rw (ne_eqb m k n)
  begun_elsewhere (delivery_begun i output) n = front_elsewhere i output (w.link i o) n

  front_taken : (i output : ℕ) (row : List (Roomed Item)) → w.link i o ≡ row
      → seen_in k (with_link_in w i o (without_in 0 row)) ≡ taken_up (seen_in k w) o (front_begun k i output row)
  unfolding taken_up
  front_taken i output [] e =
      link_seen k w i o [] ∙ link_same (seen_in k w) i o (of_room k []) (unfold seen_in of_room in rw e)
  front_taken i output (x ∷ row) e = go (ℕ_discrete x.room k)
    where
      go : Dec (x.room ≡ k)
          → seen_in k (with_link_in w i o row) ≡ taken_up (seen_in k w) o (front_begun k i output (x ∷ row))
      go (yes q) = rw (eq-eqb x.room k q, front_same k w i o x row e q) (link_seen k w i o row)
      go (no n) = rw (ne_eqb x.room k n) (front_other k w i o x row e n)

  taken_seen : (b : RoomUnderway) → seen_in k (taken_up_in w o b) ≡ taken_up (seen_in k w) o (begun_seen k w o b)
  unfolding taken_up_in begun_seen
  taken_seen none_begun = unfold taken_up in refl
  taken_seen (report_begun m r output) = go (eqb m k) refl
    where
      go : (t : Bool) → eqb m k ≡ t
          → seen_in k w ≡ taken_up (seen_in k w) o (ifb (eqb m k) (begun_report r output) nothing_begun)
      go true e = unfold taken_up in rw e
      go false e = unfold taken_up in rw e
  taken_seen (delivery_begun i output) = front_taken i output (w.link i o) refl

  cut_seen : (b : RoomUnderway) (left m : ℕ)
      → seen_in k (next_in w (room_cut o b left m)) ≡ next (seen_in k w) (event_in k w (room_cut o b left m))
  unfolding next_in next event_in cut_answer cut_answer_in
  cut_seen b left m =
      let q = cut_answer (seen_in k w) o (begun_seen k w o b) left m in
      answered_as k (begun_room w o b) (taken_up_in w o b) o (cut_answer_in w o b left m) q refl
      (λ q. ap (take left) (begun_here b q)) (λ n. ap (take left) (begun_elsewhere b n) ∙ take-nil left)
      ∙ ap (λ (u : World). answered u o q) (taken_seen b)

-- the tables of the sixteen offices are uniform
abbrev pub AllUniform : RoomWorld → Type 0
AllUniform w = (i : ℕ) → i < 16 → Uniform (w.table i)

-- for one event
pub room_next : (k : ℕ) → k < room_count → (w : RoomWorld) → AllUniform w → (e : RoomsEvent) → acts_at e < 16
    → seen_in k (next_in w e) ≡ next (seen_in k w) (event_in k w e)
unfolding next_in next event_in
room_next k l w h (room_report o m r output) v = go (ℕ_discrete m k)
  where
    go : Dec (m ≡ k)
        → seen_in k (next_in w (room_report o m r output))
        ≡ next (seen_in k w) (event_in k w (room_report o m r output))
    go (yes q) = rw (eq-eqb m k q) (answered_here k w o _ _ m q (report_here k l w o (h o v) m q r output))
    go (no n) =
        let s : (report_answer_in w o m r output).table k ≡ w.table o k
        = unfold report_answer_in in others_stay (w.table o) _ output o k (λ e. n (sym e)) in
        rw (ne_eqb m k n) (answered_elsewhere k m n w o _ s ∙ sym (pauses (seen_in k w)))
room_next k l w h (room_delivery i j output) v = go (w.link i j) refl
  where
    go : (row : List (Roomed Item)) → w.link i j ≡ row
        → seen_in k (delivered_in w i j output row) ≡ next (seen_in k w) (front_in k (seen_in k w) i j output row)
    go [] e =
        let empty : (seen_in k w).link i j ≡ [] = unfold seen_in of_room in rw e in
        rw empty (idle_seen k w)
    go (x ∷ row) e = by_room (ℕ_discrete x.room k)
      where
        q : TableResult
        q = proposal_answer_in w j x output

        by_room : Dec (x.room ≡ k)
            → seen_in k (delivered_in w i j output (x ∷ row))
            ≡ next (seen_in k w) (front_in k (seen_in k w) i j output (x ∷ row))
        by_room (yes d) =
            let r = proposal_answer (seen_in k w) j x.what.proposal output in
            rw (eq-eqb x.room k d, front_same k w i j x row e d)
            (answered_here k (with_link_in w i j row) j q r x.room d (proposal_here k l w j (h j v) x d output)
            ∙ ap (λ (u : World). answered u j r) (link_seen k w i j row))
        by_room (no n) =
            let s : q.table k ≡ (with_link_in w i j row).table j k
            = unfold proposal_answer_in with_link_in in others_stay (w.table j) _ output j k (λ d. n (sym d)) in
            rw (ne_eqb x.room k n)
            (answered_elsewhere k x.room n (with_link_in w i j row) j q s ∙ ap idle (front_other k w i j x row e n)
            ∙ sym (pauses (seen_in k w)))
room_next k l w h (room_loss i j place) v = unfold seen_in in
    let row = w.link i j in
    idle_seen k (with_link_in w i j (without_in place row)) ∙ ap idle (link_seen k w i j (without_in place row))
    ∙ ap (λ (m : List Item). idle (with_link (seen_in k w) i j m))
    (sym (without_place k place row))
room_next k l w h (room_cut o b left m) v = cut_seen k l w o (h o v) b left m

-- every event leaves uniform tables
pub uniform_then : (w : RoomWorld) (e : RoomsEvent) → acts_at e < 16 → AllUniform w → AllUniform (next_in w e)
unfolding next_in answered_in with_link_in idle_in
uniform_then w (room_report o m r output) v h i l = unfold report_answer_in in
    upd_cases (λ (i : ℕ) (t : Table). i < 16 → Uniform t) w.table o _ i
    (λ b. uniform_next o (w.table o) _ output (h o v)) (λ d b. h i b) l
uniform_then w (room_delivery i j output) v h a l = go (w.link i j)
  where
    go : (row : List (Roomed Item)) → Uniform ((delivered_in w i j output row).table a)
    go [] = h a l
    go (x ∷ row) = unfold proposal_answer_in in
        upd_cases (λ (i : ℕ) (t : Table). i < 16 → Uniform t) w.table j _ a
        (λ b. uniform_next j (w.table j) _ output (h j v)) (λ d b. h a b) l
uniform_then w (room_loss i j place) v h a l = h a l
uniform_then w (room_cut o b left m) v h a l = go b
  where
    again : Uniform (upd w.table o (restarted_table o m) a)
    again = upd_cases (λ (i : ℕ) (t : Table). i < 16 → Uniform t) w.table o (restarted_table o m) a
        (λ b. restarted_uniform o m) (λ d b. h a b) l

    go : (b : RoomUnderway)
        → Uniform ((answered_in (taken_up_in w o b) o (begun_room w o b) (cut_answer_in w o b left m)).table a)
    go none_begun = unfold taken_up_in cut_answer_in in again
    go (report_begun k r output) = unfold taken_up_in cut_answer_in in again
    go (delivery_begun i output) = unfold taken_up_in cut_answer_in in again

-- At every point of the list the world of rooms shows in room k the world of one room at that point of the list as
-- room k sees it.
pub room_at : (k : ℕ) → k < room_count → (w : RoomWorld) → AllUniform w → (es : List RoomsEvent)
    → Every (λ e. acts_at e < 16) es → (n : ℕ)
    → seen_in k (rooms_at w es n) ≡ runs next (seen_in k w) (take n (events_in k w es))
unfolding runs events_in
room_at k l w h [] v zero = refl
room_at k l w h [] v (suc n) = refl
room_at k l w h (e ∷ es) v zero = refl
room_at k l w h (e ∷ es) (more a v) (suc n) =
    room_at k l (next_in w e) (uniform_then w e a h) es v n
    ∙ ap (λ (u : World). runs next u (take n (events_in k (next_in w e) es))) (room_next k l w h e a)
