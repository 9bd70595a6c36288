-- Where the files of the offices of F are empty at first, each of them that is cut off begins again, in every room, at
-- or above every number that left it in any room. So in each room the list of events, as that room sees it, is one to
-- which every theorem on runs with cuts applies.
use mathlib.Core.Path.{◌≡◌, refl, subst}
use mathlib.Core.Bool.{Bool}
use mathlib.Core.List.{List, [], ◌∷◌}
use Prim.Native.Nat.{ℕ, zero, suc, ◌≤◌, ◌<◌}
use native.Mathlib.Omega.{arith}
use native.Mathlib.Decide.{ℕ_discrete}
use lib.Dec.{eqb}
use lib.ListN.{length, take}
use Rattle.laws.specs.Lists.{runs, Every, none, more}
use Rattle.laws.specs.Upd.{upd}
use Rattle.laws.proofs.Fin.{if_cases}
use Rattle.laws.proofs.Upd.{upd_same, upd_other}
use Rattle.records.specs.Numbers.{limit, room_count}
use Rattle.rules.specs.Rules.{Written}
use Rattle.rules.specs.MarkFile.{last_high}
use Rattle.rules.specs.Leaving.{largest_in, own_number, actions_from, actions_of, file_after, left_in}
use Rattle.rules.specs.Tables.{Table}
use Rattle.rule_laws.proofs.Leaving.{no_marks_lem, Covering, covering_above, part_covers, all_covers}
use Rattle.runs.specs.World.{Item, World, SentRecord, report, delivery, next}
use Rattle.runs.specs.Begins.{InF, CutAbove, RestartsAbove}
use Rattle.rooms.specs.Roomed.{Roomed}
use Rattle.rooms.specs.RoomWorld.{RoomWorld, RoomUnderway, none_begun, report_begun, delivery_begun, room_cut}
use Rattle.rooms.specs.RoomWorld.{acts_at, logged_in, answered_in, with_link_in, idle_in, report_answer_in}
use Rattle.rooms.specs.RoomWorld.{proposal_answer_in, delivered_in, front_room, front_writes_in, begun_room}
use Rattle.rooms.specs.RoomWorld.{begun_writes_in, taken_up_in, cut_answer_in, next_in, rooms_first}
use Rattle.rooms.specs.RoomFiles.{RoomFiled, RoomFileEvent, reports_in, delivers_in, loses_in, cuts_in, office_in}
use Rattle.rooms.specs.RoomFiles.{done_in, file_next_in, plain_in, next_filed_in, plainly_in, filed_rooms}
use Rattle.rooms.specs.Projection.{seen_in, pause, front_in, event_in, events_in}
use Rattle.rooms.proofs.Roomed.{room_every}
use Rattle.rooms.proofs.Projection.{AllUniform, room_next, uniform_then}
use Rattle.rooms.proofs.Server.{table_largest}

-- a record in the log of all rooms; the file covers all that is in it
abbrev in_log : Roomed SentRecord → Written
in_log x = x.what.what

abbrev LogCovered : List ℕ → List (Roomed SentRecord) → Type 0
LogCovered = Covering in_log

logged_in_lem : (t m : ℕ) (l : List (Roomed SentRecord)) (P : Written → Type 0) (ws : List Written) → Every P ws
    → Every (λ x. P (in_log x)) l → Every (λ x. P (in_log x)) (logged_in t m ws l)
logged_in_lem t m l P [] none e = e
logged_in_lem t m l P (r ∷ ws) (more h hs) e = logged_in_lem t m _ P ws hs (more h e)

-- a list with files is at the offices at which its events are
pub plainly_at : (P : ℕ → Type 0) (f : RoomFiled) (fs : List RoomFileEvent) → Every (λ e. P (office_in e)) fs
    → Every (λ e. P (acts_at e)) (plainly_in f fs)
unfolding plainly_in
plainly_at P f [] none = none
plainly_at P f (x ∷ fs) (more h hs) = more (one x h) (plainly_at P (next_filed_in f x) fs hs)
  where
    one : (x : RoomFileEvent) → P (office_in x) → P (acts_at (plain_in f x))
    one (reports_in o m r output) h = h
    one (delivers_in i j output) h = h
    one (loses_in i j place) h = h
    one (cuts_in o b n) h = h

-- what a server has begun to write
begun_low : (w : RoomWorld) (o : ℕ) (b : RoomUnderway) → Every (λ w. largest_in w ≤ limit) (begun_writes_in w o b)
unfolding begun_writes_in
begun_low w o none_begun = none
begun_low w o (report_begun m r output) = unfold report_answer_in in table_largest o (w.table o) _ output
begun_low w o (delivery_begun i output) = go (w.link i o)
  where
    go : (l : List (Roomed Item)) → Every (λ w. largest_in w ≤ limit) (front_writes_in w o output l)
    go [] = none
    go (x ∷ l) = unfold proposal_answer_in in table_largest o (w.table o) _ output

module _ (F : ℕ → Bool) where
  abbrev AllCovered : RoomFiled → Type 0
  AllCovered f = (i : ℕ) → InF F i → LogCovered (f.file i) (f.world.log i)

  -- one server's file and log change
  changed : (f : RoomFiled) (o : ℕ) (g : List ℕ) (l : List (Roomed SentRecord)) → AllCovered f
      → (InF F o → LogCovered g l)
      → (i : ℕ) → InF F i → LogCovered (upd f.file o g i) (upd f.world.log o l i)
  changed f o g l a c i q = go (ℕ_discrete i o)
    where
      go : Dec (i ≡ o) → LogCovered (upd f.file o g i) (upd f.world.log o l i)
      go (yes e) = rw (e, upd_same f.file o g, upd_same f.world.log o l) (c (subst (InF F) e q))
      go (no n) = rw (upd_other f.file o g i n, upd_other f.world.log o l i n) (a i q)

  -- a file that stays
  kept : (f : RoomFiled) (o : ℕ) → AllCovered f → (i : ℕ) → InF F i
      → LogCovered (upd f.file o (f.file o) i) (f.world.log i)
  kept f o a i q = go (ℕ_discrete i o)
    where
      go : Dec (i ≡ o) → LogCovered (upd f.file o (f.file o) i) (f.world.log i)
      go (yes d) = rw (d, upd_same f.file o (f.file o)) (a o (subst (InF F) d q))
      go (no n) = rw (upd_other f.file o (f.file o) i n) (a i q)

  -- office o has begun b; some of its answer leaves, and all of it
  module _ (f : RoomFiled) (a : AllCovered f) (o : ℕ) (b : RoomUnderway) (q : InF F o) where
    abbrev writes : List Written
    writes = begun_writes_in f.world o b

    abbrev with_log : List Written → List (Roomed SentRecord)
    with_log ws = logged_in f.world.clock (begun_room f.world o b) ws (f.world.log o)

    joined : (P : Written → Type 0) (ws : List Written) → Every P ws → Every (λ x. P (in_log x)) (f.world.log o)
        → Every (λ x. P (in_log x)) (with_log ws)
    joined = logged_in_lem f.world.clock (begun_room f.world o b) (f.world.log o)

    part_covered : (n : ℕ) → let done = take n (actions_of (f.file o) writes) in
        LogCovered (file_after (f.file o) done) (with_log (take (length (left_in done)) writes))
    part_covered n =
        (part_covers in_log (f.world.log o) with_log joined (f.file o) writes (a o q) (begun_low f.world o b) n).1

    all_covered : LogCovered (file_after (f.file o) (actions_of (f.file o) writes)) (with_log writes)
    all_covered =
        (all_covers in_log (f.world.log o) with_log joined (f.file o) writes (a o q) (begun_low f.world o b)).1

  -- a cut
  cut_log : (w : RoomWorld) (o : ℕ) (b : RoomUnderway) (left m i : ℕ)
      → (next_in w (room_cut o b left m)).log i
      ≡ upd w.log o (logged_in w.clock (begun_room w o b) (take left (begun_writes_in w o b)) (w.log o)) i
  unfolding next_in answered_in cut_answer_in taken_up_in with_link_in
  cut_log w o none_begun left m i = refl
  cut_log w o (report_begun k r output) left m i = refl
  cut_log w o (delivery_begun j output) left m i = refl

  cut_covered : (f : RoomFiled) (o n : ℕ) (b : RoomUnderway) → AllCovered f → InF F o
      → LogCovered (file_next_in f (cuts_in o b n)) ((next_in f.world (plain_in f (cuts_in o b n))).log o)
  unfolding done_in
  cut_covered f o n b a q =
      rw (cut_log f.world o b _ _ o, upd_same f.world.log o) (part_covered f a o b q n)

  -- every event keeps it
  step_covered : (f : RoomFiled) (e : RoomFileEvent) → AllCovered f → AllCovered (next_filed_in f e)
  unfolding next_filed_in next_in done_in file_after begun_room
  step_covered f (reports_in o m r output) a = unfold answered_in begun_writes_in in
      changed f o _ _ a (all_covered f a o (report_begun m r output))
  step_covered f (loses_in i j place) a = unfold idle_in with_link_in in kept f i a
  step_covered f (delivers_in i j output) a = unfold begun_writes_in in
      go (f.world.link i j) (all_covered f a j (delivery_begun i output))
    where
      go : (l : List (Roomed Item))
          → (InF F j → LogCovered
          (file_after (f.file j) (actions_of (f.file j) (front_writes_in f.world j output l)))
          (logged_in f.world.clock (front_room l) (front_writes_in f.world j output l) (f.world.log j)))
          → (k : ℕ) → InF F k
          → LogCovered
          (upd f.file j (file_after (f.file j) (actions_of (f.file j) (front_writes_in f.world j output l))) k)
          ((delivered_in f.world i j output l).log k)
      go [] c = unfold idle_in actions_from file_after in kept f j a
      go (x ∷ l) c = unfold answered_in with_link_in in changed f j _ _ a c
  step_covered f (cuts_in o b n) a = λ i q. go i q (ℕ_discrete i o)
    where
      go : (i : ℕ) → InF F i → Dec (i ≡ o)
          → LogCovered (upd f.file o (file_next_in f (cuts_in o b n)) i)
          ((next_in f.world (plain_in f (cuts_in o b n))).log i)
      go i q (yes e) = rw (e, upd_same f.file o (file_next_in f (cuts_in o b n)))
          (cut_covered f o n b a (subst (InF F) e q))
      go i q (no d) =
          rw (
            upd_other f.file o (file_next_in f (cuts_in o b n)) i d,
            cut_log f.world o b _ _ i,
            upd_other f.world.log o _ i d,
          )
          (a i q)

  -- in room k
  module _ (k : ℕ) (l : k < room_count) where
    above_one : (f : RoomFiled) (e : RoomFileEvent) → AllUniform f.world → acts_at (plain_in f e) < 16 → AllCovered f
        → CutAbove F (seen_in k f.world) (event_in k f.world (plain_in f e))
    unfolding event_in
    above_one f (reports_in o m r output) h v a =
        if_cases (CutAbove F (seen_in k f.world)) (eqb m k) (report o r output) (pause (seen_in k f.world))
        (λ e. tt) (λ e. tt)
    above_one f (delivers_in i j output) h v a = go (f.world.link i j)
      where
        go : (row : List (Roomed Item))
            → CutAbove F (seen_in k f.world) (front_in k (seen_in k f.world) i j output row)
        go [] = tt
        go (x ∷ row) =
            if_cases (CutAbove F (seen_in k f.world)) (eqb x.room k) (delivery i j output)
            (pause (seen_in k f.world)) (λ e. tt) (λ e. tt)
    above_one f (loses_in i j place) h v a = tt
    above_one f (cuts_in o b n) h v a = λ q.
        let m = last_high (file_next_in f (cuts_in o b n)) in
        let x = covering_above in_log _ _ (cut_covered f o n b a q) in (
          subst (λ (w : World). Every (λ y. own_number y.what ≤ m) (w.log o))
              (room_next k l f.world h (plain_in f (cuts_in o b n)) v)
              (unfold seen_in in room_every k _ x.0),
          x.1,
        )

    above_all : (f : RoomFiled) (fs : List RoomFileEvent) → AllUniform f.world
        → Every (λ e. acts_at e < 16) (plainly_in f fs) → AllCovered f
        → RestartsAbove F (seen_in k f.world) (events_in k f.world (plainly_in f fs))
    unfolding plainly_in events_in runs next_filed_in
    above_all f [] h v a n e q = absurd (let l = q.0 in omega arith)
    above_all f (x ∷ fs) h (more v vs) a zero e q =
        subst (CutAbove F (seen_in k f.world)) q.1 (above_one f x h v a)
    above_all f (x ∷ fs) h (more v vs) a (suc n) e q =
        let g = next_filed_in f x in
        subst (λ (w : World). CutAbove F (runs next w (take n (events_in k g.world (plainly_in g fs)))) e)
        (room_next k l f.world h (plain_in f x) v)
        (above_all g fs (uniform_then f.world (plain_in f x) v h) vs (step_covered f x a) n e
        (let l = q.0 in omega arith, q.1))

    -- the hypothesis of every theorem about runs with cuts, of the list as room k sees it
    pub rooms_above : (tables : ℕ → Table) (links : ℕ → ℕ → List (Roomed Item)) (files : ℕ → List ℕ)
        → ((i : ℕ) → InF F i → files i ≡ []) → (fs : List RoomFileEvent) → AllUniform (rooms_first tables links)
        → let es = plainly_in (filed_rooms tables links files) fs in Every (λ e. acts_at e < 16) es
        → RestartsAbove F (seen_in k (rooms_first tables links)) (events_in k (rooms_first tables links) es)
    rooms_above tables links files empty fs h v =
        above_all (filed_rooms tables links files) fs h v
        (λ i q. rw (empty i q) (record { order = no_marks_lem; covered = none }))
