-- One slow proposal, one view, in each room: the theorem of one room on the list of events as room k sees it.
use mathlib.Core.Path.{refl, ap}
use mathlib.Core.Logic.{inl}
use mathlib.Core.List.{List, [], ◌∷◌}
use Prim.Native.Nat.{ℕ, ◌<◌}
use native.Mathlib.Omega.{arith}
use lib.Dec.{eqb}
use Rattle.laws.specs.Lists.{Every, none, more}
use Rattle.laws.proofs.Fin.{if_cases}
use Rattle.laws.proofs.Lists.{every_map}
use Rattle.records.specs.Numbers.{room_count}
use Rattle.rules.specs.Tables.{Table, fresh_table}
use Rattle.rule_laws.proofs.Steps.{fresh_well}
use Rattle.rule_laws.proofs.Tables.{well_rooms}
use Rattle.runs.specs.World.{Item, World, at_first, nothing_begun, begun_report, begun_delivery}
use Rattle.runs.specs.World.{report, delivery, BegunAmong, Among}
use Rattle.runs.proofs.Places.{every_nth}
use Rattle.one_view.specs.Statement.{AllFresh, everyone}
use Rattle.one_view.proofs.UsedOnce.{used_well}
use Rattle.rooms.specs.Roomed.{Roomed, of_room}
use Rattle.rooms.specs.RoomWorld.{RoomWorld, RoomUnderway, none_begun, report_begun, delivery_begun, RoomsEvent}
use Rattle.rooms.specs.RoomWorld.{room_report, room_delivery, room_loss, room_cut, rooms_first, acts_at}
use Rattle.rooms.specs.RoomWorld.{BegunAmongServers, AmongServers, next_in}
use Rattle.rooms.specs.RoomFiles.{RoomFileEvent, plainly_in, filed_rooms}
use Rattle.rooms.specs.Projection.{seen_in, pause, front_in, front_begun, begun_seen, event_in, events_in}
use Rattle.rooms.specs.Statement.{RoomsBegin, states_in, links_in, list_in, FreshServers, UsedWellInRoom}
use Rattle.rooms.proofs.FilesAbove.{rooms_above}
use Rattle.rooms.proofs.Settling.{read_in}

-- what room k sees of an event of the sixteen servers is an event of the sixteen offices
pause_among : (w : World) → Among (pause w)
pause_among w = (omega arith, omega arith, λ e. omega arith)

module _ (k : ℕ) (w : RoomWorld) where
  begun_among : (o : ℕ) (b : RoomUnderway) → BegunAmongServers o b → BegunAmong o (begun_seen k w o b)
  unfolding begun_seen
  begun_among o none_begun h = tt
  begun_among o (report_begun room r output) h =
      if_cases (BegunAmong o) (eqb room k) (begun_report r output) nothing_begun
      (λ e. (h.joining, h.leaving)) (λ e. tt)
  begun_among o (delivery_begun i output) h = go (w.link i o)
    where
      go : (l : List (Roomed Item)) → BegunAmong o (front_begun k i output l)
      go [] = tt
      go (x ∷ l) =
          if_cases (BegunAmong o) (eqb x.room k) (begun_delivery i output) nothing_begun (λ e. h) (λ e. tt)

  event_among : (e : RoomsEvent) → AmongServers e → Among (event_in k w e)
  unfolding event_in
  event_among (room_report o room r output) h =
      if_cases Among (eqb room k) (report o r output) (pause (seen_in k w))
      (λ e. (h.0, h.1.joining, h.1.leaving)) (λ e. pause_among (seen_in k w))
  event_among (room_delivery i j output) h = go (w.link i j)
    where
      go : (l : List (Roomed Item)) → Among (front_in k (seen_in k w) i j output l)
      go [] = h
      go (x ∷ l) = if_cases Among (eqb x.room k) (delivery i j output) (pause (seen_in k w)) (λ e. h)
          (λ e. pause_among (seen_in k w))
  event_among (room_loss i j place) h = h
  event_among (room_cut o b left m) h = (h.0, begun_among o b h.1)

events_among : (k : ℕ) (w : RoomWorld) (es : List RoomsEvent) → Every AmongServers es → Every Among (events_in k w es)
unfolding events_in
events_among k w [] none = none
events_among k w (e ∷ es) (more h hs) = more (event_among k w e h) (events_among k (next_in w e) es hs)

acts_among : (e : RoomsEvent) → AmongServers e → acts_at e < 16
acts_among (room_report o room r output) h = h.0
acts_among (room_delivery i j output) h = h.1
acts_among (room_loss i j place) h = h.0
acts_among (room_cut o b left m) h = h.0

module _ (tables : ℕ → Table) (links : ℕ → ℕ → List (Roomed Item)) (k : ℕ) (l : k < room_count) where
  begins : (es : List RoomsEvent) → FreshServers tables links es → RoomsBegin tables links es
  begins es f = record {
    tables_pass = λ i lt. rw (f.tables_fresh i lt) (well_rooms (fresh_table i) (λ j b. fresh_well i lt));
    offices = every_map acts_among f.among;
  }

  fresh_in : (es : List RoomsEvent) → FreshServers tables links es
      → AllFresh (states_in tables links k) (links_in tables links k) (list_in tables links es k)
  unfolding of_room
  fresh_in es f = record {
    starts_fresh = λ i lt. ap (λ (t : Table). t k) (f.tables_fresh i lt);
    without_mail = λ i j lt. ap (of_room k) (f.links_empty i j lt);
    among = every_nth (list_in tables links es k) (events_among k (rooms_first tables links) es f.among);
  }

  pub used_well_in_room : (fs : List RoomFileEvent) → UsedWellInRoom tables links fs k
  unfolding at_first seen_in of_room
  used_well_in_room fs f =
      let es = plainly_in (filed_rooms tables links (λ i. [])) fs in
      let b = begins es f in
      read_in tables links k l es b _
      (used_well (states_in tables links k) (links_in tables links k) (list_in tables links es k) (fresh_in es f)
      (rooms_above everyone k l tables links (λ i. []) (λ i q. refl) fs (λ i c. inl (b.tables_pass i c))
      b.offices))
