-- A desk with its rooms: a record is heard as by the desk of its room, the other machines stay, and so do all where it
-- is refused.
use mathlib.Core.Path.{◌≡◌, refl, sym, ap}
use mathlib.Core.List.{List, []}
use Prim.Native.Nat.{ℕ, ◌≤◌, ◌<◌}
use borrow.Author.Tests.{le-leb, lt-leb}
use Rattle.laws.proofs.Upd.{upd_same, upd_other, upd_cases}
use Rattle.seats.specs.Seats.{seat_count}
use Rattle.records.specs.Numbers.{room_count}
use Rattle.records.specs.Layout.{room_of}
use Rattle.desk.specs.Hearing.{made_desk, hear_of}
use Rattle.desk.specs.Syncing.{sync_bytes}
use Rattle.desk.specs.Rooms.{RoomsDesk, desk_in, machine_of, fresh_rooms, made_rooms, hear_rooms, sync_in}
use Rattle.desk.proofs.HearingLaws.{seat_6, seat_0, refusal_keeps, seat_stays}
use Rattle.desk.proofs.Taken.{room_taken}

-- a desk that is made is in every room the one that is made of one room
module _ (seat : ℕ) where
  pub made_refusal : (made_rooms seat).refusal ≡ (made_desk seat).refusal
  unfolding made_rooms
  made_refusal = refl

  pub made_in : (room : ℕ) → desk_in (made_rooms seat).desk room ≡ (made_desk seat).desk
  unfolding made_rooms
  made_in room = refl

  pub rooms_6 : seat_count ≤ seat → made_rooms seat ≡ record { refusal = 6; desk = fresh_rooms 0 }
  unfolding made_rooms
  rooms_6 l = rw (seat_6 seat l)

  pub rooms_0 : seat < seat_count → made_rooms seat ≡ record { refusal = 0; desk = fresh_rooms seat }
  unfolding made_rooms
  rooms_0 l = rw (seat_0 seat l)

module _ (d : RoomsDesk) (b : List ℕ) where
  -- a record is heard as by the desk of its room
  pub room_refusal : (hear_rooms d b).refusal ≡ (hear_of (desk_in d (room_of b)) b).refusal
  unfolding hear_rooms
  room_refusal = refl

  pub rooms_seat : (hear_rooms d b).desk.seat ≡ d.seat
  unfolding hear_rooms
  rooms_seat = refl

  pub room_machine : (hear_rooms d b).desk.machine (room_of b) ≡ machine_of (hear_of (desk_in d (room_of b)) b).desk
  unfolding hear_rooms
  room_machine = upd_same d.machine (room_of b) (machine_of (hear_of (desk_in d (room_of b)) b).desk)

  pub room_heard : desk_in (hear_rooms d b).desk (room_of b) ≡ (hear_of (desk_in d (room_of b)) b).desk
  room_heard =
      let e = (hear_of (desk_in d (room_of b)) b).desk in
      rw (room_machine, rooms_seat)
      (ap (λ (s : ℕ). record { seat = s; start = e.start; view = e.view; changing = e.changing })
      (sym (seat_stays (desk_in d (room_of b)) b)))

  -- the other machines stay
  pub others_stay : (room : ℕ) → (room ≡ room_of b → ⊥) → (hear_rooms d b).desk.machine room ≡ d.machine room
  unfolding hear_rooms
  others_stay room n = upd_other d.machine (room_of b) _ room n

  pub other_desk : (room : ℕ) → (room ≡ room_of b → ⊥) → desk_in (hear_rooms d b).desk room ≡ desk_in d room
  other_desk room n = rw (others_stay room n, rooms_seat)

  -- a refusal leaves them all
  pub refusal_stays : ((hear_rooms d b).refusal ≡ 0 → ⊥) → (room : ℕ)
      → (hear_rooms d b).desk.machine room ≡ d.machine room
  unfolding hear_rooms
  refusal_stays n room =
      upd_cases (λ k m. m ≡ d.machine k) d.machine (room_of b) _ room
      (ap machine_of (refusal_keeps (desk_in d (room_of b)) b n)) (λ o. refl)

  -- what is accepted is of one of the eight rooms
  pub room_accepted : (hear_rooms d b).refusal ≡ 0 → room_of b < room_count
  unfolding hear_rooms
  room_accepted z = room_taken (desk_in d (room_of b)) b z

-- two desks that agree on their seat and on one room answer its records alike
pub rooms_alike : (d e : RoomsDesk) (b : List ℕ) → d.seat ≡ e.seat → d.machine (room_of b) ≡ e.machine (room_of b)
    → ((hear_rooms d b).refusal ≡ (hear_rooms e b).refusal)
    × ((hear_rooms d b).desk.machine (room_of b) ≡ (hear_rooms e b).desk.machine (room_of b))
rooms_alike d e b s m =
    (rw (room_refusal d b, room_refusal e b, s, m), rw (room_machine d b, room_machine e b, s, m))

module _ (d : RoomsDesk) (room : ℕ) where
  pub no_sync_in : room_count ≤ room → sync_in d room ≡ []
  unfolding sync_in
  no_sync_in l = rw (le-leb room_count room l)

  pub sync_in_lem : room < room_count → sync_in d room ≡ sync_bytes (desk_in d room)
  unfolding sync_in
  sync_in_lem l = rw (lt-leb room_count room l)
