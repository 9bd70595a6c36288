-- making and hearing: what a seat answers at each exit: 6; 4 and 5; 20; a reason of the record; an accepted
-- record.
use mathlib.Core.Path.{◌≡◌, refl, sym, ◌∙◌}
use mathlib.Core.Bool.{true, false}
use mathlib.Core.List.{List}
use Prim.Native.Nat.{ℕ, ◌≤◌, ◌<◌}
use native.Mathlib.Omega.{arith}
use native.Mathlib.Decide.{ℕ_discrete}
use borrow.Author.Tests.{le-leb, lt-leb, ne_eqb, eqb-false}
use Rattle.laws.specs.Checks.{first_of}
use Rattle.seats.specs.Seats.{seat_count}
use Rattle.records.specs.Numbers.{room_above}
use Rattle.records.specs.declared.InRoom.{InRoom}
use Rattle.records.specs.declared.Notice.{Notice}
use Rattle.records.specs.declared.View.{View}
use Rattle.records.specs.declared.refusal.Refusal.{Refusal}
use Rattle.records.specs.Refusals.{number}
use Rattle.records.specs.Layout.{notice_mark, notice_length, view_mark, view_length, check_for, check_own, room_of}
use Rattle.records.specs.Layout.{decode_notice, decode_view}
use Rattle.records.proofs.CheckLaws.{own_mark}
use Rattle.records.proofs.OwnChecks.{by_first, by_second}
use Rattle.desk.specs.declared.checks.Desk.{Desk}
use Rattle.desk.specs.SeatChecks.{SeatRecord, a_notice, a_view, seat_checks}
use Rattle.desk.specs.Hearing.{fresh_desk, made_desk, seat_record_of, check_seat_record, hear_checks, after_record}
use Rattle.desk.specs.Hearing.{Heard, hear_of, told_checks, left_by}
use Rattle.desk.proofs.Refusals.{refusal_some, mark_4, other_4}

module _ (seat : ℕ) where
  pub seat_6 : seat_count ≤ seat → made_desk seat ≡ record { refusal = 6; desk = fresh_desk 0 }
  unfolding made_desk
  seat_6 l = rw (le-leb seat_count seat l)

  pub seat_0 : seat < seat_count → made_desk seat ≡ record { refusal = 0; desk = fresh_desk seat }
  unfolding made_desk
  seat_0 l = rw (lt-leb seat_count seat l)

-- bytes by checks 4 and 5, and the room and the record that they are where those pass
pub record SeatRead (b : List ℕ) (n room : ℕ) (t : SeatRecord) : Type 0 where
  pub number : check_seat_record b ≡ n
  pub in_room : n ≡ 0 → room_of b ≡ room
  pub is : n ≡ 0 → seat_record_of b ≡ t

module _ (b : List ℕ) where
  abbrev notice_check : ℕ
  notice_check = check_own notice_mark notice_length b

  abbrev view_check : ℕ
  view_check = check_own view_mark view_length b

  pub by_notice : (notice_check ≡ 4 → ⊥) → SeatRead b notice_check (room_of b) (a_notice (decode_notice b))
  unfolding seat_record_of
  by_notice h = record {
    number = by_first notice_mark notice_length view_mark view_length b h;
    in_room = λ z. refl;
    is = λ z. rw (own_mark notice_mark notice_length b z);
  }

  pub by_view : notice_check ≡ 4 → SeatRead b view_check (room_of b) (a_view (decode_view b))
  unfolding seat_record_of
  by_view h = record {
    number = by_second notice_mark notice_length view_mark view_length b (omega arith) h;
    in_room = λ z. refl;
    is = λ z. rw (own_mark view_mark view_length b z);
  }

  -- a view has no notice's mark
  pub other_mark_lem : view_check ≡ 0 → notice_check ≡ 4
  unfolding check_own check_for
  other_mark_lem z = rw (own_mark view_mark view_length b z)

module _ (d : Desk) (b : List ℕ) where
  pub hear_6 : seat_count ≤ d.seat → hear_of d b ≡ record { refusal = 6; desk = d }
  unfolding hear_of hear_checks
  hear_6 l = rw (le-leb seat_count d.seat l)

  module _ (seat : d.seat < seat_count) {n room : ℕ} {t : SeatRecord} (read : SeatRead b n room t) where
    pub hear_unread : (n ≡ 0 → ⊥) → hear_of d b ≡ record { refusal = n; desk = d }
    unfolding hear_of hear_checks
    hear_unread h = rw (lt-leb seat_count d.seat seat, read.number, ne_eqb n 0 h, ne_eqb n 0 h)

    module _ (z : n ≡ 0) where
      pub hear_20 : room_above room ≡ true → hear_of d b ≡ record { refusal = 20; desk = d }
      unfolding hear_of hear_checks
      hear_20 a = rw (lt-leb seat_count d.seat seat, read.number, z, read.in_room z, a)

      module _ (low : room_above room ≡ false) where
        pub hear_refused : (m : ℕ) → m ≡ first_of (seat_checks d t) → (m ≡ 0 → ⊥)
            → hear_of d b ≡ record { refusal = m; desk = d }
        unfolding hear_of hear_checks
        hear_refused m e h =
            rw (
              lt-leb seat_count d.seat seat,
              read.number,
              z,
              read.in_room z,
              low,
              read.is z,
              ← e,
              ne_eqb m 0 h,
            )

        pub hear_accepted : first_of (seat_checks d t) ≡ 0
            → hear_of d b ≡ record { refusal = 0; desk = after_record d t }
        unfolding hear_of hear_checks
        hear_accepted e = rw (lt-leb seat_count d.seat seat, read.number, z, read.in_room z, low, read.is z, e)

    -- a record that was read
    pub hear_told : n ≡ 0 → left_by d t (first_of (told_checks d room t)) ≡ hear_of d b
    unfolding hear_of hear_checks
    hear_told z = rw (lt-leb seat_count d.seat seat, read.number, z, read.in_room z, read.is z)

-- what is heard by a desk with a seat, by what the reader of notices tells, and by the reader of views where the mark
-- is no notice's
module _ (d : Desk) (b : List ℕ) (seat : d.seat < seat_count) where
  abbrev Told : SeatRecord → ℕ → Heard → Type 0
  Told t room h = h ≡ left_by d t (first_of (told_checks d room t))

  pub heard_notice : 0 ≡ check_own notice_mark notice_length b → (r : InRoom Notice)
      → r ≡ record { room = room_of b; «record» = decode_notice b } → (h : Heard) → Told (a_notice r.«record») r.room h
      → h ≡ hear_of d b
  heard_notice z r is h e =
      e ∙ rw is (hear_told d b seat (by_notice b (λ f. let q = z ∙ f in omega arith)) (sym z))

  pub heard_unread : (e : Refusal) → number e ≡ check_own notice_mark notice_length b → (number e ≡ 4 → ⊥)
      → record { refusal = number e; desk = d } ≡ hear_of d b
  heard_unread e is n =
      rw is (sym (hear_unread d b seat (by_notice b (λ f. n (is ∙ f)))
      (λ z. eqb-false _ _ (refusal_some e) (is ∙ z))))

  module _ (other : 4 ≡ check_own notice_mark notice_length b) where
    pub heard_view : 0 ≡ check_own view_mark view_length b → (r : InRoom View)
        → r ≡ record { room = room_of b; «record» = decode_view b } → (h : Heard) → Told (a_view r.«record») r.room h
        → h ≡ hear_of d b
    heard_view z r is h e = e ∙ rw is (hear_told d b seat (by_view b (sym other)) (sym z))

    pub heard_neither : (e : Refusal) → number e ≡ check_own view_mark view_length b
        → record { refusal = number e; desk = d } ≡ hear_of d b
    heard_neither e is =
        rw is (sym (hear_unread d b seat (by_view b (sym other)) (λ z. eqb-false _ _ (refusal_some e) (is ∙ z))))

-- a record that was read, at each exit
module _ (d : Desk) (room : ℕ) (t : SeatRecord) where
  pub told_20 : room_above room ≡ true
      → record { refusal = 20; desk = d } ≡ left_by d t (first_of (told_checks d room t))
  told_20 a = rw a

  module _ (low : room_above room ≡ false) where
    pub told_refused : (e : Refusal) → number e ≡ first_of (seat_checks d t)
        → record { refusal = number e; desk = d } ≡ left_by d t (first_of (told_checks d room t))
    told_refused e is = rw (low, sym is, refusal_some e)

    pub told_accepted : 0 ≡ first_of (seat_checks d t)
        → record { refusal = 0; desk = after_record d t } ≡ left_by d t (first_of (told_checks d room t))
    told_accepted is = rw (low, sym is)

-- a refusal leaves the state as it was
pub refusal_keeps : (d : Desk) (b : List ℕ) → ((hear_of d b).refusal ≡ 0 → ⊥) → (hear_of d b).desk ≡ d
unfolding hear_of
refusal_keeps d b n = go (ℕ_discrete (first_of (hear_checks d b)) 0) n
  where
    go : Dec (first_of (hear_checks d b) ≡ 0) → ((hear_of d b).refusal ≡ 0 → ⊥) → (hear_of d b).desk ≡ d
    go (yes z) n = absurd (n (rw z))
    go (no m) n = rw (ne_eqb (first_of (hear_checks d b)) 0 m)

-- a seat stays the same seat
pub seat_stays : (d : Desk) (b : List ℕ) → (hear_of d b).desk.seat ≡ d.seat
unfolding hear_of after_record
seat_stays d b = go (ℕ_discrete (first_of (hear_checks d b)) 0)
  where
    after : (r : SeatRecord) → (after_record d r).seat ≡ d.seat
    after (a_notice n) = refl
    after (a_view v) = refl

    go : Dec (first_of (hear_checks d b) ≡ 0) → (hear_of d b).desk.seat ≡ d.seat
    go (yes z) = rw z (after (seat_record_of b))
    go (no n) = rw (ne_eqb (first_of (hear_checks d b)) 0 n)

-- what the code's proofs take from here
pub ruleset take_laws = (told_20, told_refused, told_accepted)

pub ruleset view_laws = (heard_view, heard_neither)

pub ruleset hear_laws = (hear_6, heard_notice, heard_unread, mark_4, other_4)
