-- Answers: what is answered at each of the exits: the view unread; 20; 8, 10 or 17; a bad record; an answer.
use mathlib.Core.Path.{◌≡◌, ap}
use mathlib.Core.List.{List, map}
use Prim.Native.Nat.{ℕ, ◌+◌, ◌≤◌, ◌<◌}
use native.Mathlib.Omega.{arith}
use native.Mathlib.Decide.{ℕ_discrete}
use lib.ListN.{length}
use borrow.Author.Tests.{le-leb, lt-leb, ne_eqb}
use Rattle.laws.specs.Checks.{first_of}
use Rattle.records.specs.Numbers.{room_count}
use Rattle.records.specs.Layout.{view_mark, view_length, check_own, room_of, decode_view, decode_sync}
use Rattle.records.specs.declared.Sync.{Sync}
use Rattle.sheet.specs.declared.Along.TheVariants as answers
use Rattle.sheet.specs.Sheet.{records_on, answer_from, ask_checks, first_bad, along_checks, came_along, along_value}
use Rattle.sheet.specs.Answers.{Tells}
use Rattle.sheet.proofs.AnswerLaws.{tells}

module _ (sheet view : List ℕ) (previous : ℕ) where
  abbrev unread : ℕ
  unread = check_own view_mark view_length view

  abbrev asked : ℕ
  asked = first_of (ask_checks (decode_view view) previous (length sheet))

  abbrev bad : ℕ
  bad = first_bad (records_on sheet)

  abbrev records : List Sync
  records = map decode_sync (records_on sheet)

  pub along_unread : (unread ≡ 0 → ⊥) → came_along sheet view previous ≡ answers.Refused unread
  unfolding came_along along_checks
  along_unread n = rw (ne_eqb unread 0 n, ne_eqb unread 0 n)

  pub along_20 : unread ≡ 0 → room_count ≤ room_of view → came_along sheet view previous ≡ answers.Refused 20
  unfolding came_along along_checks
  along_20 read above = rw (read, le-leb room_count (room_of view) above)

  module _ (read : unread ≡ 0) (in_room : room_of view < room_count) where
    pub along_asked : (asked ≡ 0 → ⊥) → came_along sheet view previous ≡ answers.Refused asked
    unfolding came_along along_checks
    along_asked n = rw (read, lt-leb room_count (room_of view) in_room, ne_eqb asked 0 n, ne_eqb asked 0 n)

    module _ (passed : asked ≡ 0) where
      pub along_bad : (bad ≡ 0 → ⊥) → came_along sheet view previous ≡ answers.Refused bad
      unfolding came_along along_checks
      along_bad n = rw (read, lt-leb room_count (room_of view) in_room, passed, ne_eqb bad 0 n, ne_eqb bad 0 n)

      pub along_good : bad ≡ 0 → came_along sheet view previous ≡ answer_from (decode_view view) previous records
      unfolding came_along along_checks
      along_good z = rw (read, lt-leb room_count (room_of view) in_room, passed, z)

      -- and what that tells
      pub along_tells : bad ≡ 0 → Tells (decode_view view) records previous (came_along sheet view previous)
      along_tells z = rw (along_good z) (tells (decode_view view) records previous)

  -- a seat that is answered as missing is one: no check applied
  pub missing_tells : (seat : ℕ) → came_along sheet view previous ≡ answers.Missing seat
      → Tells (decode_view view) records previous (answers.Missing seat)
  unfolding came_along along_value
  missing_tells seat e = go (ℕ_discrete (first_of (along_checks sheet view previous)) 0)
    where
      n : ℕ
      n = first_of (along_checks sheet view previous)

      go : Dec (n ≡ 0) → Tells (decode_view view) records previous (answers.Missing seat)
      go (yes z) =
          let a : answer_from (decode_view view) previous records ≡ answers.Missing seat = rw z at e in
          rw (← a) (tells (decode_view view) records previous)
      go (no m) =
          let a : answers.Refused n ≡ answers.Missing seat = rw (ne_eqb n 0 m) at e in
          let b : 0 ≡ 1 + seat = ap along_value a in
          absurd (omega arith)
