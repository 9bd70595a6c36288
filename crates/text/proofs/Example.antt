-- The example of document 01: office 0 and the records of A, B, C, D, in room 0. Another, in several rooms.
use mathlib.Core.Path.{◌≡◌, refl}
use mathlib.Core.Bool.{false}
use mathlib.Core.List.{List, [], ◌∷◌, ◌++◌}
use Prim.Native.Nat.{ℕ}
use Rattle.laws.specs.Tab.{tab}
use Rattle.records.specs.Layout.{report_mark, encode_report, encode_proposal}
use Rattle.records.specs.Run.{run_check, run_size, run_first, run_rest}
use Rattle.rules.specs.Refusals.{made_of}
use Rattle.rules.specs.Tables.{well_table, made_table, barred, act_table, read_of, step_table}
use Rattle.rules.specs.Days.{given}
use Rattle.text.specs.Digits.{decimal_in, decimal}
use Rattle.text.specs.Text.{trace_of, line_of}
use Rattle.text.specs.Lines.{front_of, behind_of, goes_on, roomless, view_for, line_for, lines_in, lines_of, no_office}
use Rattle.text.specs.Lines.{text_of}

-- in a room: a report of joining seats, and P(fast, 1, 1, 0, 0) with members {0, 4}
abbrev report : ℕ → ℕ → List ℕ
report room joining = encode_report room (record { joining = record { bits = joining }; leaving = record { bits = 0 } })

abbrev P : ℕ → List ℕ
P room = encode_proposal room
    (record {
      sender = 1;
      kind = 1;
      members = record { bits = 0b10001 };
      start = 1;
      number = 1;
      used = tab 16 (λ o. 0);
    })

-- the text for office 0 and records; to unfold it is to unfold the rules
unfoldable text_for : List ℕ → List ℕ
unfolding given made_of well_table made_table barred act_table read_of step_table run_check run_size run_first run_rest decimal_in
    decimal trace_of line_of front_of behind_of goes_on roomless view_for line_for lines_in lines_of no_office text_of
text_for b = text_of false (0 ∷ b)

pub computed : List ℕ
computed = text_for (report 0 0b1 ++ (report 0 0b10000 ++ (P 0 ++ P 0)))

-- 1 0 94 2, 2 0 100 2, 3 0 79 3, 4 11 0 3
pub stated : List ℕ
stated =
    0x31 ∷ 0x20 ∷ 0x30 ∷ 0x20 ∷ 0x39 ∷ 0x34 ∷ 0x20 ∷ 0x32 ∷ 0x0a
    ∷ 0x32 ∷ 0x20 ∷ 0x30 ∷ 0x20 ∷ 0x31 ∷ 0x30 ∷ 0x30 ∷ 0x20 ∷ 0x32 ∷ 0x0a
    ∷ 0x33 ∷ 0x20 ∷ 0x30 ∷ 0x20 ∷ 0x37 ∷ 0x39 ∷ 0x20 ∷ 0x33 ∷ 0x0a
    ∷ 0x34 ∷ 0x20 ∷ 0x31 ∷ 0x31 ∷ 0x20 ∷ 0x30 ∷ 0x20 ∷ 0x33 ∷ 0x0a ∷ []

pub example : computed ≡ stated
unfolding computed stated text_for
example = refl

-- A in room 3; A in room 8, which is none; P in room 7, before any report there; B and C in room 3; a cut report
pub computed_rooms : List ℕ
computed_rooms =
    text_for (report 3 0b1 ++ (report 8 0b1 ++ (P 7 ++ (report 3 0b10000 ++ (P 3 ++ (report_mark ++ (3 ∷ [])))))))

-- 1 0 94 2, 2 20 0 0, 3 0 0 0, 4 0 100 2, 5 0 79 3, 6 5 0 0
pub stated_rooms : List ℕ
stated_rooms =
    0x31 ∷ 0x20 ∷ 0x30 ∷ 0x20 ∷ 0x39 ∷ 0x34 ∷ 0x20 ∷ 0x32 ∷ 0x0a
    ∷ 0x32 ∷ 0x20 ∷ 0x32 ∷ 0x30 ∷ 0x20 ∷ 0x30 ∷ 0x20 ∷ 0x30 ∷ 0x0a
    ∷ 0x33 ∷ 0x20 ∷ 0x30 ∷ 0x20 ∷ 0x30 ∷ 0x20 ∷ 0x30 ∷ 0x0a
    ∷ 0x34 ∷ 0x20 ∷ 0x30 ∷ 0x20 ∷ 0x31 ∷ 0x30 ∷ 0x30 ∷ 0x20 ∷ 0x32 ∷ 0x0a
    ∷ 0x35 ∷ 0x20 ∷ 0x30 ∷ 0x20 ∷ 0x37 ∷ 0x39 ∷ 0x20 ∷ 0x33 ∷ 0x0a
    ∷ 0x36 ∷ 0x20 ∷ 0x35 ∷ 0x20 ∷ 0x30 ∷ 0x20 ∷ 0x30 ∷ 0x0a ∷ []

pub in_rooms : computed_rooms ≡ stated_rooms
unfolding computed_rooms stated_rooms text_for
in_rooms = refl
