-- Restarts, computed: what is refused and where the numbers begin; the largest number of a record; how the records of
-- an answer leave.
use mathlib.Core.Path.{◌≡◌, refl}
use mathlib.Core.List.{List, [], ◌∷◌, ◌++◌, map}
use Prim.Native.Nat.{ℕ}
use Rattle.laws.specs.Fin.{largest}
use Rattle.laws.specs.Lists.{pieces}
use Rattle.laws.specs.Tab.{tab}
use Rattle.laws.proofs.Lists.{◌then◌}
use Rattle.records.specs.Layout.{encode_high, decode_high}
use Rattle.rules.specs.MarkFile.{may_follow, is_high, all_high, last_in, last_high, good_file, high_bytes}
use Rattle.rules.specs.State.{slow}
use Rattle.rules.specs.Rules.{Written, notice, proposal, view, restarted, fresh}
use Rattle.rules.specs.Refusals.{Made, restart_checks, restart_of}
use Rattle.rules.specs.Leaving.{largest_in, Action, puts, leaves, puts_all, actions_from, actions_of, file_after}

-- the refusal, the own office, and proposal, start and view number
abbrev seen_of : Made → List ℕ
seen_of m = m.refusal ∷ m.state.own ∷ m.state.number ∷ m.state.start ∷ m.state.view.number ∷ []

-- a mark of 7 and three bytes of a second one
abbrev torn_file : List ℕ
torn_file = high_bytes 7 ++ (72 ∷ 77 ∷ 9 ∷ [])

-- no file, one mark, an unfinished second one, a file that is no mark, the same at an office above 15
pub restarts :
    seen_of (restart_of 3 []) ∷ seen_of (restart_of 3 (high_bytes 1_000_001)) ∷ seen_of (restart_of 3 torn_file)
    ∷ seen_of (restart_of 3 (high_bytes 0)) ∷ seen_of (restart_of 16 (high_bytes 0)) ∷ []
    ≡ (0 ∷ 3 ∷ 0 ∷ 0 ∷ 0 ∷ []) ∷ (0 ∷ 3 ∷ 1_000_001 ∷ 1_000_001 ∷ 1_000_001 ∷ []) ∷ (0 ∷ 3 ∷ 7 ∷ 7 ∷ 7 ∷ [])
    ∷ (18 ∷ 0 ∷ 0 ∷ 0 ∷ 0 ∷ []) ∷ (1 ∷ 0 ∷ 0 ∷ 0 ∷ 0 ∷ []) ∷ []
unfolding restart_of restart_checks good_file all_high is_high may_follow last_high last_in pieces high_bytes
    encode_high decode_high restarted fresh
restarts = refl then refl then refl then refl then refl then refl

-- all numbers of four bytes count: a used number above the proposal's own, a start number of another office above the
-- view's
abbrev numbers : ℕ → List ℕ
numbers n = 1 ∷ n ∷ tab 14 (λ o. 0)

abbrev proposes : ℕ → Written
proposes n =
    proposal
    (record {
      sender = 0;
      kind = slow;
      members = record { bits = 0b10001 };
      start = 2;
      number = 3;
      used = numbers n;
    })

abbrev shows : ℕ → Written
shows n = view (record { number = 4; members = record { bits = 0b10001 }; starts = numbers n })

abbrev begins : ℕ → Written
begins n = notice (record { start = n; members = record { bits = 0b10001 } })

pub largests :
    largest_in (begins 5) ∷ largest_in (proposes 0) ∷ largest_in (proposes 9) ∷ largest_in (shows 0)
    ∷ largest_in (shows 9)
    ∷ []
    ≡ 5 ∷ 3 ∷ 9 ∷ 4 ∷ 9 ∷ []
unfolding largest tab
largests = refl then refl then refl then refl then refl then refl

-- An answer of three records with an empty file: the first mark, byte by byte, and then the first record; no mark
-- before the second; the third is above the mark, and one more goes before it.
abbrev answer : List Written
answer = begins 2 ∷ proposes 1 ∷ shows 1_000_003 ∷ []

pub leaving :
    actions_of [] answer
    ≡ puts 0 72 ∷ puts 1 77 ∷ puts 2 0 ∷ puts 3 15 ∷ puts 4 66 ∷ puts 5 66 ∷ puts 6 0 ∷ puts 7 15 ∷ puts 8 66
    ∷ puts 9 66 ∷ leaves (begins 2) ∷ leaves (proposes 1)
    ∷ puts 10 72 ∷ puts 11 77 ∷ puts 12 0 ∷ puts 13 30 ∷ puts 14 132 ∷ puts 15 131 ∷ puts 16 0 ∷ puts 17 30
    ∷ puts 18 132 ∷ puts 19 131 ∷ leaves (shows 1_000_003) ∷ []
unfolding actions_from puts_all high_bytes encode_high last_high last_in pieces largest tab
leaving = refl

pub after_leaving : file_after [] (actions_of [] answer) ≡ high_bytes 1_000_002 ++ high_bytes 2_000_003
unfolding actions_from puts_all high_bytes encode_high decode_high file_after last_high last_in pieces largest tab
after_leaving = refl

-- where the bytes go, and a record that leaves as 99: at the last mark's own number there is no mark, above it one;
-- over a torn mark; three marks in one answer, each directly before its record; L in place of more
abbrev place_of : Action → ℕ
place_of (puts place byte) = place
place_of (leaves w) = 99

abbrev places : List ℕ → List Written → List ℕ
places f ws = map place_of (actions_of f ws)

pub marked :
    places (high_bytes 5) (begins 5 ∷ []) ∷ places (high_bytes 5) (begins 6 ∷ []) ∷ places torn_file (begins 8 ∷ [])
    ∷ places [] (begins 2 ∷ proposes 1_000_003 ∷ shows 2_000_004 ∷ [])
    ∷ file_after torn_file (actions_of torn_file (begins 8 ∷ []))
    ∷ file_after [] (actions_of [] (begins 1_999_000_001 ∷ [])) ∷ []
    ≡ (99 ∷ []) ∷ (10 ∷ 11 ∷ 12 ∷ 13 ∷ 14 ∷ 15 ∷ 16 ∷ 17 ∷ 18 ∷ 19 ∷ 99 ∷ [])
    ∷ (10 ∷ 11 ∷ 12 ∷ 13 ∷ 14 ∷ 15 ∷ 16 ∷ 17 ∷ 18 ∷ 19 ∷ 99 ∷ [])
    ∷ (0 ∷ 1 ∷ 2 ∷ 3 ∷ 4 ∷ 5 ∷ 6 ∷ 7 ∷ 8 ∷ 9 ∷ 99 ∷ 10 ∷ 11 ∷ 12 ∷ 13 ∷ 14 ∷ 15 ∷ 16 ∷ 17 ∷ 18 ∷ 19 ∷ 99
    ∷ 20 ∷ 21 ∷ 22 ∷ 23 ∷ 24 ∷ 25 ∷ 26 ∷ 27 ∷ 28 ∷ 29 ∷ 99 ∷ [])
    ∷ (high_bytes 7 ++ high_bytes 1_000_008) ∷ high_bytes 2_000_000_000 ∷ []
unfolding actions_from puts_all high_bytes encode_high decode_high file_after last_high last_in pieces largest tab
marked = refl then refl then refl then refl then refl then refl then refl
