-- Sheets of three desks in room 5: seats 0 and 1 at office 0 and seat 4 at office 1; what the definition gives, and
-- what is to be said.
use mathlib.Core.List.{List, [], ◌∷◌, ◌++◌, flatten}
use Rattle.std.specs.Prelude.{ℕ, ◌+◌, take, replicate}
use Rattle.laws.specs.Big.{bytes_all}
use Rattle.laws.specs.Bit.{bit}
use Rattle.laws.specs.Fin.{anyb}
use Rattle.laws.specs.Lists.{pieces}
use Rattle.laws.specs.Lowest.{lowest_below}
use Rattle.laws.specs.Tab.{tab}
use Rattle.seats.specs.Seats.{has, contains_of}
use Rattle.seats.specs.Offices.{office_of, serves, packed}
use Rattle.records.specs.Numbers.{limit}
use Rattle.records.specs.Layout.{encode_notice, encode_view, encode_sync, decode_view, decode_sync, mark_of, check_for}
use Rattle.records.specs.Layout.{check_own, room_of}
use Rattle.sheet.specs.declared.Along.{Along}
use Rattle.sheet.specs.declared.Along.TheVariants as answers
use Rattle.sheet.specs.Sheet.{counts, record_for, lacks_record, names_same, answer_from, asked_above}
use Rattle.sheet.specs.Sheet.{no_sheet, ask_checks, sync_checks, first_bad, along_checks, came_along}

-- the answer; to unfold it is to unfold the definitions
unfoldable pub answering : List ℕ → List ℕ → ℕ → Along
unfolding bytes_all bit anyb lowest_below tab has contains_of office_of serves packed encode_notice encode_view
    encode_sync
    room_of decode_view decode_sync mark_of check_for
    check_own pieces counts record_for lacks_record names_same answer_from asked_above no_sheet ask_checks sync_checks
    first_bad along_checks came_along
answering sheet view previous = came_along sheet view previous

-- a view by its room, its number, its members, and the start numbers of offices 0, 1 and 2
abbrev viewed_in : ℕ → ℕ → ℕ → ℕ → ℕ → ℕ → List ℕ
viewed_in room number members a b c =
    encode_view room
    (record { number = number; members = record { bits = members }; starts = a ∷ b ∷ c ∷ tab 13 (λ o. 0) })

abbrev viewed : ℕ → ℕ → ℕ → ℕ → ℕ → List ℕ
viewed = viewed_in 5

-- the members {0, 1, 4}, with start numbers 3 and 7; the empty view
abbrev shown : List ℕ
shown = viewed 8 0b10011 3 7 0

abbrev empty : List ℕ
empty = viewed 8 0 0 0 0

-- a sync record by its seat, start number and previous view number
abbrev synced : ℕ → ℕ → ℕ → List ℕ
synced seat start previous = encode_sync (record { seat = seat; start = start; previous = previous })

-- those of the three desks that come from view 2
abbrev sync0 : List ℕ
sync0 = synced 0 3 2

abbrev sync1 : List ℕ
sync1 = synced 1 3 2

abbrev sync4 : List ℕ
sync4 = synced 4 7 2

unfoldable pub computed_answers : List Along
computed_answers =
    answering (sync0 ++ sync1 ++ sync4) shown 2 ∷ answering (sync4 ++ sync1 ++ sync0) shown 2
    ∷ answering (sync0 ++ sync1 ++ sync4) shown 1
    ∷ answering (sync0 ++ synced 1 3 1 ++ sync4) shown 2 ∷ answering (sync0 ++ synced 1 3 1 ++ sync4) shown 1
    ∷ answering (sync0 ++ sync4) shown 2 ∷ answering (sync0 ++ sync1) shown 2
    ∷ answering (sync0 ++ sync1 ++ synced 5 7 2) shown 2
    ∷ answering (sync0 ++ synced 0 3 1 ++ sync1 ++ sync4) shown 2
    ∷ answering (synced 0 3 1 ++ sync0 ++ sync1 ++ sync4) shown 2
    ∷ answering (synced 0 2 2 ++ sync1 ++ sync4) shown 2 ∷ answering (synced 0 2 1 ++ sync0 ++ sync1 ++ sync4) shown 2
    ∷ answering [] shown 2 ∷ answering [] empty 2 ∷ answering (sync0 ++ synced 9 0 2) empty 2
    ∷ answering (synced 63 0 limit) (viewed limit 0 0 0 0) limit
    ∷ answering (sync0 ++ sync1 ++ sync4) (viewed_in 0 8 0b10011 3 7 0) 2
    ∷ answering (sync0 ++ sync1 ++ sync4) (viewed_in 7 8 0b10011 3 7 0) 2
    ∷ []

abbrev members : ℕ → Along
members set = answers.Members (record { bits = set })

unfoldable pub stated_answers : List Along
stated_answers =
    -- all three come from view 2, in any order; none from view 1
    members 0b10011 ∷ members 0b10011 ∷ members 0
    -- seat 1 comes from view 1
    ∷ members 0b10001 ∷ members 0b10
    -- seat 1's record is missing; seat 4's; seat 5's is none of seat 4's
    ∷ answers.Missing 1 ∷ answers.Missing 4 ∷ answers.Missing 4
    -- two records of seat 0: the first decides
    ∷ members 0b10011 ∷ members 0b10010
    -- one with another start number does not count, and is not bad; one behind it counts
    ∷ answers.Missing 0 ∷ members 0b10011
    -- an empty sheet; an empty view, with an empty sheet and with records of others
    ∷ answers.Missing 0 ∷ members 0 ∷ members 0
    -- L is not above L
    ∷ members 0
    -- the first room, and the last
    ∷ members 0b10011 ∷ members 0b10011
    ∷ []

unfoldable pub computed_refusals : List Along
computed_refusals =
    answering [] [] 2 ∷ answering [] (0x4e ∷ 0x45 ∷ []) 2
    ∷ answering [] (encode_notice 5 (record { start = 3; members = record { bits = 0b10011 } })) 2
    ∷ answering [] [] (limit + 1)
    ∷ answering [] (take 78 shown) 2 ∷ answering [] (shown ++ (0 ∷ [])) 2 ∷ answering [] (0x56 ∷ 0x57 ∷ []) (limit + 1)
    ∷ answering [] (viewed_in 8 8 0b10011 3 7 0) 2 ∷ answering [] (viewed_in 255 8 0b10011 3 7 0) 2
    ∷ answering [] (take 78 (viewed_in 8 8 0b10011 3 7 0)) 2 ∷ answering [] (viewed_in 8 8 0b10011 3 7 0) (limit + 1)
    ∷ answering [] (viewed (limit + 1) 0b10011 3 7 0) 2 ∷ answering [] (viewed 8 0b10011 3 (limit + 1) 0) 2
    ∷ answering [] shown (limit + 1)
    ∷ answering [] (viewed 8 0b10011 3 7 1) (limit + 1)
    ∷ answering [] (viewed 8 0b10011 3 7 1) 2 ∷ answering (0 ∷ []) (viewed 8 0b10011 3 7 1) 2
    ∷ answering (take 10 sync0) shown 2 ∷ answering (sync0 ++ (0 ∷ [])) shown 2 ∷ answering (tab 12 (λ k. 0)) shown 2
    ∷ answering (0x53 ∷ 0x43 ∷ tab 9 (λ k. 0)) shown 2 ∷ answering (0x53 ∷ 0x43 ∷ 64 ∷ tab 8 (λ k. 0)) shown 2
    ∷ answering (synced 64 3 2) shown 2 ∷ answering (synced 255 3 2) empty 2
    ∷ answering (synced 64 (limit + 1) 2) shown 2
    ∷ answering (synced 0 (limit + 1) 2) shown 2 ∷ answering (synced 63 3 (limit + 1)) shown 2
    ∷ answering (sync0 ++ synced 1 3 (limit + 1) ++ synced 64 3 2) shown 2
    ∷ answering (synced 64 3 2 ++ tab 11 (λ k. 0)) shown 2
    ∷ []

unfoldable pub stated_refusals : List Along
stated_refusals =
    -- no view: no bytes, a report's mark, a start notice; before 8 by one's own number
    answers.Refused 4 ∷ answers.Refused 4 ∷ answers.Refused 4
    ∷ answers.Refused 4
    -- a byte less, a byte more; before 8 by one's own number
    ∷ answers.Refused 5 ∷ answers.Refused 5 ∷ answers.Refused 5
    -- a room above 7; behind 5, before 8
    ∷ answers.Refused 20 ∷ answers.Refused 20
    ∷ answers.Refused 5 ∷ answers.Refused 20
    -- above L: the view's number, one of its start numbers, one's own; before 10
    ∷ answers.Refused 8 ∷ answers.Refused 8 ∷ answers.Refused 8
    ∷ answers.Refused 8
    -- a start number of an office outside the members; before 17
    ∷ answers.Refused 10 ∷ answers.Refused 10
    -- no multiple of 11; before a bad record's 4
    ∷ answers.Refused 17 ∷ answers.Refused 17 ∷ answers.Refused 17
    -- a record with a notice's mark; before 6
    ∷ answers.Refused 4 ∷ answers.Refused 4
    -- a seat above 63, with members or without; before 8
    ∷ answers.Refused 6 ∷ answers.Refused 6 ∷ answers.Refused 6
    -- a start number above L, a previous view number above L
    ∷ answers.Refused 8 ∷ answers.Refused 8
    -- the first bad record decides
    ∷ answers.Refused 8 ∷ answers.Refused 6
    ∷ []

-- n records of seat 0, and those of the other two: 512 records are a sheet, 513 are 5,643 bytes and none
abbrev full : ℕ → List ℕ
full n = flatten (replicate n sync0) ++ sync1 ++ sync4

unfoldable pub computed_full : List Along
unfolding flatten
computed_full = answering (full 510) shown 2 ∷ answering (full 511) shown 2 ∷ []

unfoldable pub stated_full : List Along
stated_full = members 0b10011 ∷ answers.Refused 17 ∷ []
