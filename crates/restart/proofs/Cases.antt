-- For leaving: answers computed, an edge each.
use mathlib.Core.Path.{◌≡◌, refl}
use mathlib.Core.List.{List, [], ◌∷◌, ◌++◌}
use Prim.Native.Nat.{ℕ}
use lib.ListN.{take}
use Rattle.laws.specs.Big.{bytes_all}
use Rattle.laws.specs.Fin.{largest}
use Rattle.laws.specs.Tab.{tab}
use Rattle.records.specs.Layout.{mark_of, encode_notice, decode_notice, encode_view, decode_view, encode_high}
use Rattle.rules.specs.MarkFile.{high_bytes}
use Rattle.restart.specs.Before.{leaving_length, leaving_record, front_checks, before_checks, no_leave, before_of}
use Rattle.restart.specs.Before.{out_before}

-- in room 5, a start notice with this number; in room 255, which is not looked at, a view whose largest number is the
-- start number of office 1
unfoldable told : ℕ → List ℕ
told n = encode_notice 5 (record { start = n; members = record { bits = 3 } })

unfoldable seen : List ℕ
seen = encode_view 255 (record {
  number = 5;
  members = record { bits = 17 };
  starts = 4 ∷ 9 ∷ 0 ∷ 0 ∷ 0 ∷ 0 ∷ 0 ∷ 0 ∷ 0 ∷ 0 ∷ 0 ∷ 0 ∷ 0 ∷ 0 ∷ 0 ∷ 0 ∷ [];
})

-- a mark is due above the last, not at it; anything may stand behind the record
due : before_of 0 (told 1 ++ (7 ∷ [])) 10 ≡ record { refusal = 0; length = 15; mark = 1_000_001 }
unfolding before_of before_checks front_checks leaving_length leaving_record mark_of encode_notice decode_notice told
due = refl

not_due : before_of 1 (told 1) 10 ≡ record { refusal = 0; length = 15; mark = 1 }
unfolding before_of before_checks front_checks leaving_length leaving_record mark_of encode_notice decode_notice told
not_due = refl

-- no mark past L
near_limit_lem : before_of 1 (told 1_999_000_001) 10 ≡ record { refusal = 0; length = 15; mark = 2_000_000_000 }
unfolding before_of before_checks front_checks leaving_length leaving_record mark_of encode_notice decode_notice told
near_limit_lem = refl

at_limit_lem : before_of 2_000_000_000 (told 2_000_000_000) 10
    ≡ record { refusal = 0; length = 15; mark = 2_000_000_000 }
unfolding before_of before_checks front_checks leaving_length leaving_record mark_of encode_notice decode_notice told
at_limit_lem = refl

-- other offices' start numbers count
others : before_of 8 seen 10 ≡ record { refusal = 0; length = 79; mark = 1_000_009 }
unfolding before_of before_checks front_checks leaving_length leaving_record mark_of encode_view decode_view seen
    bytes_all tab largest
others = refl

-- 3, 4, 5 and 8, the first that applies
short_output_lem : before_of 0 [] 9 ≡ no_leave 3
unfolding before_of before_checks front_checks leaving_length leaving_record mark_of
short_output_lem = refl

half_mark : before_of 2_000_000_001 (0x53 ∷ []) 10 ≡ no_leave 4
unfolding before_of before_checks front_checks leaving_length leaving_record mark_of
half_mark = refl

report_mark_lem : before_of 0 (0x4e ∷ 0x45 ∷ []) 10 ≡ no_leave 4
unfolding before_of before_checks front_checks leaving_length leaving_record mark_of
report_mark_lem = refl

short : before_of 2_000_000_001 (take 14 (told 1)) 10 ≡ no_leave 5
unfolding before_of before_checks front_checks leaving_length leaving_record mark_of encode_notice decode_notice told
short = refl

last_above : before_of 2_000_000_001 (told 1) 10 ≡ no_leave 8
unfolding before_of before_checks front_checks leaving_length leaving_record mark_of encode_notice decode_notice told
last_above = refl

number_above : before_of 2_000_000_000 (told 2_000_000_001) 10 ≡ no_leave 8
unfolding before_of before_checks front_checks leaving_length leaving_record mark_of encode_notice decode_notice told
number_above = refl

-- ten bytes of the output are touched, or none
marked : out_before 0 (told 1) (tab 12 (λ k. k))
    ≡ 0x48 ∷ 0x4d ∷ 0 ∷ 0x0f ∷ 0x42 ∷ 0x41 ∷ 0 ∷ 0x0f ∷ 0x42 ∷ 0x41 ∷ 10 ∷ 11 ∷ []
unfolding before_of before_checks front_checks leaving_length leaving_record mark_of encode_notice decode_notice told
    out_before high_bytes encode_high tab
marked = refl

untouched : out_before 1 (told 1) (tab 12 (λ k. k)) ≡ tab 12 (λ k. k)
unfolding before_of before_checks front_checks leaving_length leaving_record mark_of encode_notice decode_notice told
    out_before tab
untouched = refl
