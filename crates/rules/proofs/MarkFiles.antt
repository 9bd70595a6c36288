-- Files of marks, computed: which pass 18, the last whole mark, the next.
use mathlib.Core.Path.{◌≡◌, refl}
use mathlib.Core.Bool.{Bool, true, false}
use mathlib.Core.List.{List, [], ◌∷◌, ◌++◌}
use Prim.Native.Nat.{ℕ, zero, suc, ◌+◌}
use Rattle.laws.specs.Lists.{pieces}
use Rattle.laws.proofs.Lists.{◌then◌}
use Rattle.records.specs.Layout.{encode_high, decode_high}
use Rattle.rules.specs.MarkFile.{may_follow, is_high, all_high, last_in, last_high, good_file, next_high, high_bytes}

-- three bytes of an unfinished mark
abbrev torn : List ℕ
torn = 72 ∷ 0 ∷ 9 ∷ []

-- no file, one mark, a first mark of 1, two marks, an unfinished third, L after a lower one; L after L, too near, a
-- first mark of 0, two numbers, another mark, above L
pub passing : List Bool
unfolding good_file
passing =
    good_file [] ∷ good_file (high_bytes 1_000_001) ∷ good_file (high_bytes 1)
    ∷ good_file (high_bytes 1 ++ high_bytes 1_000_002)
    ∷ good_file (high_bytes 1 ++ high_bytes 1_000_002 ++ torn)
    ∷ good_file (high_bytes 1_999_999_999 ++ high_bytes 2_000_000_000)
    ∷ good_file (high_bytes 2_000_000_000 ++ high_bytes 2_000_000_000)
    ∷ good_file (high_bytes 1 ++ high_bytes 1_000_001) ∷ good_file (high_bytes 0)
    ∷ good_file (72 ∷ 77 ∷ 0 ∷ 0 ∷ 0 ∷ 1 ∷ 0 ∷ 0 ∷ 0 ∷ 2 ∷ [])
    ∷ good_file (72 ∷ 78 ∷ 0 ∷ 0 ∷ 0 ∷ 1 ∷ 0 ∷ 0 ∷ 0 ∷ 1 ∷ []) ∷ good_file (high_bytes 2_000_000_001) ∷ []

pub passes :
    passing
    ≡ true ∷ true ∷ true ∷ true ∷ true ∷ true ∷ false ∷ false ∷ false ∷ false ∷ false ∷ false ∷ []
unfolding passing pieces may_follow is_high all_high good_file high_bytes encode_high decode_high
passes =
    refl then refl then refl then refl then refl then refl then refl then refl then refl then refl then refl then refl
    then refl

pub lasts :
    last_high [] ∷ last_high (high_bytes 7) ∷ last_high (high_bytes 1 ++ high_bytes 1_000_002 ++ torn) ∷ last_high torn
    ∷ next_high 1 ∷ next_high 1_999_000_000 ∷ next_high 1_999_000_001 ∷ []
    ≡ 0 ∷ 7 ∷ 1_000_002 ∷ 0 ∷ 1_000_001 ∷ 2_000_000_000 ∷ 2_000_000_000 ∷ []
unfolding pieces last_in last_high high_bytes encode_high decode_high
lasts = refl then refl then refl then refl then refl then refl then refl then refl

-- k marks as near as they may be, from n on, and L
nearest : ℕ → ℕ → List ℕ
nearest zero n = high_bytes 2_000_000_000
nearest (suc k) n = high_bytes n ++ nearest k (n + 1_000_001)

-- 2,001 marks and one byte are too long
too_long : good_file (nearest 2_000 1 ++ (72 ∷ [])) ≡ false
unfolding nearest good_file high_bytes encode_high
too_long = refl
