-- Numbers and bytes as digits, in ASCII.
use Rattle.std.specs.Prelude.{List, [], ◌∷◌, ◌++◌, ℕ, zero, suc, ◌+◌, ◌/◌, ◌%◌, ltb}
use Rattle.laws.specs.Upd.{ifb}

-- a decimal number, k being no less than its digits after the first
unfoldable pub decimal_in : ℕ → ℕ → List ℕ
decimal_in zero n = (48 + n) ∷ []
decimal_in (suc k) n = ifb (ltb n 10) ((48 + n) ∷ []) (decimal_in k (n / 10) ++ ((48 + n % 10) ∷ []))

-- n has no more digits after the first than n
unfoldable pub decimal : ℕ → List ℕ
decimal n = decimal_in n n

-- its last k digits
unfoldable pub last_digits : ℕ → ℕ → List ℕ
last_digits zero n = []
last_digits (suc k) n = last_digits k (n / 10) ++ ((48 + n % 10) ∷ [])

-- a digit below 16: 0 to 9, then a to f
abbrev pub glyph : ℕ → ℕ
glyph d = ifb (ltb d 10) (48 + d) (87 + d)

-- two digits for each byte
unfoldable pub hex_of : List ℕ → List ℕ
hex_of [] = []
hex_of (b ∷ bytes) = glyph (b / 16) ∷ glyph (b % 16) ∷ hex_of bytes
