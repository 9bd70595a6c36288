-- Numbers as bytes, most significant byte first.
use Rattle.std.specs.Prelude.{List, [], ◌∷◌, ◌++◌, ℕ, ◌+◌, ◌*◌, ◌/◌, ◌%◌, ◌^◌, ◌<◌, get_or}

-- the four bytes of a number, high first
abbrev pub bytes4 : ℕ → List ℕ
bytes4 x = x / 2 ^ 24 % 256 ∷ x / 2 ^ 16 % 256 ∷ x / 2 ^ 8 % 256 ∷ x % 256 ∷ []

-- the number at a place
abbrev pub big4 : List ℕ → ℕ → ℕ
big4 s at = get_or s at 0 * 2 ^ 24 + get_or s (at + 1) 0 * 2 ^ 16 + get_or s (at + 2) 0 * 2 ^ 8 + get_or s (at + 3) 0

-- the same of eight bytes
abbrev pub bytes8 : ℕ → List ℕ
bytes8 x = bytes4 (x / 2 ^ 32) ++ bytes4 (x % 2 ^ 32)

abbrev pub big8 : List ℕ → ℕ → ℕ
big8 s at = big4 s at * 2 ^ 32 + big4 s (at + 4)

-- every entry is below m
abbrev pub Below : ℕ → List ℕ → Type 0
Below m l = (k : ℕ) → get_or l k 0 < m

abbrev pub four_at : List ℕ → ℕ → List ℕ
four_at b at = get_or b at 0 ∷ get_or b (at + 1) 0 ∷ get_or b (at + 2) 0 ∷ get_or b (at + 3) 0 ∷ []

-- the bytes of a list of numbers
unfoldable pub bytes_all : List ℕ → List ℕ
bytes_all [] = []
bytes_all (x ∷ l) = bytes4 x ++ bytes_all l
