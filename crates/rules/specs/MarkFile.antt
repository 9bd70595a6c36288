-- The file of high marks (request 7): its whole records, which of them are such marks, the last of them, the next.
use Rattle.std.specs.Prelude.{Bool, true, ◌&&◌, ◌||◌, List, [], ◌∷◌, ℕ, ◌+◌, ◌*◌, ◌/◌, min, length, eqb, ltb, leb}
use Rattle.laws.specs.Lists.{pieces}
use Rattle.laws.specs.Upd.{ifb}
use Rattle.records.specs.Numbers.{limit, within}
use Rattle.records.specs.Layout.{high_mark, high_length, encode_high, decode_high, value_of}

-- how far a mark reaches above the number for which it is written
abbrev pub gap : ℕ
gap = 1_000_000

-- the longest file, 20,010 bytes: 2,001 marks
abbrev pub file_limit : ℕ
file_limit = 2_001 * high_length

-- how many whole records a file has, where they end, and these records, in order; what stands behind them is
-- unfinished
abbrev pub whole_count : List ℕ → ℕ
whole_count f = length f / high_length

abbrev pub whole_end : List ℕ → ℕ
whole_end f = high_length * whole_count f

abbrev pub wholes : List ℕ → List (List ℕ)
wholes f = pieces high_length (whole_count f) f

-- number n may come after number p, 0 before the first: more than 1,000,000 above it, the first above 0, or L after a
-- lower one; none past L
unfoldable pub may_follow : ℕ → ℕ → Bool
may_follow p n = within n && (ltb (ifb (eqb p 0) 0 (p + gap)) n || (eqb n limit && ltb p limit))

-- the number of a record; it is such a mark where the one before it has number p
abbrev pub high_number : List ℕ → ℕ
high_number b = (decode_high b).number

unfoldable pub is_high : ℕ → List ℕ → Bool
is_high p b = eqb (value_of b) (value_of high_mark) && eqb (high_number b) (decode_high b).again
    && may_follow p (high_number b)

unfoldable pub all_high : ℕ → List (List ℕ) → Bool
all_high p [] = true
all_high p (b ∷ bs) = is_high p b && all_high (high_number b) bs

-- the number of the last, p where there is none
unfoldable pub last_in : ℕ → List (List ℕ) → ℕ
last_in p [] = p
last_in p (b ∷ bs) = last_in (high_number b) bs

-- the last whole mark of a file, 0 where there is none
unfoldable pub last_high : List ℕ → ℕ
last_high f = last_in 0 (wholes f)

-- 18 does not apply: the file is not too long, and each whole record is such a mark
unfoldable pub good_file : List ℕ → Bool
good_file f = leb (length f) file_limit && all_high 0 (wholes f)

-- the mark that is appended before a record whose largest number is x
abbrev pub next_high : ℕ → ℕ
next_high x = min (x + gap) limit

-- a mark as it is written
unfoldable pub high_bytes : ℕ → List ℕ
high_bytes n = encode_high (record { number = n; again = n })
