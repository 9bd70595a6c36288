-- The most bytes that the parts of a line take.
use Rattle.std.specs.Prelude.{ℕ, ◌+◌, ◌*◌}

-- a number below 2^64, in decimal digits
abbrev pub number_length : ℕ
number_length = 20

-- a space and a number
abbrev pub next_length : ℕ
next_length = 1 + number_length

-- four numbers with single spaces
abbrev pub numbers_length : ℕ
numbers_length = number_length + 3 * next_length

-- a space, and two digits for each of n bytes
abbrev pub trace_length : ℕ → ℕ
trace_length n = 2 * n + 1

-- a line that shows n bytes: its numbers, these bytes, its end
abbrev pub line_length : ℕ → ℕ
line_length n = numbers_length + trace_length n + 1
