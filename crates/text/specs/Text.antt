-- Lines as text, in ASCII.
use Rattle.std.specs.Prelude.{List, [], ◌∷◌, ◌++◌, ℕ}
use Rattle.text.specs.Digits.{decimal, hex_of}

-- a space and the bytes; nothing where there are none
unfoldable pub trace_of : List ℕ → List ℕ
trace_of [] = []
trace_of (b ∷ bytes) = 32 ∷ hex_of (b ∷ bytes)

-- four numbers with single spaces
abbrev pub numbers_of : ℕ → ℕ → ℕ → ℕ → List ℕ
numbers_of number refusal written view =
    decimal number ++ (32 ∷ decimal refusal ++ (32 ∷ decimal written ++ (32 ∷ decimal view)))

-- a line: its four numbers, the bytes shown behind them, its end
unfoldable pub line_of : ℕ → ℕ → ℕ → ℕ → List ℕ → List ℕ
line_of number refusal written view shown = numbers_of number refusal written view ++ (trace_of shown ++ (10 ∷ []))
