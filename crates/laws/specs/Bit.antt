-- The binary digits of a number.
use Rattle.std.specs.Prelude.{ℕ, zero, suc, ◌/◌, ◌%◌}

-- digit t of x, by recursion on t: every law is an induction on t with omega
unfoldable pub bit : ℕ → ℕ → ℕ
bit x zero = x % 2
bit x (suc t) = bit (x / 2) t
