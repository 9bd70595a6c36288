-- Reasons to refuse, in checking order.
use Rattle.std.specs.Prelude.{Bool, not, List, [], ◌∷◌, ℕ, eqb}
use Rattle.laws.specs.Upd.{ifb}

-- a reason: its number, and whether it applies
pub record Check : Type 0 where
  pub number : ℕ
  pub applies : Bool

-- a reason whose number is found elsewhere, where 0 is none
abbrev pub numbered : ℕ → Check
numbered n = record { number = n; applies = not (eqb n 0) }

-- the first that applies, and 0 where none does
abbrev pub first_of : List Check → ℕ
first_of [] = 0
first_of (c ∷ cs) = ifb c.applies c.number (first_of cs)
