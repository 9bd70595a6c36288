-- along: the number and the word of each answer.
use mathlib.Core.Path.{◌≡◌}
use Prim.Native.Nat.{ℕ, ◌+◌}
use Rattle.seats.specs.declared.SeatSet.{SeatSet}
use Rattle.sheet.specs.declared.Along.{Along}
use Rattle.sheet.specs.declared.Along.TheVariants as answers
use Rattle.sheet.specs.Sheet.{along_refusal, along_value}
use Rattle.calls.specs.Number.{call_number}
use Rattle.calls.specs.AlongWord.{in_word}

module _ (word r : ℕ) (a : Along) where
  pub along_refused : (n : ℕ) → answers.Refused n ≡ a → r ≡ call_number 0 n
      → record { number = r; members = word } ≡ in_word word a
  unfolding in_word along_refusal along_value
  along_refused n is e = rw (← is, e)

  pub along_missing : (seat : ℕ) → answers.Missing seat ≡ a → r ≡ call_number (1 + seat) 0
      → record { number = r; members = word } ≡ in_word word a
  unfolding in_word along_refusal along_value
  along_missing seat is e = rw (← is, e)

  pub along_members : (set : SeatSet) → answers.Members set ≡ a → r ≡ call_number 0 0
      → record { number = r; members = set.bits } ≡ in_word word a
  unfolding in_word along_refusal along_value
  along_members set is e = rw (← is, e)

pub ruleset along_laws = (along_refused, along_missing, along_members)
