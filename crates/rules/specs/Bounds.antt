-- Bounds on the numbers of a state: start numbers of at most a and proposal numbers of at most b.
use Rattle.std.specs.Prelude.{◌≡◌, true, ℕ, ◌-◌, ◌≤◌, ◌<◌}
use Rattle.records.specs.Numbers.{limit}
use Rattle.rules.specs.State.{Slot, State, stored_at}

-- of a slot, where something is stored
pub record SlotCapped (a b : ℕ) (v : Slot) : Type 0 where
  pub start : v.present ≡ true → v.proposal.start ≤ a
  pub number : v.present ≡ true → v.proposal.number ≤ b

pub record Capped (a b : ℕ) (s : State) : Type 0 where
  pub view : s.view.number ≤ a
  pub start : s.start ≤ a
  pub number : s.number ≤ b
  pub stored : (o : ℕ) → o < 16 → SlotCapped a b (stored_at s o)

-- where no number is above this, no event makes one above L
abbrev pub low : ℕ
low = limit - 2
