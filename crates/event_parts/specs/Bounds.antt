-- A bound on the numbers of a state that an event works with.
use Rattle.std.specs.Prelude.{ℕ, ◌≤◌, ◌<◌}
use Rattle.rules.specs.State.{State, stored_at}
use Rattle.rules.specs.Bounds.{SlotCapped}

pub record Bounded (k : ℕ) (s : State) : Type 0 where
  pub own : s.own < 16
  pub view : s.view.number ≤ k
  pub start : s.start ≤ k
  pub number : s.number ≤ k
  pub stored : (o : ℕ) → o < 16 → SlotCapped k k (stored_at s o)

-- numbers of at most L stay below the first until the tests, and below the second while one event goes on
abbrev pub early : ℕ
early = 2_500_000_000

abbrev pub reach : ℕ
reach = 3_000_000_000
