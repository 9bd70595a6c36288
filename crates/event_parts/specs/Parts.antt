-- Names for what single functions do or compute.
use Rattle.std.specs.Prelude.{ℕ}
use Rattle.laws.specs.Upd.{ifb}
use Rattle.seats.specs.Offices.{serves}
use Rattle.records.specs.declared.Proposal.{Proposal}
use Rattle.rules.specs.State.{State, stored_at, number_in}
use Rattle.rules.specs.Rules.{Outcome, and_then, received, opens, proposes_fast, tests}

-- a proposal arrives
abbrev pub receiving : Proposal → State → State
receiving p s = received s p

-- the number of what is stored for office o of a set, 0 for any other office
abbrev pub counted_at : ℕ → State → ℕ → ℕ
counted_at net s o = ifb (serves net o) (number_in (stored_at s o)) 0

-- a report at an office with a seat, after the net view has changed
abbrev pub fast_round : State → Outcome
fast_round s = and_then (opens s) (λ u. and_then (proposes_fast u) tests)
