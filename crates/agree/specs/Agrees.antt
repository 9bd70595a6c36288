-- What the agreement test asks of what is stored, by what the code has read of the state; and the lowest of some
-- offices without it.
use Rattle.std.specs.Prelude.{Bool, ◌&&◌, ◌||◌, not, ℕ, eqb}
use Rattle.laws.specs.Lowest.{lowest_below}
use Rattle.seats.specs.Seats.{has}
use Rattle.rules.specs.State.{Slot, State, slow}
use Rattle.rules.specs.Rules.{agrees_in}

-- what is stored is a proposal of a kind and members, and if it is slow of a number
unfoldable pub agrees_by : ℕ → ℕ → ℕ → Slot → Bool
agrees_by kind number net v =
    let p = v.proposal in
    v.present && eqb p.kind kind && eqb p.members.bits net && (not (eqb kind slow) || eqb p.number number)

-- of a set of offices the lowest without the proposal, 16 where there is none
unfoldable pub lowest_in : State → ℕ → ℕ
lowest_in s left = lowest_below 16 (λ o. has left o && not (agrees_in s.mode s o))
