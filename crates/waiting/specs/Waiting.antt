-- Whom an office waits for: the lowest-numbered office of the net view without the proposal that the agreement test
-- asks for.
use Rattle.std.specs.Prelude.{Bool, ◌&&◌, ◌||◌, not, ℕ, ltb}
use Rattle.laws.specs.Lowest.{lowest_below, lowest_of_all}
use Rattle.laws.specs.Upd.{ifb}
use Rattle.seats.specs.Offices.{serves}
use Rattle.rules.specs.State.{State}
use Rattle.rules.specs.Rules.{seated, agrees_in, is_none}
use Rattle.rules.specs.Refusals.{well_formed}
use Rattle.waiting.specs.declared.Waiting.{Waiting}
use Rattle.waiting.specs.declared.Waiting.TheVariants as answers

-- office o is of the net view and has not the proposal that the agreement test asks for
unfoldable pub lacks : State → ℕ → Bool
lacks s o = serves s.net.bits o && not (agrees_in s.mode s o)

-- the lowest office that lacks it, 16 where none does: the look stops at the first
unfoldable pub lowest_lacking : State → ℕ
lowest_lacking s = lowest_below 16 (lacks s)

-- the same by going through all sixteen
unfoldable pub lowest_lacking_of_all : State → ℕ
lowest_lacking_of_all s = lowest_of_all 16 (lacks s)

-- mode none, or no seat of this office in the net view
unfoldable pub for_nobody : State → Bool
for_nobody s = is_none s.mode || not (seated s)

-- the answer for an office that was found, 16 where none was
abbrev pub found : ℕ → Waiting
found o = ifb (ltb o 16) (answers.For o) answers.Met

abbrev pub answer_by : (State → ℕ) → State → Waiting
answer_by look s = ifb (well_formed s) (ifb (for_nobody s) answers.Nobody (found (look s))) answers.Malformed

-- the answer, and the one found by going through all sixteen
unfoldable pub waiting_for : State → Waiting
waiting_for s = answer_by lowest_lacking s

unfoldable pub waiting_for_of_all : State → Waiting
waiting_for_of_all s = answer_by lowest_lacking_of_all s

-- document 01's number for an answer
unfoldable pub refusal_in : Waiting → ℕ
refusal_in answers.Malformed = 2
refusal_in answers.NoRoom = 20
refusal_in answers.Nobody = 0
refusal_in answers.Met = 0
refusal_in (answers.For o) = 0

-- the values for C that are no office
abbrev pub met_value : ℕ
met_value = 16

abbrev pub nobody_value : ℕ
nobody_value = 17

-- and the value of an answer for C: an office, or that it is met, or nobody, also with 2 and 20
unfoldable pub value_in : Waiting → ℕ
value_in answers.Malformed = nobody_value
value_in answers.NoRoom = nobody_value
value_in answers.Nobody = nobody_value
value_in answers.Met = met_value
value_in (answers.For o) = o
