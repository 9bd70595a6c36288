-- What the slow test looks at: whether a stored proposal calls for slow agreement; and, for the number of the slow
-- proposal, one pass over the sixteen offices, what it has found after n of them, and one office more.
use Rattle.std.specs.Prelude.{Bool, ◌&&◌, ◌||◌, not, ℕ, ◌+◌, max, eqb, ltb}
use Rattle.laws.specs.Fin.{anyb, largest}
use Rattle.laws.specs.Upd.{ifb}
use Rattle.seats.specs.Offices.{serves}
use Rattle.records.specs.declared.Proposal.{Proposal}
use Rattle.propose.specs.declared.slow_look.Look.{Look}
use Rattle.rules.specs.State.{Slot, State, fast, slow, used_for, number_in}
use Rattle.rules.specs.Rules.{in_slot, above_own}
use Rattle.event_parts.specs.Parts.{counted_at}

-- another office's proposal of the same members calls for it where it uses the own number, or is slow and, where the
-- agreement under way is slow, has a number above the own one
unfoldable pub calls_by : ℕ → ℕ → ℕ → ℕ → ℕ → Proposal → Bool
calls_by kind own number net o p =
    not (eqb o own) && eqb p.members.bits net
    && (eqb (used_for p own) number || (eqb p.kind slow && (eqb kind fast || ltb number p.number)))

unfoldable pub look_of : ℕ → State → Look
look_of n s =
    record {
      above = anyb n (above_own s);
      joined = largest n (λ o. ifb (above_own s o) (in_slot s o).number 0);
      top = largest n (counted_at s.net.bits s);
    }

-- what is stored for office o counts too
unfoldable pub looked_of : ℕ → ℕ → ℕ → ℕ → Slot → Look → Look
looked_of own number net o v a =
    let p = v.proposal in
    let m = not (eqb o own) && v.present && eqb p.members.bits net in
    let b = m && eqb p.kind slow && ltb number p.number in
    record {
      above = b || a.above;
      joined = max (ifb b p.number 0) a.joined;
      top = max (ifb (serves net o) (number_in v) 0) a.top;
    }

-- the number of the slow proposal, by a look at all of them
abbrev pub number_by : ℕ → Look → ℕ
number_by number a = ifb a.above a.joined (1 + max number a.top)
