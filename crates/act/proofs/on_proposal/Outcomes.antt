-- For on_proposal: what the code of a proposal makes of a state, as the rules say it.
use mathlib.Core.Path.{◌≡◌}
use mathlib.Core.Bool.{true, false}
use lib.Dec.{eqb}
use Rattle.seats.specs.declared.SeatSet.{SeatSet}
use Rattle.records.specs.declared.Proposal.{Proposal}
use Rattle.rules.specs.State.{State}
use Rattle.rules.specs.Rules.{nothing_written, tests, proposal_rule}
use Rattle.event_parts.specs.Parts.{receiving}

-- with the net view or with other members
module _ (s : State) (p : Proposal) (net : SeatSet) (e : net ≡ s.net) where
  pub proposal_other : eqb p.members.bits net.bits ≡ false → nothing_written (receiving p s) ≡ proposal_rule s p
  unfolding proposal_rule
  proposal_other f = let g : eqb p.members.bits s.net.bits ≡ false = rw e at f in rw g

  pub proposal_same : eqb p.members.bits net.bits ≡ true → tests (receiving p s) ≡ proposal_rule s p
  unfolding proposal_rule
  proposal_same f = let g : eqb p.members.bits s.net.bits ≡ true = rw e at f in rw g
