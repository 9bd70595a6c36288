-- For on_report: what the code of a report makes of a state, as the rules say it.
use mathlib.Core.Path.{◌≡◌, ap, ◌∙◌}
use mathlib.Core.Bool.{Bool, true, false}
use Prim.Native.Nat.{ℕ}
use lib.Dec.{eqb}
use Rattle.seats.specs.Seats.{union_of, without_of}
use Rattle.seats.specs.Offices.{serves}
use Rattle.seats.specs.declared.SeatSet.{SeatSet}
use Rattle.records.specs.declared.Report.{Report}
use Rattle.rules.specs.State.{State}
use Rattle.rules.specs.Rules.{nothing_written, net_after, with_net, repeats, seated, change_rule}
use Rattle.rule_laws.proofs.Recipients.{seated_is}
use Rattle.rules.specs.State.{with_net_set}
use Rattle.event_parts.specs.Parts.{fast_round}

-- the net view with joining, then without leaving
pub net_made : (net : ℕ) (r : Report) (with-joining after : ℕ) → with-joining ≡ union_of net r.joining.bits
    → after ≡ without_of with-joining r.leaving.bits → after ≡ net_after net r
unfolding net_after
net_made net r with-joining after a b = b ∙ rw a

-- a repeat, by the code's comparison
pub repeat_made : (s : State) (r : Report) (old net : SeatSet) (t : Bool) → old ≡ s.net
    → net.bits ≡ net_after old.bits r
    → t ≡ eqb net.bits old.bits → t ≡ repeats s r
unfolding repeats
repeat_made s r old net t a b c = c ∙ rw (b, a)

module _ (s : State) (r : Report) (net : SeatSet) (own : ℕ) (e : net.bits ≡ net_after s.net.bits r)
    (o : own ≡ s.own) where
  abbrev t : State
  t = with_net s (net_after s.net.bits r)

  net_is : with_net_set net s ≡ t
  unfolding with_net
  net_is = ap (λ (b : ℕ). with_net_set (record { bits = b }) s) e

  pub change_left : serves net.bits own ≡ false → nothing_written (with_net_set net s) ≡ change_rule t
  unfolding change_rule seated with_net
  change_left f = let g : serves (net_after s.net.bits r) s.own ≡ false = rw (e, o) at f in
      rw g (ap nothing_written net_is)

  pub change_seated : serves net.bits own ≡ true → fast_round (with_net_set net s) ≡ change_rule t
  unfolding change_rule seated with_net
  change_seated f = let g : serves (net_after s.net.bits r) s.own ≡ true = rw (e, o) at f in
      rw g (ap fast_round net_is)

  pub net_seated : serves net.bits own ≡ true → seated (with_net_set net s) ≡ true
  net_seated f = seated_is (with_net_set net s) ∙ (rw o at f)
