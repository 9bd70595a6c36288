use mathlib.Core.Path.{◌≡◌, sym, ap, ◌∙◌}
use mathlib.Core.Bool.{true}
use Prim.Native.Nat.{ℕ}
use Rattle.seats.specs.declared.SeatSet.{SeatSet}
use Rattle.seats.specs.Offices.{serves}
use Rattle.rules.specs.State.{State}
use Rattle.rules.specs.Rules.{Outcome, net_after, with_net, change_rule}
use Rattle.records.specs.Numbers.{limit}
use Rattle.rule_laws.proofs.Sizes.{change_size}
use Rattle.records.specs.declared.Report.{Report}
use Rattle.row.specs.Held.{held_mut}
use Rattle.rules.specs.State.{with_net_set}
use Rattle.event_parts.specs.Parts.{fast_round}
use Rattle.event_parts.proofs.Bounding.{well_bounded, net_bounded}
use Rattle.event_parts.proofs.Dones.{done_as, done_after, done_quiet, part_room}
use Rattle.act.proofs.on_report.Outcomes.{net_seated, change_left, change_seated}
use Rattle.act.proofs.on_report.act_on_change.Goals.{After-own-own, Else-not-serves}
use Rattle.act.proofs.on_report.act_on_change.Goals as goal

abbrev rule : Report → State → Outcome
rule r u = change_rule (with_net u (net_after u.net.bits r))

-- the net view after the report
changed : (s : State) (r : Report) (old net : SeatSet) → net.bits ≡ net_after old.bits r → old ≡ s.net
    → net.bits ≡ net_after s.net.bits r
changed s r old net e f = e ∙ ap (λ (x : SeatSet). net_after x.bits r) f

-- as the code has read it
read : (c : After-own-own)
    → (c.net_after-net.result.bits ≡ net_after (held_mut c.args.row.now).net.bits c.args.r)
    × (c.own-own.result ≡ (held_mut c.args.row.now).own)
read c =
    let e = c.get-held.ensures in (
      changed (held_mut c.args.row.now) c.args.r _ _ c.net_after-net.ensures (rw e at c.net-old.ensures),
      rw e at c.own-own.ensures,
    )

-- the office has a seat in it
seats_own : (c : Else-not-serves) → serves c.net_after-net.result.bits c.own-own.result ≡ true
seats_own c = sym c.serves.ensures ∙ c.if-not-serves.false

seat : (s : State) (r : Report) (net : SeatSet) (own : ℕ) → (net.bits ≡ net_after s.net.bits r) × (own ≡ s.own)
    → serves net.bits own ≡ true → fast_round (with_net_set net s) ≡ rule r s
seat s r net own e t = change_seated s r net own e.0 e.1 t

pub returns-then-not-serves : goal.returns-then-not-serves
returns-then-not-serves c =
    let e = read (goal.at.returns-then-not-serves c).After-own-own in
    done_as (rule c.args.r) (done_quiet _ c.set_net.ensures)
    (change_left _ c.args.r _ _ e.0 e.1 (sym c.serves.ensures ∙ c.if-not-serves.true))

pub fast_round-requires : goal.fast_round-requires
fast_round-requires c =
    let a = c.args in
    let s = held_mut a.row.now in
    let d = c.set_net.ensures.changed.is in
    let net = c.net_after-net.result in
    let e = read (goal.at.fast_round-requires c).After-own-own in
    let t = seats_own (goal.at.fast_round-requires c).Else-not-serves in (
      rw d (net_bounded limit s (well_bounded s c.requires.0) net),
      part_room fast_round c.set_net.new.self (rule a.r s) a.out.now (rw d (seat s a.r net _ e t)) (change_size _)
          c.requires.1,
      rw d (net_seated s a.r net _ e.0 e.1 t),
    )

pub returns : goal.returns
returns c =
    done_as (rule c.args.r) (done_after c.set_net.ensures c.fast_round.ensures)
    (seat _ c.args.r _ _ (read (goal.at.returns c).After-own-own) (seats_own (goal.at.returns c).Else-not-serves))
