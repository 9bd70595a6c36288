use native.Mathlib.Omega.{arith}
use mathlib.Core.Path.{◌≡◌, sym, ap, ◌∙◌}
use mathlib.Core.Bool.{not}
use Rattle.row.specs.Row.{state_of}
use Rattle.seats.specs.Offices.{lowest_of}
use Rattle.seats.proofs.OfficeLaws.{offices_lt}
use Rattle.seats.proofs.OfficeLoops.{first_some, first_none, low_office, low_less, low_next}
use Rattle.rules.specs.Rules.{agrees_in}
use Rattle.agree.proofs.Looking.{agrees_by_code, looks_at_all, looked_at_all, stops, goes_on}
use Rattle.agree.proofs.lacking.lowest_lacking.Goals.{After-disagrees}
use Rattle.agree.proofs.lacking.lowest_lacking.Goals as goal

-- whether the lowest office left has the proposal, by the code's answer
answer : (c : After-disagrees)
    → let s = state_of c.args.row.words.now in
    agrees_in s.mode s (lowest_of c.loop-o.left) ≡ not c.disagrees.result
answer c =
    let f = first_some c.in-Some.ensures in
    rw (← f.1)
    (agrees_by_code _ c.requires _ _ _ c.in-Some.o _
    c.mode-mode.ensures c.number-number.ensures
    c.net-net.ensures (rw c.from.ensures at c.disagrees.ensures))

pub loop-o-init : goal.loop-o-init
loop-o-init c =
    let e = c.touched-offices.ensures in
    let n = c.net-net.ensures in
    (rw e (offices_lt _), rw (e, n) (looks_at_all _))

pub disagrees-requires : goal.disagrees-requires
disagrees-requires c =
    let f = first_some c.in-Some.ensures in
    rw c.from.ensures (low_office c.loop-o.invariant.0 f.0 f.1)

pub returns-then-disagrees : goal.returns-then-disagrees
returns-then-disagrees c =
    let l = c.loop-o in
    let f = first_some c.in-Some.ensures in
    record {
      lowest = f.1
          ∙ sym (stops _ l.left l.invariant.0 f.0
          (answer (goal.at.returns-then-disagrees c).After-disagrees ∙ ap not c.if-disagrees.true))
          ∙ l.invariant.1;
      office = low_office l.invariant.0 f.0 f.1;
    }

pub loop-o-preserved : goal.loop-o-preserved
loop-o-preserved c =
    let l = c.loop-o in
    let f = first_some c.in-Some.ensures in
    rw (low_next l.invariant.0 f.0 f.1) (
      let less = low_less l.invariant.0 f.0 f.1 in omega arith,
      rw f.1 (sym (goes_on _ l.left l.invariant.0 f.0
          (answer (goal.at.loop-o-preserved c).After-disagrees ∙ ap not c.if-disagrees.false)) ∙ l.invariant.1),
    )

pub returns-clause-lowest : goal.returns-clause-lowest
returns-clause-lowest c =
    sym (looked_at_all _) ∙ rw (first_none c.in_default.ensures) at c.loop-o.invariant.1
