use mathlib.Core.Path.{◌≡◌, sym, ◌∙◌}
use Rattle.seats.proofs.OfficeLoops.{first_some, first_none, seen_office, seen_next, some_end}
use Rattle.seats.proofs.OfficeLoops.{some_stops}
use Rattle.row.specs.Row.{state_of}
use Rattle.propose.proofs.Calls.{calls_in, calls_read, called_by}
use Rattle.propose.proofs.slow_call.slow_called.Goals.{After-calls}
use Rattle.propose.proofs.slow_call.slow_called.Goals as goal

-- what the code answers for it
answer : (c : After-calls) → calls_in (state_of c.args.row.words.now) c.in-Some.o ≡ c.calls.result
answer c =
    calls_read (state_of c.args.row.words.now) _ _ _ _ _ _ c.mode-mode.ensures (c.from-own.ensures ∙ c.own.ensures)
    c.number-number.ensures c.net-net.ensures (rw c.from.ensures at c.calls.ensures)

pub calls-requires : goal.calls-requires
calls-requires c =
    let f = first_some c.in-Some.ensures in (
      rw c.from.ensures (seen_office c.loop-o.invariant f.0 f.1),
      rw (c.from-own.ensures, c.own.ensures) c.requires.0,
    )

pub returns-then-calls : goal.returns-then-calls
returns-then-calls c =
    let s = state_of c.args.row.words.now in
    let f = first_some c.in-Some.ensures in
    sym (some_stops (calls_in s) c.loop-o.invariant f.0 f.1
    (answer (goal.at.returns-then-calls c).After-calls ∙ c.if-calls.true)) ∙ called_by s c.requires.1

pub loop-o-preserved : goal.loop-o-preserved
loop-o-preserved c =
    let f = first_some c.in-Some.ensures in
    seen_next c.loop-o.invariant f.0 f.1
    (answer (goal.at.loop-o-preserved c).After-calls ∙ c.if-calls.false)

pub returns : goal.returns
returns c =
    let s = state_of c.args.row.words.now in
    sym (some_end (calls_in s) c.loop-o.invariant (first_none c.in_default.ensures)) ∙ called_by s c.requires.1
