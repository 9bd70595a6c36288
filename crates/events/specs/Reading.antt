-- The reading call by its parts: 4, 5 and 20 on the bytes, then 6 to 10 and 19 on the event.
use Rattle.std.specs.Prelude.{List, ℕ, eqb, Result, Ok, Err}
use Rattle.laws.specs.Upd.{ifb}
use Rattle.records.specs.Layout.{room_of, check_of}
use Rattle.records.specs.Numbers.{room_above}
use Rattle.records.specs.declared.refusal.Refusal.{Refusal}
use Rattle.records.specs.Refusals.{number}
use Rattle.rules.specs.Refusals.{event_of, form_refusal}
use Rattle.rules.specs.Tables.{no_event}
use Rattle.events.specs.declared.Event.{Event}
use Rattle.events.specs.Events.{EventRead, event_held, holding}

-- a refusal has the event of zeros
abbrev pub refused_read : ℕ → EventRead
refused_read n = record { refusal = n; event = holding no_event.room no_event.what }

-- what code answers of it: the event, or why it is refused
abbrev pub as_read : Result Event Refusal → EventRead
as_read (Ok e) = record { refusal = 0; event = e }
as_read (Err r) = refused_read (number r)

unfoldable pub room_read : Event → EventRead
room_read e = ifb (room_above e.room) (refused_read 20) (record { refusal = 0; event = e })

unfoldable pub decoded_read : List ℕ → EventRead
decoded_read b =
    ifb (eqb (check_of b) 0) (room_read (holding (room_of b) (event_of b))) (refused_read (check_of b))

unfoldable pub formed_read : ℕ → EventRead → EventRead
formed_read office r =
    let n = form_refusal office (event_held r.event).what in
    ifb (eqb r.refusal 0) (ifb (eqb n 0) r (refused_read n)) r
