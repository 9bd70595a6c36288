use mathlib.Core.Path.{◌≡◌}
use lib.ListN.{length}
use Rattle.laws.proofs.Cuts.{same_count}
use Rattle.row.specs.Row.{row_length}
use Rattle.row.proofs.Tables.{sound_length, row_put, row_length_lem}
use Rattle.events.specs.Events.{event_held}
use Rattle.step.proofs.Exits.{row_ready, room_meets}
use borrow.Author.Rules.{rules}
use Rattle.step.proofs.dispatch.act_read.Goals as goal

pub slice_bounds-act_event-end : goal.slice_bounds-act_event-end
slice_bounds-act_event-end c =
    let l = c.requires.in_room in
    let p = c.row_place-at.ensures in
    let long = sound_length c.args.table.now c.requires.ready.sound in
    search rules

pub act_event-requires : goal.act_event-requires
act_event-requires c =
    let ws = c.args.table.now in
    rw (same_count c.row_place-at.result row_length, c.row_place-at.ensures)
    (row_ready ws (event_held c.args.event) (length c.args.out.now) c.requires, c.requires.form)

pub returns : goal.returns
returns c =
    let ws = c.args.table.now in
    let e = event_held c.args.event in
    let o = c.args.out.now in
    let count = same_count c.row_place-at.result row_length in
    let at = c.row_place-at.ensures in
    let long = sound_length ws c.requires.ready.sound in
    let l = c.requires.in_room in
    let row = c.act_event.new.state in
    let kept = rw (count, at) at c.act_event.auto.state in
    let fits : length row ≡ row_length = rw kept (row_length_lem ws e.room long l) in
    let did = rw (count, at) at c.act_event.ensures in
    rw (at, row_put ws row e.room long l fits)
    (room_meets ws e (length o) c.requires o row _ _ _ did)
