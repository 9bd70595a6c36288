use mathlib.Core.Path.{sym, ◌∙◌}
use Rattle.records.proofs.Placing.{placed_none}
use Rattle.calls.proofs.InDeskWords.{sync_other, sync_above_lem}
use Rattle.calls.proofs.desks.room_desk_sync.Goals as goal

pub returns-then-not-is_desk : goal.returns-then-not-is_desk
returns-then-not-is_desk c =
    let s = c.args in
    rw (sync_other s.desk.now (sym c.if-not-is_desk.true ∙ c.is_desk.ensures) s.room) (placed_none _ 0)

pub returns-then-room_above : goal.returns-then-room_above
returns-then-room_above c =
    let s = c.args in
    rw (sync_above_lem s.desk.now (sym c.if-not-is_desk.false ∙ c.is_desk.ensures) s.room
    (sym c.room_above.ensures ∙ c.if-room_above.true))
    (placed_none _ 0)
