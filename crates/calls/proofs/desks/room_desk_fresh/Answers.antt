use mathlib.Core.Path.{sym, ◌∙◌}
use Rattle.calls.proofs.InDeskWords.{default_left, fresh_made}
use Rattle.calls.proofs.desks.room_desk_fresh.Goals as goal

pub returns : goal.returns
returns c =
    let z = c.default.ensures in
    fresh_made _ (sym c.if-not-is_desk.false ∙ c.is_desk.ensures) _ _ c.fresh_seat-made.ensures _
    (c.unwrap_or.ensures ∙ default_left c.fresh_seat-made.result c.default.result z.0 z.1.0 z.1.1.0 z.1.1.1) _ c.refusal_number.ensures _
    c.put_in_every_room.ensures
