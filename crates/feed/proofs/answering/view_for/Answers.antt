use mathlib.Core.Path.{sym, ◌∙◌}
use Rattle.feed.proofs.answering.view_for.Goals as goal

pub returns-then-roomless : goal.returns-then-roomless
returns-then-roomless c = rw (sym c.roomless.ensures ∙ c.if-roomless.true)

pub view_number-requires : goal.view_number-requires
view_number-requires c =
    (c.requires.0, rw c.room_of-room.ensures (c.requires.1 (sym c.roomless.ensures ∙ c.if-roomless.false)))

pub returns : goal.returns
returns c =
    rw (sym c.roomless.ensures ∙ c.if-roomless.false, sym c.room_of-room.ensures) c.view_number.ensures
