use borrow.Author.Tests.{ne_eqb}
use Rattle.laws.specs.Tab.{tab}
use Rattle.records.specs.Layout.{room_of, decode_view}
use Rattle.record_bytes.proofs.views.InRoomViewRecord.decode.Goals as goal

pub returns-then-bytes-ne-LENGTH : goal.returns-then-bytes-ne-LENGTH
unfolding decode_view room_of tab
returns-then-bytes-ne-LENGTH c = rw (ne_eqb _ _ c.if-bytes-ne-LENGTH.true)
