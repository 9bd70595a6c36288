-- Whom an office waits for in a room, of any words.
use Rattle.std.specs.Prelude.{List, ℕ}
use Rattle.laws.specs.Upd.{ifb}
use Rattle.records.specs.Numbers.{room_above}
use Rattle.row.specs.Table.{table_of, sound_table}
use Rattle.waiting.specs.declared.Waiting.{Waiting}
use Rattle.waiting.specs.declared.Waiting.TheVariants as answers
use Rattle.waiting.specs.Waiting.{waiting_for}

-- 2 where any of the rooms fails it, then 20
unfoldable pub waiting_words : List ℕ → ℕ → Waiting
waiting_words ws room =
    ifb (sound_table ws) (ifb (room_above room) answers.NoRoom (waiting_for (table_of ws room))) answers.Malformed
