-- What a server sends to one of its seats in all rooms.
use Rattle.std.specs.Prelude.{List, [], ◌∷◌, ℕ}
use Rattle.laws.specs.Upd.{ifb}
use Rattle.rules.specs.Rules.{Written}
use Rattle.rooms.specs.Roomed.{Roomed}
use Rattle.desk_runs.specs.Sent.{for_seat}

-- those of the records sent that are for the seat, in the order sent
unfoldable pub sent_to_desk : ℕ → List (Roomed Written) → List (Roomed Written)
sent_to_desk seat [] = []
sent_to_desk seat (x ∷ l) = ifb (for_seat seat x.what) (x ∷ sent_to_desk seat l) (sent_to_desk seat l)
