-- A desk with its rooms hears records of all of them, one after another; and what of all this is of one room.
use Rattle.std.specs.Prelude.{◌≡◌, List, [], ◌∷◌, ℕ, eqb}
use Rattle.laws.specs.Lists.{runs}
use Rattle.laws.specs.Upd.{ifb}
use Rattle.records.specs.Layout.{room_of}
use Rattle.desk.specs.declared.checks.Desk.{Desk}
use Rattle.desk.specs.Hearing.{hear_of}
use Rattle.desk.specs.Rooms.{RoomsDesk, RoomsHeard, desk_in, hear_rooms}

-- a desk takes bytes one after another: what comes of each, and the desk after them
unfoldable pub rooms_hearings : RoomsDesk → List (List ℕ) → List RoomsHeard
rooms_hearings d [] = []
rooms_hearings d (b ∷ bs) = hear_rooms d b ∷ rooms_hearings (hear_rooms d b).desk bs

abbrev pub rooms_after : RoomsDesk → List (List ℕ) → RoomsDesk
rooms_after = runs (λ d b. (hear_rooms d b).desk)

-- the bytes that name a room, and the refusals or 0 that come of them
unfoldable pub heard_in : ℕ → List (List ℕ) → List (List ℕ)
heard_in room [] = []
heard_in room (b ∷ bs) = ifb (eqb (room_of b) room) (b ∷ heard_in room bs) (heard_in room bs)

unfoldable pub answers_in : ℕ → RoomsDesk → List (List ℕ) → List ℕ
answers_in room d [] = []
answers_in room d (b ∷ bs) =
    let rest = answers_in room (hear_rooms d b).desk bs in
    ifb (eqb (room_of b) room) ((hear_rooms d b).refusal ∷ rest) rest

-- the same of the desk of one room
abbrev pub bytes_after : Desk → List (List ℕ) → Desk
bytes_after = runs (λ d b. (hear_of d b).desk)

unfoldable pub answers_of : Desk → List (List ℕ) → List ℕ
answers_of d [] = []
answers_of d (b ∷ bs) = (hear_of d b).refusal ∷ answers_of (hear_of d b).desk bs

-- what a desk hears is in a room what the desk of that room alone hears of the bytes that name it
pub record SeenIn (room : ℕ) (d : RoomsDesk) (heard : List (List ℕ)) : Type 0 where
  pub after : desk_in (rooms_after d heard) room ≡ bytes_after (desk_in d room) (heard_in room heard)
  pub answers : answers_in room d heard ≡ answers_of (desk_in d room) (heard_in room heard)
