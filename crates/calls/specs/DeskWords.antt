-- A desk with its rooms in words: word 0 is the seat, then come three words a room, room 0 first; and what the calls
-- from C leave in them.
use Rattle.std.specs.Prelude.{Bool, not, List, [], ◌∷◌, ◌++◌, ℕ, zero, suc, ◌+◌, ◌*◌, length, get_or, eqb}
use Rattle.std.proofs.lemmas.List.Edits.{sets}
use Rattle.laws.specs.Upd.{ifb}
use Rattle.records.specs.Numbers.{room_count}
use Rattle.records.specs.Layout.{room_of}
use Rattle.desk.specs.Rooms.{SeatMachine, RoomsDesk, RoomsHeard, made_rooms, hear_rooms, sync_in}

abbrev pub desk_length : ℕ
desk_length = 1 + 3 * room_count

-- words of another length are no desk
abbrev pub is_desk : List ℕ → Bool
is_desk ws = eqb (length ws) desk_length

-- where the machine of a room begins
abbrev pub machine_place : ℕ → ℕ
machine_place room = 1 + 3 * room

-- its last start number, its last view number, and 0 where no change is open
abbrev pub machine_at : List ℕ → ℕ → SeatMachine
machine_at ws at =
    record { start = get_or ws at 0; view = get_or ws (at + 1) 0; changing = not (eqb (get_or ws (at + 2) 0) 0) }

unfoldable pub desk_of : List ℕ → RoomsDesk
desk_of ws = record { seat = get_or ws 0 0; machine = λ room. machine_at ws (machine_place room) }

abbrev pub machine_words : SeatMachine → List ℕ
machine_words m = m.start ∷ m.view ∷ ifb m.changing 1 0 ∷ []

-- the machines of the first n rooms, and a whole desk
unfoldable pub machines_words : ℕ → (ℕ → SeatMachine) → List ℕ
machines_words zero machine = []
machines_words (suc n) machine = machines_words n machine ++ machine_words (machine n)

unfoldable pub desk_words : RoomsDesk → List ℕ
desk_words d = d.seat ∷ machines_words room_count d.machine

-- what a call answers, and the words at the end
pub record InWords : Type 0 where
  pub refusal : ℕ
  pub words : List ℕ

-- words that are no desk: 6, and they stay
unfoldable pub fresh_in_words : ℕ → List ℕ → InWords
fresh_in_words seat ws =
    ifb (is_desk ws) (record { refusal = (made_rooms seat).refusal; words = desk_words (made_rooms seat).desk })
    (record { refusal = 6; words = ws })

-- a refusal leaves every word as it was; an accepted record of a room changes the words of its machine only
abbrev pub heard_in_words : List ℕ → ℕ → RoomsHeard → InWords
heard_in_words ws room h =
    ifb (eqb h.refusal 0)
    (record { refusal = 0; words = sets ws (machine_place room) (machine_words (h.desk.machine room)) })
    (record { refusal = h.refusal; words = ws })

unfoldable pub hear_in_words : List ℕ → List ℕ → InWords
hear_in_words ws b =
    ifb (is_desk ws) (heard_in_words ws (room_of b) (hear_rooms (desk_of ws) b)) (record { refusal = 6; words = ws })

-- the bytes of a room's sync record; words that are no desk have none
unfoldable pub sync_in_words : List ℕ → ℕ → List ℕ
sync_in_words ws room = ifb (is_desk ws) (sync_in (desk_of ws) room) []
