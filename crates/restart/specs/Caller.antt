-- What a caller does with the bytes of an answer when it goes record by record by the call: which bytes go to which
-- places of its file, and which leave.
use Rattle.std.specs.Prelude.{◌≡◌, List, [], ◌∷◌, ◌++◌, map, ℕ, zero, suc, ◌+◌, length, take, drop, eqb, ltb}
use Rattle.laws.specs.Upd.{ifb}
use Rattle.records.specs.Layout.{high_length}
use Rattle.rules.specs.Rules.{Written, notice, proposal, view}
use Rattle.rules.specs.Refusals.{bytes_of}
use Rattle.rules.specs.MarkFile.{whole_end, last_high}
use Rattle.rules.specs.Leaving.{Action, puts, leaves, actions_of, with_byte, file_after, left_in}
use Rattle.restart.specs.Before.{before_of, out_before}

-- a byte goes to a place of the file; the bytes of a record leave
pub data Move : Type 0 where
  writes : (place byte : ℕ) → Move
  sends : List ℕ → Move

unfoldable pub writes_all : ℕ → List ℕ → List Move
writes_all place [] = []
writes_all place (x ∷ b) = writes place x ∷ writes_all (place + 1) b

-- at most n records of `rest`: `last` is the last mark in the file, `place` that of the next, `out` is lent to the
-- call. A higher mark goes into the file byte by byte, then the record leaves. Of no bytes the call refuses by 4.
unfoldable pub moves_in : ℕ → List ℕ → ℕ → ℕ → List ℕ → List Move
moves_in zero out last place rest = []
moves_in (suc n) out last place rest =
    let b = before_of last rest (length out) in
    let o = out_before last rest out in
    let first = sends (take b.length rest) in
    let behind = drop b.length rest in
    ifb (eqb b.refusal 0)
    (ifb (ltb last b.mark)
    (writes_all place (take high_length o) ++ (first ∷ moves_in n o b.mark (place + high_length) behind))
    (first ∷ moves_in n o last place behind)) []

-- all of them, since no record is without a byte
abbrev pub moves_of : List ℕ → ℕ → ℕ → List ℕ → List Move
moves_of out last place rest = moves_in (length rest) out last place rest

-- with the file f
abbrev pub caller_moves : List ℕ → List ℕ → List ℕ → List Move
caller_moves f out rest = moves_of out (last_high f) (whole_end f) rest

-- what moves make of the file, and what left with them
unfoldable pub filed_by : List ℕ → List Move → List ℕ
filed_by f [] = f
filed_by f (writes place x ∷ ms) = filed_by (with_byte f place x) ms
filed_by f (sends b ∷ ms) = filed_by f ms

unfoldable pub sent_by : List Move → List (List ℕ)
sent_by [] = []
sent_by (writes place x ∷ ms) = sent_by ms
sent_by (sends b ∷ ms) = b ∷ sent_by ms

-- what the rules say that an office does in a room, in bytes
abbrev pub move_of : ℕ → Action → Move
move_of room (puts place x) = writes place x
move_of room (leaves w) = sends (bytes_of room w)

-- such moves are what the rules say of the records ws of a room and the file f; cut off after any of them, so are the
-- file and what has left
pub record MovesAs (room : ℕ) (f : List ℕ) (ws : List Written) (ms : List Move) : Type 0 where
  pub moves : ms ≡ map (move_of room) (actions_of f ws)
  pub file : (n : ℕ) → filed_by f (take n ms) ≡ file_after f (take n (actions_of f ws))
  pub left : (n : ℕ) → sent_by (take n ms) ≡ map (bytes_of room) (left_in (take n (actions_of f ws)))

-- where a record has sixteen numbers by its form, it has sixteen
abbrev pub HasSixteen : Written → Type 0
HasSixteen (notice n) = Unit {0}
HasSixteen (proposal p) = length p.used ≡ 16
HasSixteen (view v) = length v.starts ≡ 16
