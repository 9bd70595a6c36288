-- How what is written leaves the office (request 7): before a record with a number above the last mark a mark goes
-- into the file, byte by byte.
use Rattle.std.specs.Prelude.{List, [], ◌∷◌, ◌++◌, ℕ, ◌+◌, max, get_or, take, drop, ltb}
use Rattle.laws.specs.Fin.{largest}
use Rattle.laws.specs.Upd.{ifb}
use Rattle.records.specs.Layout.{high_length}
use Rattle.rules.specs.MarkFile.{whole_end, last_high, next_high, high_bytes}
use Rattle.rules.specs.State.{used_for}
use Rattle.rules.specs.Rules.{Written, notice, proposal, view}

-- the largest number of a record: of all its numbers of four bytes, used numbers and start numbers of other offices
-- too
abbrev pub largest_in : Written → ℕ
largest_in (notice n) = n.start
largest_in (proposal p) = max (max p.start p.number) (largest 16 (used_for p))
largest_in (view v) = max v.number (largest 16 (λ o. get_or v.starts o 0))

-- the number that the office gives out in a record: a start number, a proposal number, a view number
abbrev pub own_number : Written → ℕ
own_number (notice n) = n.start
own_number (proposal p) = p.number
own_number (view v) = v.number

-- what an office does, one after another: a byte goes to a place of its file, a record leaves
pub data Action : Type 0 where
  puts : (place byte : ℕ) → Action
  leaves : Written → Action

unfoldable pub puts_all : ℕ → List ℕ → List Action
puts_all place [] = []
puts_all place (x ∷ b) = puts place x ∷ puts_all (place + 1) b

-- for the records of an answer, in the order written: `last` is the last mark, `place` that of the next one
unfoldable pub actions_from : ℕ → ℕ → List Written → List Action
actions_from last place [] = []
actions_from last place (w ∷ ws) =
    let n = next_high (largest_in w) in
    ifb (ltb last (largest_in w))
    (puts_all place (high_bytes n) ++ (leaves w ∷ actions_from n (place + high_length) ws))
    (leaves w ∷ actions_from last place ws)

-- with the file f; an unfinished last record is overwritten
abbrev pub actions_of : List ℕ → List Written → List Action
actions_of f ws = actions_from (last_high f) (whole_end f) ws

-- what actions make of the file, and the records that left with them
abbrev pub with_byte : List ℕ → ℕ → ℕ → List ℕ
with_byte f place x = take place f ++ (x ∷ drop (place + 1) f)

unfoldable pub file_after : List ℕ → List Action → List ℕ
file_after f [] = f
file_after f (puts place x ∷ acts) = file_after (with_byte f place x) acts
file_after f (leaves w ∷ acts) = file_after f acts

unfoldable pub left_in : List Action → List Written
left_in [] = []
left_in (puts place x ∷ acts) = left_in acts
left_in (leaves w ∷ acts) = w ∷ left_in acts
