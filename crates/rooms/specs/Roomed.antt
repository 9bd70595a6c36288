-- Things with the room that they are of, and those of one room.
use Rattle.std.specs.Prelude.{List, [], ◌∷◌, ℕ, eqb}
use Rattle.laws.specs.Upd.{ifb}
use Rattle.rules.specs.Rules.{Written}
use Rattle.rules.specs.Refusals.{bytes_of}

pub record Roomed (A : Type 0) : Type 0 where
  pub room : ℕ
  pub what : A

module _ {A : Type 0} where
  -- all of room k
  abbrev pub roomed : ℕ → List A → List (Roomed A)
  roomed k [] = []
  roomed k (x ∷ l) = record { room = k; what = x } ∷ roomed k l

  -- those of room k, in order
  unfoldable pub of_room : ℕ → List (Roomed A) → List A
  of_room k [] = []
  of_room k (x ∷ l) = ifb (eqb x.room k) (x.what ∷ of_room k l) (of_room k l)

-- the bytes of a record, which name its room
abbrev pub room_bytes : Roomed Written → List ℕ
room_bytes x = bytes_of x.room x.what
