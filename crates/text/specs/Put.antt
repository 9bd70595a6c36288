-- Text put into a buffer.
use Rattle.std.specs.Prelude.{◌≡◌, List, ℕ, suc, ◌+◌, ◌^◌, ◌≤◌, ◌<◌, length}
use Rattle.std.proofs.lemmas.List.Edits.{sets}
use Rattle.text.specs.Lengths.{number_length}

-- text stands in o' from a place on, next is the place after it, at most so much further, all else is as it was in o
pub record Put (most : ℕ) (o : List ℕ) (at : ℕ) (text : List ℕ) (next : ℕ) (o' : List ℕ) : Type 0 where
  pub place : next ≡ at + length text
  pub output : o' ≡ sets o at text
  pub short : next ≤ at + most

-- n has this many decimal digits: one, or as many as its first needs
pub record DigitCount (n count : ℕ) : Type 0 where
  pub more : ℕ
  pub is : count ≡ suc more
  pub few : more < number_length
  pub below : n < 10 ^ suc more
  pub above : 0 < more → 10 ^ more ≤ n
